-- A request that gives no offset, no frequency and no tick leaves the length of the second.
use Rattle.std.proofs.Common.{◌≡◌, ◌∙◌, refl, sym, ap, ℕ, Bool, true, false, not, ◌&&◌, nat_eq, arith}
use Rattle.std.specs.Prelude.{bit_and, bit_or, if◌then◌else◌}
use Rattle.std.proofs.lemmas.Grind.{common_steps}
use Rattle.std.proofs.lemmas.Nat.{and_assoc}
use Rattle.tk_ntp.specs.declared.timex.Timex.{Timex}
use Rattle.tk_ntp.specs.Asked.{changes_rate, rate_modes}
use Rattle.tk_ntp.specs.Bits.{has, without, sta_nano, sta_pll, sta_unsync, adj_adjtime, adj_esterror, adj_maxerror, adj_micro, adj_nano, adj_readonly, adj_status, adj_timeconst}
use Rattle.tk_ntp.specs.Leap.{no_plan}
use Rattle.tk_ntp.specs.Modes.{asked, requested, with_adjust, with_given_constant, with_given_esterror, with_given_frequency, with_given_maxerror, with_given_offset, with_given_status, with_pll_off, with_pll_on, with_status, with_units}
use Rattle.tk_ntp.specs.Ntp.{Ntp, second_length}
use Rattle.tk_ntp.specs.Request.{clamped_to, constant_of, error_limit}

record IsSame (before after : Ntp) : Type 0 where
  hz : after.hz ≡ before.hz
  tick : after.tick ≡ before.tick
  frequency : after.frequency ≡ before.frequency
  phase : after.phase ≡ before.phase

same : (ntp : Ntp) → IsSame ntp ntp
same ntp = record { hz = refl; tick = refl; frequency = refl; phase = refl }

then_same : (a b c : Ntp) → IsSame a b → IsSame b c → IsSame a c
then_same a b c h k = record {
  hz = k.hz ∙ h.hz;
  tick = k.tick ∙ h.tick;
  frequency = k.frequency ∙ h.frequency;
  phase = k.phase ∙ h.phase;
}

if-same : (test : Bool) (ntp a b : Ntp) → IsSame ntp a → IsSame ntp b →
    IsSame ntp (if test then a else b)
if-same true ntp a b h k = h
if-same false ntp a b h k = k

pll_off-same : (given : ℕ) (ntp : Ntp) → IsSame ntp (with_pll_off given ntp)
pll_off-same given ntp =
    if-same (has ntp.status sta_pll && not (has given sta_pll)) ntp
    (record ntp { plan = no_plan; status = sta_unsync }) ntp
    (record { hz = refl; tick = refl; frequency = refl; phase = refl }) (same ntp)

pll_on-same : (given now : ℕ) (ntp : Ntp) → IsSame ntp (with_pll_on given now ntp)
pll_on-same given now ntp =
    if-same (not (has ntp.status sta_pll) && has given sta_pll) ntp
    (record ntp { reftime = now }) ntp
    (record { hz = refl; tick = refl; frequency = refl; phase = refl }) (same ntp)

status-same : (given now : ℕ) (ntp : Ntp) → IsSame ntp (with_status given now ntp)
status-same given now ntp =
    let off = with_pll_off given ntp in
    let on = then_same ntp off (with_pll_on given now off) (pll_off-same given ntp)
    (pll_on-same given now off) in
    record { hz = on.hz; tick = on.tick; frequency = on.frequency; phase = on.phase }

given_status-same : (request : Timex) (now : ℕ) (ntp : Ntp) →
    IsSame ntp (with_given_status request now ntp)
given_status-same request now ntp =
    if-same (has request.modes adj_status) ntp (with_status request.status now ntp) ntp
    (status-same request.status now ntp) (same ntp)

units-same : (modes : ℕ) (ntp : Ntp) → IsSame ntp (with_units modes ntp)
units-same modes ntp =
    let nano : Ntp = record ntp { status = bit_or ntp.status sta_nano } in
    let micro : Ntp = record ntp { status = without ntp.status sta_nano } in
    if-same (has modes adj_micro) ntp micro (if has modes adj_nano then nano else ntp)
    (record { hz = refl; tick = refl; frequency = refl; phase = refl })
    (if-same (has modes adj_nano) ntp nano ntp
    (record { hz = refl; tick = refl; frequency = refl; phase = refl }) (same ntp))

maxerror-same : (request : Timex) (ntp : Ntp) → IsSame ntp (with_given_maxerror request ntp)
maxerror-same request ntp =
    if-same (has request.modes adj_maxerror) ntp
    (record ntp { maxerror = clamped_to error_limit request.maxerror }) ntp
    (record { hz = refl; tick = refl; frequency = refl; phase = refl }) (same ntp)

esterror-same : (request : Timex) (ntp : Ntp) → IsSame ntp (with_given_esterror request ntp)
esterror-same request ntp =
    if-same (has request.modes adj_esterror) ntp
    (record ntp { esterror = clamped_to error_limit request.esterror }) ntp
    (record { hz = refl; tick = refl; frequency = refl; phase = refl }) (same ntp)

constant-same : (request : Timex) (ntp : Ntp) → IsSame ntp (with_given_constant request ntp)
constant-same request ntp =
    if-same (has request.modes adj_timeconst) ntp
    (record ntp { constant = constant_of request.constant (has ntp.status sta_nano) }) ntp
    (record { hz = refl; tick = refl; frequency = refl; phase = refl }) (same ntp)

adjust-same : (request : Timex) (ntp : Ntp) → IsSame ntp (with_adjust request ntp)
adjust-same request ntp =
    if-same (has request.modes adj_readonly) ntp ntp (record ntp { adjust = request.offset })
    (same ntp) (record { hz = refl; tick = refl; frequency = refl; phase = refl })

-- a mode among those that change the rate isn't given, if none of them is
is_zero : (n : ℕ) → not (nat_eq n 0) ≡ false → n ≡ 0
is_zero n h = grind (arith, common_steps)

has_none : (modes part : ℕ) → bit_and rate_modes part ≡ part → bit_and 0 part ≡ 0 →
    has modes rate_modes ≡ false → has modes part ≡ false
has_none modes part inside nothing none =
    let zero : bit_and modes part ≡ 0 =
    ap (bit_and modes) (sym inside)
    ∙ sym (and_assoc part modes rate_modes)
    ∙ ap (λ (n : ℕ). bit_and n part) (is_zero (bit_and modes rate_modes) none)
    ∙ nothing in
    ap (λ (n : ℕ). not (nat_eq n 0)) zero

unless : (test : Bool) (a b : Ntp) → test ≡ false → IsSame b (if test then a else b)
unless false a b is = same b
unless true a b is = absurd (cc)

requested-same : (request : Timex) (now : ℕ) (ntp : Ntp) →
    has request.modes rate_modes ≡ false → IsSame ntp (requested request now ntp)
requested-same request now ntp none =
    let status = with_given_status request now ntp in
    let units = with_units request.modes status in
    let frequency = with_given_frequency request units in
    let maxerror = with_given_maxerror request frequency in
    let esterror = with_given_esterror request maxerror in
    let constant = with_given_constant request esterror in
    let offset = with_given_offset request now constant in
    then_same ntp status (requested request now ntp) (given_status-same request now ntp)
    (then_same status units (requested request now ntp) (units-same request.modes status)
    (then_same units frequency (requested request now ntp)
    (unless (has request.modes 2) _ units (has_none request.modes 2 refl refl none))
    (then_same frequency maxerror (requested request now ntp) (maxerror-same request frequency)
    (then_same maxerror esterror (requested request now ntp) (esterror-same request maxerror)
    (then_same esterror constant (requested request now ntp) (constant-same request esterror)
    (then_same constant offset (requested request now ntp)
    (unless (has request.modes 1) _ constant (has_none request.modes 1 refl refl none))
    (unless (has request.modes 16384) _ offset (has_none request.modes 16384 refl refl none))))))))

by_mode : (old : Bool) (request : Timex) (now : ℕ) (ntp : Ntp) →
    (has request.modes rate_modes && not old) ≡ false →
    IsSame ntp (if old then with_adjust request ntp else requested request now ntp)
by_mode true request now ntp h = adjust-same request ntp
by_mode false request now ntp h =
    requested-same request now ntp (alone (has request.modes rate_modes) h)
  where
    alone : (test : Bool) → (test && not false) ≡ false → test ≡ false
    alone true h = h
    alone false h = refl

pub length-kept : (request : Timex) (now : ℕ) (ntp : Ntp) → changes_rate request.modes ≡ false →
    second_length (asked request now ntp) ≡ second_length ntp
length-kept request now ntp h =
    let is = by_mode (has request.modes adj_adjtime) request now ntp h in
    rw (is.hz, is.tick, is.frequency, is.phase) refl
