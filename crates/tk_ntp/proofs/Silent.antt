-- No signal is present until a pulse comes.
use Rattle.std.proofs.Common.{◌≡◌, ◌∙◌, ap, refl, sym, ℕ, Bool, true, false, bit_and, bit_or}
use Rattle.std.specs.Prelude.{ℤ, not, ◌&&◌, nat_eq, nat_lt, unsigned_abs, if◌then◌else◌}
use Rattle.std.specs.Int.{bit_not, w32}
use Rattle.std.specs.Int.Bits.{and_zero_l, and_zero_r}
use Rattle.std.proofs.lemmas.Nat.{and_or_apart, and_assoc, and_comm}
use Rattle.tk_ntp.specs.declared.timex.Timex.{Timex}
use Rattle.tk_ntp.specs.Bits.{has, without, sta_pll, sta_unsync, sta_fll, sta_freqhold, sta_nano, sta_mode, sta_ronly, sta_ppstime, sta_ppssignal, adj_offset, adj_frequency, adj_maxerror, adj_esterror, adj_status, adj_timeconst, adj_micro, adj_nano, adj_tick, adj_adjtime, adj_readonly}
use Rattle.tk_ntp.specs.Leap.{no_plan}
use Rattle.tk_ntp.specs.Loops.{elapsed, offset_of, uses_fll}
use Rattle.tk_ntp.specs.Modes.{asked, merged, requested, with_adjust, with_given_constant, with_given_esterror, with_given_frequency, with_given_maxerror, with_given_offset, with_given_status, with_given_tick, with_pll_off, with_pll_on, with_status, with_units}
use Rattle.tk_ntp.specs.Ntp.{Ntp, cleared}
use Rattle.tk_ntp.specs.Offset.{followed, status_after, with_offset}
use Rattle.tk_ntp.specs.Phase.{gives_whole, part_of, usual_part}
use Rattle.tk_ntp.specs.Pps.{LacksSignal}
use Rattle.tk_ntp.specs.Request.{constant_of, clamped_to, error_limit, gain_of}
use Rattle.tk_ntp.specs.Second.{begun, grown}

or_keeps : (s m : ℕ) → bit_and m sta_ppssignal ≡ 0 → bit_and s sta_ppssignal ≡ 0 →
    bit_and (bit_or s m) sta_ppssignal ≡ 0
or_keeps s m apart h = and_or_apart sta_ppssignal s m apart ∙ h

and_keeps : (s m : ℕ) → bit_and s sta_ppssignal ≡ 0 → bit_and (bit_and s m) sta_ppssignal ≡ 0
and_keeps s m h =
    and_assoc sta_ppssignal s m
    ∙ ap (bit_and s) (and_comm m sta_ppssignal)
    ∙ sym (and_assoc m s sta_ppssignal)
    ∙ ap (λ n. bit_and n m) h
    ∙ and_zero_l m

given_apart : (given : ℕ) → bit_and (without given sta_ronly) sta_ppssignal ≡ 0
given_apart given = and_assoc sta_ppssignal given (bit_not w32 sta_ronly) ∙ and_zero_r given

merged_keeps : (s given : ℕ) → bit_and s sta_ppssignal ≡ 0 →
    bit_and (merged s given) sta_ppssignal ≡ 0
merged_keeps s given h =
    or_keeps (bit_and s sta_ronly) (without given sta_ronly) (given_apart given)
    (and_keeps s sta_ronly h)

either : (test : Bool) (a b : Ntp) → LacksSignal a → LacksSignal b →
    LacksSignal (if test then a else b)
either true a b h k = h
either false a b h k = k

unsync_if : (test : Bool) (s : ℕ) → bit_and s sta_ppssignal ≡ 0 →
    bit_and (if test then bit_or s sta_unsync else s) sta_ppssignal ≡ 0
unsync_if true s h = or_keeps s sta_unsync refl h
unsync_if false s h = h

-- a second turns no signal on
pub begun_silent : (ntp : Ntp) (sec : ℕ) → LacksSignal ntp → LacksSignal (begun ntp sec)
begun_silent ntp sec h = unsync_if (nat_lt error_limit (grown ntp.maxerror)) ntp.status h

pub cleared_silent : (ntp : Ntp) → LacksSignal ntp → LacksSignal (cleared ntp)
cleared_silent ntp h = or_keeps ntp.status sta_unsync refl h

status_silent : (given now : ℕ) (ntp : Ntp) → LacksSignal ntp → LacksSignal (with_status given now ntp)
status_silent given now ntp h =
    let off = either (has ntp.status sta_pll && not (has given sta_pll))
    (record ntp { plan = no_plan; status = sta_unsync }) ntp refl h in
    let turned = with_pll_off given ntp in
    merged_keeps (with_pll_on given now turned).status given
    (either (not (has turned.status sta_pll) && has given sta_pll) (record turned { reftime = now })
    turned off off)

mode_silent : (acts : Bool) (s : ℕ) → bit_and s sta_ppssignal ≡ 0 →
    bit_and (status_after s acts) sta_ppssignal ≡ 0
mode_silent true s h =
    or_keeps (without s sta_mode) sta_mode refl (and_keeps s (bit_not w32 sta_mode) h)
mode_silent false s h = and_keeps s (bit_not w32 sta_mode) h

units_silent : (modes : ℕ) (ntp : Ntp) → LacksSignal ntp → LacksSignal (with_units modes ntp)
units_silent modes ntp h =
    either (has modes adj_micro) (record ntp { status = without ntp.status sta_nano })
    (if has modes adj_nano then record ntp { status = bit_or ntp.status sta_nano } else ntp)
    (and_keeps ntp.status (bit_not w32 sta_nano) h)
    (either (has modes adj_nano) (record ntp { status = bit_or ntp.status sta_nano }) ntp
    (or_keeps ntp.status sta_nano refl h) h)

offset_silent : (given : ℤ) (now : ℕ) (ntp : Ntp) → LacksSignal ntp →
    LacksSignal (with_offset given now ntp)
offset_silent given now ntp h =
    either (has ntp.status sta_pll)
    (followed (offset_of given (has ntp.status sta_nano)) now ntp) ntp
    (mode_silent (uses_fll (elapsed ntp.reftime now (has ntp.status sta_freqhold))
    (has ntp.status sta_fll)) ntp.status h)
    h

-- the modes of a request, in their order
module _ (request : Timex) (now : ℕ) (ntp : Ntp) (h : LacksSignal ntp) where
  status-mode : LacksSignal (with_given_status request now ntp)
  status-mode =
      either (has request.modes adj_status) (with_status request.status now ntp) ntp
      (status_silent request.status now ntp h) h

  frequency-mode : LacksSignal (with_given_frequency request ntp)
  frequency-mode =
      either (has request.modes adj_frequency) (record ntp { frequency = gain_of request.freq }) ntp
      h h

  maxerror-mode : LacksSignal (with_given_maxerror request ntp)
  maxerror-mode =
      either (has request.modes adj_maxerror)
      (record ntp { maxerror = clamped_to error_limit request.maxerror }) ntp h h

  esterror-mode : LacksSignal (with_given_esterror request ntp)
  esterror-mode =
      either (has request.modes adj_esterror)
      (record ntp { esterror = clamped_to error_limit request.esterror }) ntp h h

  constant-mode : LacksSignal (with_given_constant request ntp)
  constant-mode =
      either (has request.modes adj_timeconst)
      (record ntp { constant = constant_of request.constant (has ntp.status sta_nano) }) ntp h h

  offset-mode : LacksSignal (with_given_offset request now ntp)
  offset-mode =
      either (has request.modes adj_offset) (with_offset request.offset now ntp) ntp
      (offset_silent request.offset now ntp h) h

  tick-mode : LacksSignal (with_given_tick request ntp)
  tick-mode =
      either (has request.modes adj_tick) (record ntp { tick = unsigned_abs request.tick }) ntp h h

requested_silent : (request : Timex) (now : ℕ) (ntp : Ntp) → LacksSignal ntp →
    LacksSignal (requested request now ntp)
requested_silent request now ntp h =
    let a = with_given_status request now ntp in
    let b = with_units request.modes a in
    let c = with_given_frequency request b in
    let d = with_given_maxerror request c in
    let e = with_given_esterror request d in
    let f = with_given_constant request e in
    let g = with_given_offset request now f in
    tick-mode request now g
    (offset-mode request now f
    (constant-mode request now e
    (esterror-mode request now d
    (maxerror-mode request now c
    (frequency-mode request now b (units_silent request.modes a (status-mode request now ntp h)))))))

-- a request turns no signal on
pub asked_silent : (request : Timex) (now : ℕ) (ntp : Ntp) → LacksSignal ntp →
    LacksSignal (asked request now ntp)
asked_silent request now ntp h =
    either (has request.modes adj_adjtime) (with_adjust request ntp) (requested request now ntp)
    (either (has request.modes adj_readonly) ntp (record ntp { adjust = request.offset }) h h)
    (requested_silent request now ntp h)

and_no : (b : Bool) → (b && false) ≡ false
and_no true = refl
and_no false = refl

-- without a signal, a second gives the usual part of an offset
pub usual : (offset : ℤ) (constant status : ℕ) → bit_and status sta_ppssignal ≡ 0 →
    part_of offset constant status ≡ usual_part offset constant
usual offset constant status h =
    ap (λ (n : ℕ). if has status sta_ppstime && not (nat_eq n 0) then offset else usual_part offset constant) h
    ∙ ap (λ (b : Bool). if b then offset else usual_part offset constant)
    (and_no (has status sta_ppstime))
