-- The laws of the accounts and of the lag, after a pulse.
use Rattle.std.proofs.Common.{◌≡◌, ◌∙◌, refl, sym, ap, subst, ℕ, inl, inr, Bool, true, false, Option, Some, None, MatchOption}
use Rattle.std.specs.Prelude.{⊤, ℤ, pos, is_none, is_some, Result, Ok, Err, IfOk, if◌then◌else◌}
use Rattle.tk_clock.specs.declared.refusal.Refusal.{Refusal}
use Rattle.tk_ntp.specs.declared.pulse.Pulse.{Pulse}
use Rattle.tk_ntp.specs.Account.{IsBalanced, IsLeft, IsConsistent}
use Rattle.tk_ntp.specs.Advance.{IsAdvanced, second_begun_at}
use Rattle.tk_ntp.specs.Asked.{accounted_if, steered_if}
use Rattle.tk_ntp.specs.Bits.{has, sta_ppstime}
use Rattle.tk_ntp.specs.Loops.{phase_share}
use Rattle.tk_ntp.specs.Ntp.{Ntp, second_length}
use Rattle.tk_ntp.specs.Pulse.{with_pulse, with_pulse_bits, with_pulse_correction, with_pulse_frequency}
use Rattle.tk_ntp.specs.History.{IsTaiSame}
use Rattle.tk_ntp.specs.Pulsed.{IsKeptAtPulse, IsPulsed, after_pulse, has_frequency, with_pulsed}
use Rattle.tk_ntp.specs.Steady.{IsSinceAfter, IsSmallIn, IsSmallOrSame}
use Rattle.tk_ntp.specs.Steering.{commands}
use Rattle.tk_ntp.specs.SteeredClock.{SteeredClock, rate_in_force, reading_refusal, steered_at}
use Rattle.tk_ntp.proofs.Accepted.{ahead_at, awake_at}
use Rattle.tk_ntp.proofs.Account.{awake-after, consistent-after, never}
use Rattle.tk_ntp.proofs.Called.{kept-since, left-small}
use Rattle.tk_ntp.proofs.History.{offset_kept}
use Rattle.tk_ntp.proofs.Left.{accounted-left, same-left, IsSameRate}
use Rattle.tk_ntp.proofs.Consistent.{at_mark, consistent_made, none_before, steered-made}
use Rattle.tk_ntp.proofs.Often.{none_left}
use Rattle.tk_ntp.proofs.Passed.{still_ahead}
use Rattle.tk_ntp.proofs.Settled.{settled, IsMoved}
use Rattle.tk_ntp.proofs.Steady.{stays_small}
use Rattle.tk_ntp.proofs.TaiKept.{change-tai, tai_kept}

-- the state after a pulse; `does` says whether the pulse has a frequency
abbrev taken : Bool → ℕ → Pulse → SteeredClock → SteeredClock
taken does reading pulse s =
    steered_if does reading (with_pulsed pulse (accounted_if does reading s))

pulse-moved : (does : Bool) (reading : ℕ) (pulse : Pulse) (s : SteeredClock) →
    IsMoved reading s (taken does reading pulse s)
pulse-moved true reading pulse s =
    inr (refl, (steered-made reading (with_pulsed pulse (accounted_if true reading s))).units)
pulse-moved false reading pulse s = inl (refl, refl)

pulse-left : (does : Bool) (reading : ℕ) (pulse : Pulse) (s : SteeredClock) →
    let after = taken does reading pulse s in IsLeft false after.last_account after.steering.lag s
pulse-left true reading pulse s = accounted-left reading s
pulse-left false reading pulse s = same-left s (taken false reading pulse s) refl refl

pulse-consistent : (does : Bool) (reading : ℕ) (pulse : Pulse) (s : SteeredClock) → IsConsistent s →
    IsConsistent (at_mark reading s) → IsConsistent (taken does reading pulse s)
pulse-consistent true reading pulse s consistent before =
    let begun = with_pulsed pulse (accounted_if true reading s) in
    consistent_made reading s (steered_at reading begun) refl refl (steered-made reading begun) before
pulse-consistent false reading pulse s consistent before =
    record { ahead = consistent.ahead; asleep = consistent.asleep; nearer = consistent.nearer }

-- a pulse without a frequency leaves the length of the second
correction-length : (test : Bool) (offset adjust : ℤ) (ntp : Ntp) →
    second_length (if test then record ntp { offset = offset; adjust = adjust } else ntp)
    ≡ second_length ntp
correction-length true offset adjust ntp = refl
correction-length false offset adjust ntp = refl

corrected-length : (correction : Option ℤ) (ntp : Ntp) →
    second_length (with_pulse_correction correction ntp) ≡ second_length ntp
corrected-length None ntp = refl
corrected-length (Some correction) ntp =
    correction-length (has ntp.status sta_ppstime) (phase_share correction ntp.hz) (pos 0) ntp

measured-same : (frequency : Option ℤ) (ntp : Ntp) → is_none frequency ≡ true →
    with_pulse_frequency frequency ntp ≡ ntp
measured-same None ntp none = refl
measured-same (Some frequency) ntp none = absurd (never (sym none))

pulse-length : (pulse : Pulse) (ntp : Ntp) → is_none pulse.frequency ≡ true →
    second_length (with_pulse pulse ntp) ≡ second_length ntp
pulse-length pulse ntp none =
    let shown = with_pulse_bits pulse.status ntp in
    corrected-length pulse.correction (with_pulse_frequency pulse.frequency shown)
    ∙ ap second_length (measured-same pulse.frequency shown none)

no_some : (frequency : Option ℤ) → is_none frequency ≡ true → is_some frequency ≡ false
no_some None none = refl
no_some (Some frequency) none = absurd (never (sym none))

taken-rate : (does : Bool) (reading : ℕ) (pulse : Pulse) (s : SteeredClock) → does ≡ false →
    IsSameRate s.clock (taken does reading pulse s).clock
taken-rate false reading pulse s is = record { counter = refl; mult = refl }
taken-rate true reading pulse s is = absurd (never is)

taken-ntp : (does : Bool) (reading : ℕ) (pulse : Pulse) (s : SteeredClock) →
    (taken does reading pulse s).steering.ntp ≡ with_pulse pulse s.steering.ntp
taken-ntp true reading pulse s = refl
taken-ntp false reading pulse s = refl

pulse-since : (reading : ℕ) (pulse : Pulse) (s : SteeredClock) →
    is_none pulse.frequency ≡ true → IsSinceAfter s (after_pulse reading pulse s)
pulse-since reading pulse s none =
    let does = has_frequency pulse in
    kept-since s (after_pulse reading pulse s)
    (taken-rate does reading pulse s (no_some pulse.frequency none))
    (ap second_length (taken-ntp does reading pulse s) ∙ pulse-length pulse s.steering.ntp none)
    (pulse-left does reading pulse s)

module _ (reading : ℕ) (pulse : Pulse) (s : SteeredClock) where
  -- what holds if nothing changed, and after the seconds up to the reading and the pulse
  pulsed-holds : (P : SteeredClock → Type 0) (after : SteeredClock) (result : Result ⊤ Refusal)
      (refused : Option Refusal) → reading_refusal reading s ≡ refused →
      MatchOption refused
      ((advanced : SteeredClock) × IsAdvanced reading s advanced × (result ≡ Ok (tt {0}))
      × (after ≡ after_pulse reading pulse advanced))
      (λ r. (result ≡ Err r) × (after ≡ s)) →
      P s →
      ((advanced : SteeredClock) → reading_refusal reading s ≡ None →
      IsAdvanced reading s advanced → P (after_pulse reading pulse advanced)) →
      P after
  pulsed-holds P after result None is h same does =
      subst P (sym h.3) (does h.0 is h.1)
  pulsed-holds P after result (Some r) is h same does = subst P (sym h.1) same

  pulse-balanced : (advanced : SteeredClock) → reading_refusal reading s ≡ None →
      IsAdvanced reading s advanced → IsConsistent s →
      IsBalanced (λ _. false) reading s (after_pulse reading pulse advanced)
  pulse-balanced advanced accepted chain consistent =
      let does = has_frequency pulse in
      inr (settled (λ _. false) reading s advanced (after_pulse reading pulse advanced) accepted
      chain consistent (pulse-moved does reading pulse advanced)
      (pulse-left does reading pulse advanced))

  pulse-small : (advanced : SteeredClock) → IsAdvanced reading s advanced →
      IsSmallIn (is_none pulse.frequency) reading s (after_pulse reading pulse advanced)
  pulse-small advanced chain = record {
    advanced = advanced;
    stays = stays_small reading s advanced chain;
    small =
        left-small false advanced (after_pulse reading pulse advanced)
        (pulse-left (has_frequency pulse) reading pulse advanced);
    since = λ none. pulse-since reading pulse advanced none;
  }

  pulse-stays : (advanced : SteeredClock) → reading_refusal reading s ≡ None →
      IsAdvanced reading s advanced → IsConsistent s → IsConsistent (after_pulse reading pulse advanced)
  pulse-stays advanced accepted chain consistent =
      let awake = awake_at reading s accepted in
      pulse-consistent (has_frequency pulse) reading pulse advanced
      (consistent-after reading s advanced chain consistent awake)
      (none_before reading advanced (none_left second_begun_at reading s advanced chain)
      (still_ahead reading s advanced chain (ahead_at reading s accepted))
      (awake-after reading s advanced chain awake))

  -- the accounts add up to what the clocks were asked for
  pub pulsed_sum : (after : SteeredClock) (result : Result ⊤ Refusal) →
      IsPulsed reading pulse s result after → IsConsistent s →
      IsBalanced (λ _. false) reading s after
  pulsed_sum after result h consistent =
      pulsed-holds (IsBalanced (λ _. false) reading s) after result (reading_refusal reading s) refl
      h (inl refl) (λ advanced accepted chain. pulse-balanced advanced accepted chain consistent)

  -- the lag stays small
  pub pulsed_small : (after : SteeredClock) (result : Result ⊤ Refusal) →
      IsPulsed reading pulse s result after →
      IsSmallOrSame (is_none pulse.frequency) reading s after
  pulsed_small after result h =
      pulsed-holds (IsSmallOrSame (is_none pulse.frequency) reading s) after result
      (reading_refusal reading s) refl h (inl refl)
      (λ advanced accepted chain. inr (pulse-small advanced chain))

  -- the last account stays after the last command, and before the next second
  pub pulsed_consistent : (after : SteeredClock) (result : Result ⊤ Refusal) →
      IsPulsed reading pulse s result after → IsConsistent s → IsConsistent after
  pulsed_consistent after result h consistent =
      pulsed-holds IsConsistent after result (reading_refusal reading s) refl h consistent
      (λ advanced accepted chain. pulse-stays advanced accepted chain consistent)

taken-tai : (does : Bool) (reading : ℕ) (pulse : Pulse) (s : SteeredClock) →
    IsTaiSame reading s.clock (taken does reading pulse s).clock
taken-tai true reading pulse s =
    let begun = with_pulsed pulse (accounted_if true reading s) in
    let clock = s.clock in
    change-tai reading (commands clock.base.counter (rate_in_force clock) begun.steering) clock
taken-tai false reading pulse s = refl

kept-by : (reading : ℕ) (pulse : Pulse) (s after : SteeredClock) (result : Result ⊤ Refusal)
    (refused : Option Refusal) →
    MatchOption refused
    ((advanced : SteeredClock) × IsAdvanced reading s advanced × (result ≡ Ok (tt {0}))
    × (after ≡ after_pulse reading pulse advanced))
    (λ r. (result ≡ Err r) × (after ≡ s)) →
    IfOk result (λ _. IsKeptAtPulse reading pulse s after)
kept-by reading pulse s after (Err r) refused h = tt
kept-by reading pulse s after (Ok done) (Some r) h = absurd (cc h.0)
kept-by reading pulse s after (Ok done) None h = record {
  advanced = h.0;
  offset = offset_kept reading s h.0 h.1;
  tai = tai_kept reading s h.0 h.1;
  taken = h.3;
  same =
      subst (λ (t : SteeredClock). IsTaiSame reading h.0.clock t.clock) (sym h.3)
      (taken-tai (has_frequency pulse) reading pulse h.0);
}

-- no part of the offset is lost, and TAI runs on
pub pulsed_kept : (reading : ℕ) (pulse : Pulse) (s after : SteeredClock)
    (result : Result ⊤ Refusal) → IsPulsed reading pulse s result after →
    IfOk result (λ _. IsKeptAtPulse reading pulse s after)
pulsed_kept reading pulse s after result =
    kept-by reading pulse s after result (reading_refusal reading s)
