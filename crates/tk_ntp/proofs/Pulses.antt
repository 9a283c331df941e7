-- Pulses to steered clocks, whoever keeps them.
use Rattle.std.proofs.Common.{◌≡◌, refl, subst, ℕ, false, inr, List}
use Rattle.std.specs.Prelude.{⊤, Option, Some, None, Result, Ok, Err, MatchOption, MatchResult}
use Rattle.tk_clock.specs.declared.command.Entry.{Entry}
use Rattle.tk_clock.specs.declared.refusal.Refusal.{Refusal}
use Rattle.tk_clock.specs.State.{State}
use Rattle.tk_ntp.specs.declared.pulse.Pulse.{Pulse}
use Rattle.tk_ntp.specs.Advance.{IsAdvanced}
use Rattle.tk_ntp.specs.Course.{Course, seen}
use Rattle.tk_ntp.specs.Keeping.{HasArrived, IsAdvancedTo, IsFollowing, IsReady, second_most}
use Rattle.tk_ntp.specs.Pulsed.{IsPulsed, IsPulsedTo, IsTakenTo, after_pulse}
use Rattle.tk_ntp.specs.SteeredClock.{SteeredClock, reading_refusal}
use Rattle.tk_ntp.proofs.Alone.{clocks_of, any_entries, any_room, never_short, followed_alone, same_alone}

module _ {X : Type 0} (state : X → State) (is_after : X → List Entry → X → Type 0)
    (has_room : ℕ → X → Type 0) (is_short : ℕ → X → Refusal → Type 0) where
  pulsed-by : (refused : Option Refusal) (who reading : ℕ) (pulse : Pulse) (a x ready : X)
      (before middle : Course) (result : Result ⊤ Refusal) (b : X) (after : Course) →
      MatchOption refused
      (HasArrived state is_after has_room is_short false who reading a before x middle)
      (λ refusal. (Ok (tt {0}) ≡ Err refusal) × (x ≡ a) × (middle ≡ before)) →
      IsReady state is_after has_room is_short second_most x ready →
      IsTakenTo state is_after has_room is_short who reading pulse ready middle result b after →
      MatchOption refused
      (IsFollowing state is_after has_room is_short second_most who reading
      (λ y course. IsTakenTo state is_after has_room is_short who reading pulse y course result b
      after) a before result b after)
      (λ refusal. (result ≡ Err refusal) × (b ≡ a) × (after ≡ before))
  pulsed-by None who reading pulse a x ready before middle result b after arrived room taken =
      inr (x, ready, middle, arrived, room, taken)
  pulsed-by (Some refusal) who reading pulse a x ready before middle result b after arrived room
      taken =
      absurd (cc arrived.0)

  -- a pulse, after the seconds up to its reading
  pub pulsed : (who reading : ℕ) (pulse : Pulse) (a x ready : X) (before middle : Course)
      (result : Result ⊤ Refusal) (b : X) (after : Course) →
      IsAdvancedTo state is_after has_room is_short false who reading a before (Ok (tt {0})) x middle →
      IsReady state is_after has_room is_short second_most x ready →
      IsTakenTo state is_after has_room is_short who reading pulse ready middle result b after →
      IsPulsedTo state is_after has_room is_short who reading pulse a before result b after
  pulsed who reading pulse a x ready before middle result b after =
      pulsed-by (reading_refusal reading (seen (state a) before)) who reading pulse a x ready before
      middle result b after

pulsed_alone-by : (refused : Option Refusal) (who reading : ℕ) (pulse : Pulse) (a : State)
    (before : Course) (result : Result ⊤ Refusal) (b : State) (after : Course) →
    MatchOption refused
    (IsFollowing clocks_of any_entries any_room never_short second_most who reading
    (λ x middle. IsTakenTo clocks_of any_entries any_room never_short who reading pulse x middle
    result b after) a before result b after)
    (λ r. (result ≡ Err r) × (b ≡ a) × (after ≡ before)) →
    MatchOption refused
    ((advanced : SteeredClock) × IsAdvanced reading (seen a before) advanced
    × (result ≡ Ok (tt {0})) × (seen b after ≡ after_pulse reading pulse advanced))
    (λ r. (result ≡ Err r) × (seen b after ≡ seen a before))
pulsed_alone-by None who reading pulse a before result b after h =
    let taken = followed_alone second_most who reading (λ x middle.
    IsTakenTo clocks_of any_entries any_room never_short who reading pulse x middle result b after)
    a before result b after h in (
      seen taken.0 taken.2,
      taken.3,
      taken.5.done,
      subst (λ (k : State). seen b after ≡ after_pulse reading pulse (seen k taken.2)) taken.4
          taken.5.clocks,
    )
pulsed_alone-by (Some refusal) who reading pulse a before result b after h =
    (h.0, same_alone a b before after h.1 h.2)

-- a pulse to clocks by themselves
pub pulsed_alone : (who reading : ℕ) (pulse : Pulse) (a : State) (before : Course)
    (result : Result ⊤ Refusal) (b : State) (after : Course) →
    IsPulsedTo clocks_of any_entries any_room never_short who reading pulse a before result b after →
    IsPulsed reading pulse (seen a before) result (seen b after)
pulsed_alone who reading pulse a before result b after =
    pulsed_alone-by (reading_refusal reading (seen a before)) who reading pulse a before result b
    after
