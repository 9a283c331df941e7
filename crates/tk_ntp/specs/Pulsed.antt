-- Pulses to steered clocks: the seconds up to their reading begin first.
use Rattle.std.specs.Prelude.{◌≡◌, ℕ, ⊤, Bool, is_some, Result, Ok, Err, MatchOption, List}
use Rattle.tk_clock.specs.declared.command.Entry.{Entry}
use Rattle.tk_clock.specs.declared.refusal.Refusal.{Refusal}
use Rattle.tk_clock.specs.State.{State}
use Rattle.tk_ntp.specs.declared.pulse.Pulse.{Pulse}
use Rattle.tk_ntp.specs.Advance.{IsAdvanced}
use Rattle.tk_ntp.specs.Asked.{accounted_if, steered_if}
use Rattle.tk_ntp.specs.Course.{Course, seen}
use Rattle.tk_ntp.specs.Entries.{rate_entries_if}
use Rattle.tk_ntp.specs.History.{IsOffsetKept, IsTaiKept, IsTaiSame}
use Rattle.tk_ntp.specs.Keeping.{IsFollowing, second_most}
use Rattle.tk_ntp.specs.Pps.{without_signal}
use Rattle.tk_ntp.specs.Pulse.{with_pulse}
use Rattle.tk_ntp.specs.SteeredClock.{SteeredClock, reading_refusal}

-- whether the present second may get another rate at once
abbrev pub has_frequency : Pulse → Bool
has_frequency pulse = is_some pulse.frequency

-- the state after the discipline has taken a pulse
abbrev pub with_pulsed : Pulse → SteeredClock → SteeredClock
with_pulsed pulse steered = record steered {
  steering = record steered.steering { ntp = with_pulse pulse steered.steering.ntp };
}

-- the state after the signal was lost
abbrev pub with_lost : SteeredClock → SteeredClock
with_lost steered = record steered {
  steering = record steered.steering { ntp = without_signal steered.steering.ntp };
}

-- the state with a pulse and with the lag accounted for, if the rate may change
abbrev pub with_accounted : ℕ → Pulse → SteeredClock → SteeredClock
with_accounted reading pulse steered =
    with_pulsed pulse (accounted_if (has_frequency pulse) reading steered)

-- the state after a pulse
abbrev pub after_pulse : ℕ → Pulse → SteeredClock → SteeredClock
after_pulse reading pulse steered =
    steered_if (has_frequency pulse) reading (with_accounted reading pulse steered)

-- the entries for the rate after a pulse
abbrev pub pulse_entries : ℕ → ℕ → Pulse → SteeredClock → List Entry
pulse_entries who reading pulse steered =
    rate_entries_if (has_frequency pulse) who reading (with_accounted reading pulse steered)

-- the result of a pulse at a reading, and the state after it
abbrev pub IsPulsed : ℕ → Pulse → SteeredClock → Result ⊤ Refusal → SteeredClock → Type 0
IsPulsed reading pulse before result after =
    MatchOption (reading_refusal reading before)
    ((advanced : SteeredClock) × IsAdvanced reading before advanced
    × (result ≡ Ok (tt {0})) × (after ≡ after_pulse reading pulse advanced))
    (λ refusal. (result ≡ Err refusal) × (after ≡ before))

-- no part of the offset is lost and TAI runs on, as the seconds up to a pulse begin; and the pulse
-- leaves TAI at its reading
pub record IsKeptAtPulse (reading : ℕ) (pulse : Pulse) (before after : SteeredClock) : Type 0 where
  pub advanced : SteeredClock
  pub offset : IsOffsetKept reading before advanced
  pub tai : IsTaiKept reading before advanced
  pub taken : after ≡ after_pulse reading pulse advanced
  pub same : IsTaiSame reading advanced.clock after.clock

-- the result of a pulse for clocks that are kept elsewhere (Keeping.antt)
module _ {X : Type 0} (state : X → State) (is_after : X → List Entry → X → Type 0)
    (has_room : ℕ → X → Type 0) (is_short : ℕ → X → Refusal → Type 0) where
  -- the discipline has taken a pulse, after the seconds up to its reading
  pub record IsTakenTo (who reading : ℕ) (pulse : Pulse) (a : X) (before : Course)
      (result : Result ⊤ Refusal) (b : X) (after : Course) : Type 0 where
    pub done : result ≡ Ok (tt {0})
    pub clocks : seen (state b) after ≡ after_pulse reading pulse (seen (state a) before)
    pub entries : is_after a (pulse_entries who reading pulse (seen (state a) before)) b

  -- the result of a pulse, and the state after it: the seconds up to the reading begin first
  abbrev pub IsPulsedTo : ℕ → ℕ → Pulse → X → Course → Result ⊤ Refusal → X → Course → Type 0
  IsPulsedTo who reading pulse a before result b after =
      MatchOption (reading_refusal reading (seen (state a) before))
      (IsFollowing state is_after has_room is_short second_most who reading
      (λ x middle. IsTakenTo who reading pulse x middle result b after) a before result b after)
      (λ refusal. (result ≡ Err refusal) × (b ≡ a) × (after ≡ before))
