-- A pulse of a signal to steered clocks that count their commands, as a C caller gets its result.
use Rattle.std.specs.Prelude.{◌≡◌, ℕ, ◌^◌, ⊤, Bool, ◌&&◌, nat_lt, Option, None, Some, Result, MatchOption, MatchResult, if◌then◌else◌}
use Rattle.tk_clock.specs.declared.refusal.Refusal.{Refusal}
use Rattle.tk_clock.specs.declared.refusal.Refusal.TheVariants.{Invalid}
use Rattle.tk_ntp.specs.Course.{course_of}
use Rattle.tk_ntp.specs.Pps.{Pps}
use Rattle.tk_ntp.specs.Pulse.{pulse_of, pulsed}
use Rattle.tk_ntp.specs.Pulsed.{IsPulsedTo}
use Rattle.tk_c.specs.declared.counted_ntp.SteeredCount.{SteeredCount}
use Rattle.tk_c.specs.CallResults.{code_of_call}
use Rattle.tk_c.specs.Codes.{number_of, code_of_refusal}
use Rattle.tk_c.specs.CountedNtp.{counted_clock}
use Rattle.tk_c.specs.Room.{HasCounted, HasRoom, IsShort, clocks_of}

-- whether the times of a pulse are in their ranges: the nanoseconds of REALTIME's second, and those
-- of MONOTONIC_RAW
abbrev pub is_pulse : ℕ → ℕ → Bool
is_pulse nsec raw = nat_lt nsec 1000000000 && nat_lt raw (2 ^ 63)

abbrev pub pulse_refusal : ℕ → ℕ → Option Refusal
pulse_refusal nsec raw = if is_pulse nsec raw then None else Some Invalid

-- the code of a pulse, and the clocks and the signal after it. `clocks` names the commands of the
-- seconds that begin before it, and those of the pulse: all of them are counted. At a refusal the
-- signal remains as it was
pub record IsPulseTaken (old : SteeredCount) (pps : Pps) (reading nsec raw code : ℕ)
    (new : SteeredCount) (pps' : Pps) : Type 0 where
  pub called : Result ⊤ Refusal
  pub clocks : IsPulsedTo clocks_of HasCounted HasRoom IsShort 0 reading (pulse_of nsec raw pps)
      (counted_clock old) (course_of old.steered) called (counted_clock new) (course_of new.steered)
  pub signal : MatchResult called
      (λ _. pps' ≡ pulsed nsec raw pps)
      (λ refusal. pps' ≡ pps)
  pub stated : code ≡ number_of (code_of_call called)

-- the same for any times: those out of their ranges are refused before all else
abbrev pub IsPulseAnswered : SteeredCount → Pps → ℕ → ℕ → ℕ → ℕ → SteeredCount → Pps → Type 0
IsPulseAnswered old pps reading nsec raw code new pps' =
    MatchOption (pulse_refusal nsec raw)
    (IsPulseTaken old pps reading nsec raw code new pps')
    (λ refusal. (code ≡ number_of (code_of_refusal refusal)) × (new ≡ old) × (pps' ≡ pps))
