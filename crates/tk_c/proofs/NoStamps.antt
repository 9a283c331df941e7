-- A list without stamps: nothing is converted, whatever the size of the output list, which stays
-- unchanged.
use Rattle.std.proofs.Common.{◌≡◌, ◌<◌, ◌≤◌, ◌⊎◌, ℕ, List, [], length, Option, Some, None, MatchOption, Ok, refl, inr, zero-le, not-suc-le-zero}
use Rattle.tk_clock.specs.State.{ReadBase}
use Rattle.tk_clock.specs.declared.clock_id.ClockId.{ClockId}
use Rattle.tk_c.specs.Codes.{number_of}
use Rattle.tk_c.specs.Converted.{IsConverted, IsAnswered}
use Rattle.tk_c.specs.Named.{clock_named}
use Rattle.tk_c.specs.declared.code.Code.TheVariants.{Done, BadClock, BadRoom}

module _ (base : ReadBase) (out : List ℕ) (before after code : ℕ) where
  none_converted : (named : ClockId) → code ≡ number_of Done → after ≡ 0 → IsConverted base named [] out out after code
  none_converted named done none = record {
    answer = Ok tt;
    batch = record {
      converted = λ k low high. absurd (not-suc-le-zero high);
      before = λ k low. refl;
      after = λ k high. refl;
    };
    count = none;
    stated = done;
  }

  none_of : (named : Option ClockId)
      → MatchOption named ((code ≡ number_of BadClock) × (after ≡ before)) (λ clock. (code ≡ number_of Done) × (after ≡ 0))
      → MatchOption named ((code ≡ number_of BadClock) × (out ≡ out) × (after ≡ before))
      (λ clock. ((length out < 0) × (code ≡ number_of BadRoom) × (out ≡ out) × (after ≡ before)) ⊎ ((0 ≤ length out) × IsConverted base clock [] out out after code))
  none_of None stated = (stated.0, refl, stated.1)
  none_of (Some clock) stated = inr (zero-le, none_converted clock stated.0 stated.1)

pub none_answered : (base : ReadBase) (clock : ℕ) (out : List ℕ) (before after code : ℕ)
    → MatchOption (clock_named clock) ((code ≡ number_of BadClock) × (after ≡ before)) (λ named. (code ≡ number_of Done) × (after ≡ 0))
    → IsAnswered base clock [] out out before after code
none_answered base clock out before after code = none_of base out before after code (clock_named clock)
