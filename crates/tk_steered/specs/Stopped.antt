-- Calls that have no room for entries: they stop, after some of the seconds up to their reading.
use Rattle.std.specs.Prelude.{◌≡◌, ◌⊎◌, ℕ, Result, MatchResult}
use Rattle.tk_clock.specs.declared.refusal.Refusal.{Refusal}
use Rattle.tk_clock.specs.declared.refusal.Refusal.TheVariants.{Full, Memory}
use Rattle.tk_ntp.specs.Advance.{IsAdvancedBy, second_begun_at}
use Rattle.tk_ntp.specs.SteeredClock.{SteeredClock}

-- seconds up to a reading have begun, or none: the others leave the same clocks as all of them
abbrev pub IsOnTheWay : (ℕ → SteeredClock → SteeredClock) → ℕ → SteeredClock → SteeredClock → Type 0
IsOnTheWay begun reading before after = (end : SteeredClock) →
    IsAdvancedBy begun reading after end → IsAdvancedBy begun reading before end

-- a call has no room for the entries of a second or for its own, and stops before it
abbrev pub HasStopped : {R : Type 0} → ℕ → SteeredClock → Result R Refusal → SteeredClock → Type 0
HasStopped reading before result after =
    MatchResult result (λ _. ⊥)
    (λ refusal. ((refusal ≡ Full) ⊎ (refusal ≡ Memory))
    × IsOnTheWay second_begun_at reading before after)
