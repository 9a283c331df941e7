-- Advancing often or seldom: the state at a reading doesn't depend on earlier calls.
use Rattle.std.specs.Prelude.{ℕ, ◌≤◌}
use Rattle.tk_clock.specs.Reach.{distance}
use Rattle.tk_ntp.specs.SteeredClock.{SteeredClock}
use Rattle.tk_ntp.specs.Advance.{IsAdvanced}

-- `after` is also the state that advancing to the reading leaves at once, if `before` was first
-- advanced to an earlier reading, which left `middle`
abbrev pub IsAtOnce : ℕ → SteeredClock → SteeredClock → Type 0
IsAtOnce reading middle after = (before : SteeredClock) (earlier : ℕ) →
    IsAdvanced earlier before middle →
    distance before.clock.base earlier ≤ distance before.clock.base reading →
    IsAdvanced reading before after
