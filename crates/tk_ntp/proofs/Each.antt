-- What holds of any second that begins holds of all of them.
use Rattle.std.proofs.Common.{ℕ}
use Rattle.tk_ntp.specs.Advance.{AreEach, Arrived, Begins, IsAdvancedBy}
use Rattle.tk_ntp.specs.SteeredClock.{SteeredClock}

pub each : (begun : ℕ → SteeredClock → SteeredClock) (Fact : ℕ → SteeredClock → Type 0)
    (reading : ℕ) (before after : SteeredClock) (h : IsAdvancedBy begun reading before after) →
    ((at : ℕ) (steered : SteeredClock) → Fact at steered) →
    AreEach begun Fact reading before after h
each begun Fact reading before after (Arrived steered none) holds = tt
each begun Fact reading before after (Begins steered end at due rest) holds = (
  holds at steered,
  each begun Fact reading (begun at steered) end rest holds,
)
