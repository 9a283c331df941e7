-- One caller asks for MONOTONIC, lets a second begin late as the owner of a discipline, and asks
-- again, while the keeper is open.
use Rattle.std.specs.Prelude.{◌≡◌, ℕ, [], ◌∷◌, length}
use Rattle.tk_clock.specs.Journal.{Opening}
use Rattle.tk_now.specs.declared.rule.Answer.{Answer}
use Rattle.tk_now.specs.Moments.{AreInLife}
use Rattle.tk_shared.specs.Callers.{Known, IsInformed}
use Rattle.tk_shared.specs.NeverBack.{IsHonest}
use Rattle.tk_shared_steered.specs.Readings.{AreAtReadings}

-- the counter is known to be honest in every run with these two answers. In such a run the clocks
-- were opened so, each command took its reading from the counter after its announcement, the counter
-- gave both answers, each after its first look, and no command was in progress between the looks of
-- either
abbrev pub IsTrustedThroughout : {C S : Type 0} → (C → ℕ → ℕ → Type 0) → (S → ℕ → ℕ → Type 0) → S →
    Opening → Type 0
IsTrustedThroughout after answers counter opening =
    (last : Known) (first second : Answer) → IsInformed last → last.seen.opening ≡ opening →
    AreAtReadings after last 0 (length last.seen.entries) →
    answers counter first.taken.from first.taken.reading →
    answers counter second.taken.from second.taken.reading →
    AreInLife last.noticed.commands (first ∷ second ∷ []) →
    IsHonest last.seen last.noticed.commands first second
