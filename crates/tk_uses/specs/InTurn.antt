-- Two threads ask for MONOTONIC, with a command between them, while the keeper is open.
use Rattle.std.specs.Prelude.{◌≡◌, ℕ, ◌≤ℤ◌, List, [], ◌∷◌, length}
use Rattle.tk_clock.specs.declared.timespec.Timespec.{Timespec}
use Rattle.tk_clock.specs.Journal.{Journal, Opening}
use Rattle.tk_clock.specs.Time.{nanoseconds}
use Rattle.tk_now.specs.declared.rule.Taken.{Taken}
use Rattle.tk_now.specs.declared.rule.Answer.{Answer}
use Rattle.tk_now.specs.Life.{AreReadings}
use Rattle.tk_now.specs.Moments.{AreInLife, AreInOrder}
use Rattle.tk_shared.specs.Callers.{Known, IsInformed, IsKnownBy}
use Rattle.tk_shared.specs.NeverBack.{HasSeen, IsHonest}
use Rattle.tk_shared.specs.Readings.{EndsAtReading}

-- one caller got this time of MONOTONIC, and then the other one, which may be the same, got that
-- time. Before it asked, the other one knew all that the first one knew
pub record HaveAsked {S : Type 0} (answers : S → ℕ → ℕ → Type 0) (counter : S) (one two : Known)
    (time time' : Timespec) : Type 0 where
  pub before : Known
  pub after : Known
  pub before' : Known
  pub after' : Known
  pub seen : HasSeen answers counter before after time
  pub seen' : HasSeen answers counter before' after' time'
  pub handed : IsKnownBy after before'
  pub known : IsKnownBy after one
  pub known' : IsKnownBy after' two

-- the same of clocks that were opened so, whose whole history is known with the readings of both
-- answers, and the later time isn't below the first one
pub record HaveRisen {S : Type 0} (answers : S → ℕ → ℕ → Type 0) (counter : S) (opening : Opening)
    (time time' : Timespec) : Type 0 where
  pub last : Known
  pub informed : IsInformed last
  pub opened : last.seen.opening ≡ opening
  pub asked : HaveAsked answers counter last last time time'
  pub rises : nanoseconds time ≤ℤ nanoseconds time'

-- a caller gave the last command of a history that it has seen, at a reading of a counter
pub record HasCommanded {C : Type 0} (after : C → ℕ → ℕ → Type 0) (caller : Known) : Type 0 where
  pub since : Known
  pub readings : AreReadings since.seen since.noticed.commands
  pub ends : EndsAtReading after since.seen since.noticed.commands
  pub known : IsKnownBy since caller

-- the counter is known to be honest in every run with one command and these two answers. In such a
-- run the clocks were opened so, the command took its reading from the counter after
-- its announcement, the counter gave both answers, each after its first look, and no command was in
-- progress between the looks of either
abbrev pub IsTrusted : {C S : Type 0} → (C → ℕ → ℕ → Type 0) → (S → ℕ → ℕ → Type 0) → S → Opening →
    Type 0
IsTrusted after answers counter opening =
    (history : Journal) (commands : List Taken) (first second : Answer) →
    history.opening ≡ opening → length history.entries ≡ 1 →
    AreReadings history commands → AreInOrder commands → EndsAtReading after history commands →
    answers counter first.taken.from first.taken.reading →
    answers counter second.taken.from second.taken.reading →
    AreInLife commands (first ∷ second ∷ []) → IsHonest history commands first second
