-- The knowledge that a seat gains by the steps of a notice: relations of the step, the seat before
-- it, the number found, and the seat after it.
use Rattle.std.specs.Prelude.{◌≡◌, ℕ, ◌+◌, ◌/◌, ◌%◌, ◌<◌, List, [], ◌∷◌, ◌++◌, length, Some}
use mathlib.Core.List.{IsPrefix}
use Rattle.atomic_table.specs.Table.{Me, Step}
use Rattle.tk_now.specs.declared.rule.Answer.{Answer}
use Rattle.tk_now.specs.declared.rule.View.{View}
use Rattle.tk_now.specs.Moments.{AreBefore, AreAnswered, AreInOrder, AreInLife, AreInTurn, AreLater, IsAcceptedAt}
use Rattle.tk_now.specs.Rule.{Counts}
use Rattle.tk_now.specs.Views.{noted_commands, noted_log, taken, found_by, first_by, from_by, IsResting, IsTiming, IsIdle, IsNoting, IsAnnounced}

abbrev pub Move : Type 0
Move = Step (Unit {0})

abbrev pub Seated : Type 0
Seated = Me (Unit {0}) View

-- a command is announced
abbrev pub announced : Move → Seated → ℕ → Seated → Type 0
announced move old found new =
    (new.0.commands ≡ old.0.commands) × (new.0.log ≡ old.0.log) × IsAnnounced new.0

-- the announced command was accepted at this reading
abbrev pub accepted : ℕ → Move → Seated → ℕ → Seated → Type 0
accepted reading move old found new = IsIdle new.0
    × IsAcceptedAt (Some (from_by old.0.role)) old.0.commands reading new.0.commands
    × (new.0.log ≡ old.0.log)

-- the announced command was refused
abbrev pub withdrawn : Move → Seated → ℕ → Seated → Type 0
withdrawn move old found new =
    (new.0.commands ≡ old.0.commands) × (new.0.log ≡ old.0.log) × IsIdle new.0

-- the first load: the reader knows all accepted commands and all answers so far, whose readings
-- are over
pub record IsBegun (old : View) (found : ℕ) (new : View) : Type 0 where
  pub timing : IsTiming new
  pub first : first_by new.role ≡ found
  pub found_is : found_by new.role ≡ found_by old.role ++ found ∷ []
  pub commands : IsPrefix old.commands new.commands
  pub log : IsPrefix old.log new.log
  pub counts : Counts new.commands found
  pub before : AreBefore (from_by new.role) new.commands
  pub answered : AreAnswered (length new.commands) (from_by new.role) new.log

abbrev pub began : Move → Seated → ℕ → Seated → Type 0
began move old found new = (move.word ≡ 0) × (new.1 ≡ old.1) × IsBegun old.0 found new.0

abbrev pub answer_of : ℕ → ℕ → ℕ → ℕ → Answer
answer_of first from to reading = record {
  place = first / 2;
  taken = taken from to reading;
}

-- an answer, which is listed after all answers so far. Those that the reader didn't know at its
-- first look were over later
pub record IsListed (reading : ℕ) (old new : View) : Type 0 where
  pub same : new.commands ≡ old.commands
  pub place : length old.commands ≡ first_by old.role / 2 + 1
  pub to : ℕ
  pub span : from_by old.role < to
  pub between : List Answer
  pub extends : IsPrefix old.log between
  pub listed : new.log
      ≡ between ++ answer_of (first_by old.role) (from_by old.role) to reading ∷ []
  pub later : AreLater (from_by old.role) (length old.log) new.log

-- the second load: the reading is listed if the word is the same and even
pub record IsEnd (reading : ℕ) (old : View) (found : ℕ) (new : View) : Type 0 where
  pub resting : IsResting new
  pub found_is : found_by new.role ≡ found_by old.role ++ found ∷ []
  pub commands : IsPrefix old.commands new.commands
  pub log : IsPrefix old.log new.log
  pub ordered : AreInOrder new.commands
  pub alive : AreInLife new.commands new.log
  pub turn : AreInTurn new.log
  pub answer : found ≡ first_by old.role → found % 2 ≡ 0 → IsListed reading old new

abbrev pub ended : ℕ → Move → Seated → ℕ → Seated → Type 0
ended reading move old found new =
    (move.word ≡ 0) × (new.1 ≡ old.1) × IsEnd reading old.0 found new.0

-- the noted commands are the first of the writer's. It learns all answers so far: they begin with
-- those that it knew, and with the noted ones, are in life with all of its commands, and are listed
-- in turn
abbrev pub compared : Move → Seated → ℕ → Seated → Type 0
compared move old found new = (new.0.commands ≡ old.0.commands) × IsIdle new.0
    × IsPrefix (noted_commands old.0.role) old.0.commands × AreInOrder old.0.commands
    × IsPrefix old.0.log new.0.log × IsPrefix (noted_log old.0.role) new.0.log
    × AreInLife old.0.commands new.0.log × AreInTurn new.0.log

-- the same, and the note contains all commands and all answers afterwards
abbrev pub recounted : Move → Seated → ℕ → Seated → Type 0
recounted move old found new =
    (new.0.commands ≡ old.0.commands) × (new.0.log ≡ noted_log new.0.role) × IsNoting new.0
    × IsPrefix (noted_commands old.0.role) old.0.commands
    × IsPrefix (noted_log old.0.role) (noted_log new.0.role) × AreInOrder old.0.commands
    × AreInLife old.0.commands (noted_log new.0.role) × IsPrefix old.0.log new.0.log
    × AreInTurn (noted_log new.0.role)
