-- The readings of an owner's commands: each was taken from a counter after the command's announcement.
use Rattle.std.specs.Prelude.{◌≡◌, ℕ, ◌+◌, ◌<◌, ◌≤◌, Some, slice_get}
use Rattle.tk_clock.specs.declared.command.Entry.{Entry}
use Rattle.tk_now.specs.Views.{taken}
use Rattle.tk_shared.specs.Callers.{Known}
use Rattle.tk_shared.specs.Readings.{IsReading}

-- the entry after the first `before` ones that a caller has seen was made at a reading of a counter
-- that followed the announcement of its own command: the caller knows the moments around it from
-- the notice, which lists the opening's reading first
pub record IsAtReading {C : Type 0} (answers : C → ℕ → ℕ → Type 0) (caller : Known) (before : ℕ)
    : Type 0 where
  pub counter : C
  pub from : ℕ
  pub to : ℕ
  pub entry : Entry
  pub made : slice_get caller.seen.entries before ≡ Some entry
  pub read : IsReading (λ c. answers c from) counter caller.seen.opening.counter entry.reading
  pub span : from < to
  pub listed : slice_get caller.noticed.commands (before + 1) ≡ Some (taken from to entry.reading)

-- all entries after the first `since` ones, up to the number `count`, were made so
abbrev pub AreAtReadings : {C : Type 0} → (C → ℕ → ℕ → Type 0) → Known → ℕ → ℕ → Type 0
AreAtReadings answers caller since count =
    (before : ℕ) → since ≤ before → before < count → IsAtReading answers caller before
