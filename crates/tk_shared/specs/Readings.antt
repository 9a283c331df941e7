-- The readings of a keeper and its counter.
use Rattle.std.specs.Prelude.{◌≡◌, ℕ, ◌%◌, ◌^◌, ◌<◌, List, [], ◌∷◌, ◌++◌}
use Rattle.tk_counter.specs.Counter.{Counter}
use Rattle.tk_clock.specs.declared.command.Command.{Command}
use Rattle.tk_clock.specs.declared.command.Entry.{Entry}
use Rattle.tk_clock.specs.declared.refusal.Refusal.{Refusal}
use Rattle.tk_clock.specs.Journal.{Journal, followed_by}
use Rattle.tk_now.specs.declared.rule.Taken.{Taken}
use Rattle.tk_now.specs.Views.{taken}
use Rattle.tk_shared.specs.Callers.{Known, IsRefusalAfter, entry_of}

-- a reading of a counter with this description: a possible next answer of the counter, modulo
-- 2^bits
pub record IsReading {C : Type 0} (answers : C → ℕ → Type 0) (counter : C) (described : Counter)
    (reading : ℕ) : Type 0 where
  pub answer : ℕ
  pub given : answers counter answer
  pub kept : reading ≡ answer % 2 ^ described.bits

-- the last entry of the history was made at a reading of a counter that followed the announcement
-- of its own command: the moment of that announcement is the one that the notice lists with the
-- command, which is the last of these
pub record EndsAtReading {C : Type 0} (answers : C → ℕ → ℕ → Type 0) (history : Journal)
    (commands : List Taken) : Type 0 where
  pub counter : C
  pub from : ℕ
  pub before : Journal
  pub entry : Entry
  pub last : history ≡ followed_by before entry
  pub read : IsReading (λ c. answers c from) counter history.opening.counter entry.reading
  pub older : List Taken
  pub to : ℕ
  pub span : from < to
  pub listed : commands ≡ older ++ taken from to entry.reading ∷ []

-- a command of a caller was refused at a reading of a counter that followed an announcement, at
-- this moment, after the history that it has seen now, and of which it knows how many entries are
-- folded
pub record IsRefusedAtReading {C : Type 0} (answers : C → ℕ → ℕ → Type 0) (caller now : Known)
    (cmd : Command) (refusal : Refusal) : Type 0 where
  pub counter : C
  pub from : ℕ
  pub reading : ℕ
  pub read : IsReading (λ c. answers c from) counter now.seen.opening.counter reading
  pub reason : IsRefusalAfter now.folded now.seen (entry_of caller reading cmd) refusal
