-- Clocks that a keeper records and a discipline steers.
use Rattle.std.specs.Prelude.{◌≡◌, ℕ, ⊤, Bool, List, [], ◌++◌, Result, Ok, Err, MatchOption}
use Rattle.std.specs.List.{All}
use Rattle.tk_clock.specs.declared.command.Command.{Command}
use Rattle.tk_clock.specs.declared.command.Entry.{Entry}
use Rattle.tk_clock.specs.declared.refusal.Refusal.{Refusal}
use Rattle.tk_clock.specs.declared.timespec.Timespec.{Timespec}
use Rattle.tk_clock.specs.Command.{is_resume}
use Rattle.tk_clock.specs.Folding.{journal_from}
use Rattle.tk_clock.specs.Journal.{Journal, accepted_count, opened}
use Rattle.tk_clock.specs.Legal.{Given, Opened}
use Rattle.tk_counter.specs.Counter.{Counter}
use Rattle.tk_keeper.specs.Keeper.{Keeper}
use Rattle.tk_keeper.specs.Room.{HasAdded, HasRoom, IsShort, keeper_state}
use Rattle.tk_ntp.specs.declared.reply.Reply.{Reply}
use Rattle.tk_ntp.specs.declared.timex.Timex.{Timex}
use Rattle.tk_ntp.specs.Applied.{request_of}
use Rattle.tk_ntp.specs.Course.{Course, course_of, seen}
use Rattle.tk_ntp.specs.Keeping.{IsAdvancedTo as IsAdvancedToBy, IsAnsweredTo, IsAppliedTo, IsPlainTo}
use Rattle.tk_ntp.specs.SteeredClock.{SteeredClock, steered_opened}

-- a keeper, and the course of the discipline that steers its clocks
pub record SteeredKeeper : Type 0 where
  pub keeper : Keeper
  pub course : Course

-- the clocks with their discipline
abbrev pub steered_of : SteeredKeeper → SteeredClock
steered_of kept = seen (keeper_state kept.keeper) kept.course

-- newly opened clocks, with an empty journal and no memory reserved
abbrev pub kept_opened : Counter → ℕ → Timespec → ℕ → SteeredKeeper
kept_opened counter reading real hz = record {
  keeper = record { journal = opened counter reading real; began = Opened; spare = 0 };
  course = course_of (steered_opened counter reading real hz);
}

-- steered clocks that run already and have accepted this many commands before, with an empty journal
-- and no memory reserved
abbrev pub kept_from : ℕ → SteeredClock → SteeredKeeper
kept_from front steered = record {
  keeper = record {
    journal = journal_from front steered.clock [];
    began = Given front steered.clock;
    spare = 0;
  };
  course = course_of steered;
}

-- the result of advancing, late or not, and the state after it, with the entries of a caller
abbrev pub IsAdvancedTo : Bool → ℕ → ℕ → SteeredKeeper → Result ⊤ Refusal → SteeredKeeper → Type 0
IsAdvancedTo is_late who reading before result after =
    IsAdvancedToBy keeper_state HasAdded HasRoom IsShort is_late who reading before.keeper
    before.course result after.keeper after.course

-- the result of a request by a caller, and the state after it
abbrev pub IsAnsweredBy : ℕ → ℕ → Timex → SteeredKeeper → Result Reply Refusal → SteeredKeeper →
    Type 0
IsAnsweredBy who reading request before result after =
    IsAnsweredTo keeper_state HasAdded HasRoom IsShort who reading request before.keeper
    before.course result after.keeper after.course

-- the result of a plain command by a caller, and the state after it
abbrev pub IsPlainBy : Bool → ℕ → ℕ → Command → SteeredKeeper → Result ⊤ Refusal → SteeredKeeper →
    Type 0
IsPlainBy resumes who reading cmd before result after =
    IsPlainTo keeper_state HasAdded HasRoom IsShort resumes who reading cmd before.keeper
    before.course result after.keeper after.course

-- the result of a command by a caller, and the state after it
abbrev pub IsObeyed : ℕ → ℕ → Command → SteeredKeeper → Result ⊤ Refusal → SteeredKeeper → Type 0
IsObeyed who reading cmd before result after =
    IsAppliedTo keeper_state HasAdded HasRoom IsShort who reading cmd before.keeper before.course
    result after.keeper after.course

-- the result of a call, with the number of the commands accepted so far as its value
abbrev pub numbered : {R : Type 0} → Result R Refusal → ℕ → Result ℕ Refusal
numbered (Ok value) number = Ok number
numbered (Err refusal) number = Err refusal

-- the result of a command by a caller, and the state after it: the number of the commands accepted
-- so far
abbrev pub IsAppliedBy : ℕ → ℕ → Command → SteeredKeeper → Result ℕ Refusal → SteeredKeeper →
    Type 0
IsAppliedBy who reading cmd before result after =
    MatchOption (request_of cmd)
    ((answer : Result ⊤ Refusal) × IsPlainBy (is_resume cmd) who reading cmd before answer after
    × (result ≡ numbered answer (accepted_count after.keeper.journal)))
    (λ request. (answer : Result Reply Refusal) × IsAnsweredBy who reading request before answer after
    × (result ≡ numbered answer (accepted_count after.keeper.journal)))

-- a journal has the entries of an earlier one, and then entries of a caller at one reading
pub record IsContinuedAt (who reading : ℕ) (before after : Journal) : Type 0 where
  pub opening : after.opening ≡ before.opening
  pub added : List Entry
  pub entries : after.entries ≡ before.entries ++ added
  pub each : All (λ (entry : Entry). (entry.who ≡ who) × (entry.reading ≡ reading)) added
