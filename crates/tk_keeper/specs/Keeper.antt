-- The contents of a timekeeper.
use Rattle.std.specs.Prelude.{◌≡◌, ℕ, ◌+◌, ◌-◌, ◌*◌, ◌/◌, ◌%◌, ◌≤◌, min, List, length, Option, Some, None, nat_lt, if◌then◌else◌, slice_get}
use Rattle.tk_clock.specs.declared.command.Entry.{Entry}
use Rattle.tk_clock.specs.declared.clock_id.ClockId.{ClockId}
use Rattle.tk_clock.specs.Journal.{Journal, prefix, accepted_count}
use Rattle.tk_clock.specs.Monotonic.{awake_cycles}
use Rattle.tk_clock.specs.Clocks.{clock_value}
use Rattle.tk_clock.specs.Honest.{IsHonest, counted_cycles}
use Rattle.tk_clock.specs.Legal.{Beginning, Opened, Given, IsLegal}
use Rattle.tk_clock.specs.Limits.{listed_most, counted_most}
use Rattle.tk_clock.specs.State.{ReadBase, State, base_value, state_of}
use Rattle.tk_keeper.specs.declared.timekeeper.GivenClocks.{GivenClocks}
use Rattle.tk_keeper.specs.declared.timekeeper.Kept.{Kept}
use Rattle.tk_keeper.specs.Runs.{IsKeptAt}

-- its journal, how its clocks began, and the number of further commands that can be accepted
-- without an allocation
pub record Keeper : Type 0 where
  pub journal : Journal
  pub began : Beginning
  pub spare : ℕ

-- how a keeper's clocks began: it opened them, unless it was given clocks
abbrev pub began_with : Option GivenClocks → Beginning
began_with None = Opened
began_with (Some given) = Given given.front given.clock

-- the journal is legal, the running state is the journal's, and the journal is within its limits
pub record IsKept (began : Beginning) (journal : Journal) (state : State) : Type 0 where
  pub legal : IsLegal began journal
  pub running : state ≡ state_of journal
  pub room : length journal.entries ≤ listed_most
  pub counted : accepted_count journal ≤ counted_most

-- `start` is the state before all listed entries, and `kept` contains the clocks after each listed
-- entry whose number is a multiple of 256
pub record HasKept (journal : Journal) (start : State) (kept : List Kept) : Type 0 where
  pub first : start ≡ state_of (prefix 0 journal)
  pub all : length kept + journal.opening.count / 256 ≡ accepted_count journal / 256
  pub stated : (i place : ℕ) (there : Kept) → slice_get kept i ≡ Some there →
      journal.opening.count + place ≡ 256 * (journal.opening.count / 256 + 1 + i) →
      IsKeptAt journal place there

-- the number of further commands that fit, with capacity for `places` more entries and `kept` more
-- states, after `count` commands
abbrev pub room_for : ℕ → ℕ → ℕ → ℕ
room_for places kept count = min places (256 * (kept + 1) - count % 256 - 1)

-- the entry with a number, counted from 1 over all accepted commands; `None` if it was folded or
-- doesn't exist yet
abbrev pub entry_at : Journal → ℕ → Option Entry
entry_at journal number =
    if nat_lt journal.opening.count number
    then slice_get journal.entries (number - journal.opening.count - 1) else None

-- a read base gives every clock the journal's own value at every reading
abbrev pub ReadsAs : Journal → ReadBase → Type 0
ReadsAs journal base = (clock : ClockId) (reading : ℕ) →
    base_value base clock reading ≡ clock_value journal clock reading

-- if the counter is honest, the journal's cycles are true cycles
abbrev pub CountsTrue : Journal → Type 0
CountsTrue journal =
    (count : ℕ → ℕ) → IsHonest journal count → (place : ℕ) → place ≤ length journal.entries →
    awake_cycles journal place ≡ counted_cycles journal count place
