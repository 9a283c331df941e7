-- Room for further entries in a keeper, and the entries that it has more than before.
use Rattle.std.specs.Prelude.{◌≡◌, ℕ, ◌+◌, ◌<◌, ◌≤◌, nat_le, ◌&&◌, Bool, true, false, List, [], ◌++◌, length}
use Rattle.tk_clock.specs.declared.command.Entry.{Entry}
use Rattle.tk_clock.specs.declared.refusal.Refusal.{Refusal}
use Rattle.tk_clock.specs.declared.refusal.Refusal.TheVariants.{Full, Memory}
use Rattle.tk_clock.specs.Journal.{Journal, accepted_count}
use Rattle.tk_clock.specs.Limits.{listed_most, counted_most}
use Rattle.tk_clock.specs.State.{State, state_of}
use Rattle.tk_keeper.specs.Keeper.{Keeper}

-- the clocks of a keeper
abbrev pub keeper_state : Keeper → State
keeper_state keeper = state_of keeper.journal

-- whether this many more entries fit a journal
abbrev pub has_room : ℕ → Journal → Bool
has_room count journal =
    nat_le (length journal.entries + count) listed_most
    && nat_le (accepted_count journal + count) counted_most

-- this many more entries fit a keeper's journal and the memory that it has reserved
pub record HasRoom (count : ℕ) (keeper : Keeper) : Type 0 where
  pub fits : has_room count keeper.journal ≡ true
  pub spare : count ≤ keeper.spare

-- why this many more entries can't be made: they don't fit the journal, or memory is missing for
-- them
pub data IsShort (count : ℕ) (keeper : Keeper) : Refusal → Type 0 where
  IsFull : has_room count keeper.journal ≡ false → IsShort count keeper Full
  IsOut : has_room count keeper.journal ≡ true → keeper.spare < count →
      IsShort count keeper Memory

-- a journal with further entries
abbrev pub continued : List Entry → Journal → Journal
continued entries journal = record journal { entries = journal.entries ++ entries }

-- a keeper has all that it had, and then these entries, which took the memory of as many entries
pub record HasAdded (before : Keeper) (entries : List Entry) (after : Keeper) : Type 0 where
  pub journal : after.journal ≡ continued entries before.journal
  pub began : after.began ≡ before.began
  pub spare : before.spare ≤ after.spare + length entries
