-- Clocks that list no command, as whoever steers them counts their commands: the room for more of
-- them, and the commands that were counted.
use Rattle.std.specs.Prelude.{◌≡◌, ℕ, ◌+◌, ◌≤◌, List, Option}
use Rattle.tk_clock.specs.declared.command.Entry.{Entry}
use Rattle.tk_clock.specs.declared.refusal.Refusal.{Refusal}
use Rattle.tk_clock.specs.declared.refusal.Refusal.TheVariants.{Full}
use Rattle.tk_clock.specs.Journal.{Journal}
use Rattle.tk_clock.specs.Limits.{counted_most}
use Rattle.tk_clock.specs.State.{State}
use Rattle.tk_keeper.specs.Room.{continued}
use Rattle.tk_report.specs.CountedClocks.{Counted, IsKept}

-- the clocks, without their counts
abbrev pub clocks_in : Counted → State
clocks_in counted = counted.clock

-- these entries came: the clocks of a journal are then those of the journal that has them too
abbrev pub HasCounted : Counted → List Entry → Counted → Type 0
HasCounted before entries after =
    (keep : Option ℕ) (journal : Journal) → IsKept keep before journal →
    IsKept keep after (continued entries journal)

-- this many more commands are accepted over the present counter and can be counted
pub record HasRoom (more : ℕ) (counted : Counted) : Type 0 where
  pub listed : counted.count + more ≤ counted.since + counted.most
  pub fits : counted.count + more ≤ counted_most

-- why they can't be
pub record IsShort (more : ℕ) (counted : Counted) (refusal : Refusal) : Type 0 where
  pub full : refusal ≡ Full
  pub short : HasRoom more counted → ⊥
