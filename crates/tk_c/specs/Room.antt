-- Clocks with their front as whoever steers them counts their commands: the room for more of them,
-- and the commands that were counted.
use Rattle.std.specs.Prelude.{◌≡◌, ℕ, ◌+◌, ◌<◌, ◌≤◌, List, length}
use Rattle.tk_clock.specs.declared.command.Entry.{Entry}
use Rattle.tk_clock.specs.declared.refusal.Refusal.{Refusal}
use Rattle.tk_clock.specs.declared.refusal.Refusal.TheVariants.{Full}
use Rattle.tk_clock.specs.Limits.{counted_most}
use Rattle.tk_clock.specs.State.{State}
use Rattle.tk_c.specs.declared.counted.CountedClock.{CountedClock}

-- the clocks, without their front
abbrev pub clocks_of : CountedClock → State
clocks_of counted = counted.clock

-- the front has counted the commands of these entries too
abbrev pub HasCounted : CountedClock → List Entry → CountedClock → Type 0
HasCounted before entries after = after.front ≡ before.front + length entries

-- this many more commands can be counted
abbrev pub HasRoom : ℕ → CountedClock → Type 0
HasRoom count counted = counted.front + count ≤ counted_most

-- why they can't be
abbrev pub IsShort : ℕ → CountedClock → Refusal → Type 0
IsShort count counted refusal = (refusal ≡ Full) × (counted_most < counted.front + count)
