-- Updates of clocks that a keeper records, before which no second begins.
use Rattle.std.proofs.Common.{ℕ}
use Rattle.std.specs.Prelude.{⊤, Result}
use Rattle.tk_clock.specs.declared.command.Command.TheVariants.{Update}
use Rattle.tk_clock.specs.declared.refusal.Refusal.{Refusal}
use Rattle.tk_keeper.specs.Adding.{stays}
use Rattle.tk_keeper.specs.Keeper.{Keeper}
use Rattle.tk_keeper.specs.Room.{HasAdded, HasRoom, IsShort, keeper_state}
use Rattle.tk_ntp.specs.Course.{Course, seen}
use Rattle.tk_ntp.specs.Keeping.{IsCommandedTo, IsFollowedTo}
use Rattle.tk_ntp.specs.Staged.{IsSettled}
use Rattle.tk_ntp.proofs.Keeping.{followed as followed-by}

pub followed : (who reading : ℕ) (a : Keeper) (before : Course) (result : Result ⊤ Refusal)
    (b : Keeper) (after : Course) → IsSettled (seen (keeper_state a) before) reading →
    HasRoom 3 a →
    IsCommandedTo keeper_state HasAdded HasRoom IsShort who reading Update a before result b after →
    IsFollowedTo keeper_state HasAdded HasRoom IsShort who reading Update a before result b after
followed = followed-by keeper_state HasAdded HasRoom IsShort stays
