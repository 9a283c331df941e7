use Rattle.std.proofs.Common.{◌≡◌, ◌≤◌, take}
use Rattle.tk_race.specs.Race.{orders_in}
use Rattle.tk_race.proofs.racing.orders_of.Given as goal

abbrev pub invariant-loop-action : goal.invariant-loop-action
invariant-loop-action l = record {
  counted : l.count ≡ orders_in (take l.action-index l.actions);
  few : l.count ≤ l.action-index;
}
