use Rattle.std.proofs.Common.{◌≡◌, ◌-◌, ◌^◌, min, take}
use Rattle.std.specs.Prelude.{sum_by}
use Rattle.tk_race.specs.Race.{orders_in}
use Rattle.tk_race.proofs.racing.orders.Given as goal

abbrev pub invariant-loop-actions : goal.invariant-loop-actions
invariant-loop-actions l = record {
  counted : l.count ≡ min (sum_by (λ a. orders_in a.items) (take l.actions-index l.actors)) (2 ^ 64 - 1);
}
