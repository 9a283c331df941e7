use Rattle.std.proofs.Common.{◌≡◌, ◌≤◌, ◌++◌, length, map, take}
use Rattle.std.specs.Vec.{vec_capacity}
use Rattle.std.specs.Vec.Iter.{into_iter_items}
use Rattle.tk_race.specs.Actor.{AreReady}
use Rattle.tk_race.proofs.racing.ready.Given as goal

abbrev pub invariant-loop-caller : goal.invariant-loop-caller
invariant-loop-caller g l = record {
  callers : map (λ a. a.caller) l.actors.items ++ into_iter_items l.caller-iterator
      ≡ l.fn.callers.items;
  ready : AreReady (map (λ a. a.items) (take (length l.actors.items) l.actions)) l.actors.items;
  room : length l.actions ≤ vec_capacity l.actors;
}
