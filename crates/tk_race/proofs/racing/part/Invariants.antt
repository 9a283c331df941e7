use Rattle.std.proofs.Common.{◌≡◌, ◌+◌, ◌≤◌, ◌++◌, length, map}
use Rattle.std.specs.Vec.{vec_capacity}
use Rattle.std.specs.Vec.Iter.{into_iter_items}
use Rattle.tk_race.proofs.racing.part.Given as goal

abbrev pub invariant-loop-actor : goal.invariant-loop-actor
invariant-loop-actor g l = record {
  callers : l.callers.items ++ map (λ a. a.caller) (into_iter_items l.actor-iterator)
      ≡ map (λ a. a.caller) l.fn.actors.items;
  replies : map (λ r. r.items) l.replies.items
      ++ map (λ a. a.replies) (into_iter_items l.actor-iterator)
      ≡ map (λ a. a.replies) l.fn.actors.items;
  room : length l.callers.items + length (into_iter_items l.actor-iterator)
      ≤ vec_capacity l.callers;
  space : length l.replies.items + length (into_iter_items l.actor-iterator)
      ≤ vec_capacity l.replies;
}
