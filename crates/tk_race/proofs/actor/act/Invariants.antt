use Rattle.std.proofs.Common.{◌≡◌, ◌≤◌, length, take}
use Rattle.std.specs.Vec.{vec_capacity}
use Rattle.tk_race.specs.Actor.{HasActed}
use Rattle.tk_race.proofs.actor.act.Given as goal

abbrev pub invariant-loop-action : goal.invariant-loop-action
invariant-loop-action g l = record {
  acted : HasActed l.fn.track.counter.now l.fn.actor.caller l.caller
      (take l.action-index l.actions) l.replies.items;
  room : length l.actions ≤ vec_capacity l.replies;
  replied : length l.replies.items ≡ l.action-index;
}
