use Rattle.std.proofs.Common.{rules}
use Rattle.tk_race.proofs.Acting.{acted_next}
use Rattle.tk_race.proofs.actor.act.Goals as goal

pub loop-action-preserved : goal.loop-action-preserved
loop-action-preserved g c = record {
  acted = acted_next c.args.track.now.counter.now c.args.actor.caller c.loop-action.caller
      c.answer.new.caller c.args.actions.now c.loop-action.action-index
      c.loop-action.replies.items c.push_reserved.new.self.items
      c.answer.result _ c.loop-action-test.true c.loop-action.invariant.acted c.answer.ensures.right
      c.push_reserved.ensures.items;
  room = search rules;
  replied = search rules;
}
