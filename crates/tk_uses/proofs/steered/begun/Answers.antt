use Rattle.tk_uses.proofs.Risen.{begun_known, begun_readings}
use Rattle.tk_uses.proofs.steered.begun.Goals as goal

pub returns-clause-known : goal.returns-clause-known
returns-clause-known g c =
    begun_known g.C.Counter.answers_after c.args.owner c.into_parts-caller.result.0 c.in-Ok.steering
    c.begin_late.new.self _ c.in_ok-begin_late.ensures.answer c.begin_late.ensures.known
    c.into_parts-caller.ensures.parts.0 c.in-Ok.ensures.known

pub returns-clause-readings : goal.returns-clause-readings
returns-clause-readings g c =
    begun_readings g.C.Counter.answers_after c.args.owner c.into_parts-caller.result.0
    c.in-Ok.steering c.begin_late.new.self _ c.in_ok-begin_late.ensures.answer
    c.begin_late.ensures.known c.into_parts-caller.ensures.parts.0 c.in-Ok.ensures.readings
    c.begin_late.ensures.readings
