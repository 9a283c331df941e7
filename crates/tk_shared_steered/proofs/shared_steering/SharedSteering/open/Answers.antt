use Rattle.std.proofs.Common.{sym}
use Rattle.tk_ntp.specs.Course.{seen}
use Rattle.tk_shared_steered.specs.Opened.{IsOpenedAs, NotGiven}
use Rattle.tk_shared_steered.proofs.Readings.{opened_since}
use Rattle.tk_shared_steered.proofs.KnownBy.{read_known, unopened_known}
use Rattle.tk_shared_steered.proofs.Opened.{followed_from, open_in_step, opened_as, unshown}
use Rattle.tk_shared_steered.proofs.shared_steering.SharedSteering.open.Given.{Over}
use Rattle.tk_shared_steered.proofs.shared_steering.SharedSteering.open.Goals as goal

pub returns-in-Err-clause-known : goal.returns-in-Err-clause-known
returns-in-Err-clause-known g c =
    read_known c.args.caller c.read-now.new.caller c.read-now.result c.read-now.ensures.read

pub returns-in-Err-clause-answer : goal.returns-in-Err-clause-answer
returns-in-Err-clause-answer g c = unshown c.args.hz c.args.caller c.read-now.new.caller c.read-now.result c.in-Err.fault
    c.read-now.ensures.read c.in-Err.ensures.answer

clocks : (g : Over) (c : goal.After-front-count g) →
    IsOpenedAs c.args.hz c.args.caller c.give.new.caller
    (seen c.follow_command-accepted.new.clock c.follow_command-accepted.new.self)
clocks g c =
    let after = seen c.follow_command-accepted.new.clock c.follow_command-accepted.new.self in
    let steered = c.in-Ok.steered in
    let reading = c.in-Ok-give.reading in
    let result = c.follow_command-accepted.result in
    opened_as c.args.hz c.args.caller c.read-now.new.caller c.give.new.caller c.read-now.result
    reading steered after result c.read-now.ensures.read c.in-Ok.ensures.answer
    c.in-Ok-give.ensures.answer
    (followed_from steered after c.clock-clock.result c.course-course.result reading result c.clock-clock.ensures
    c.course-course.ensures c.follow_command-accepted.ensures.answer)

pub invariant_of-result : goal.invariant_of-result
invariant_of-result g c = λ following.
    open_in_step c.args.hz c.args.caller c.give.new.caller
    (seen c.follow_command-accepted.new.clock c.follow_command-accepted.new.self)
    c.front-count.result (clocks g c)

pub returns-in-Ok-give-clause-answer : goal.returns-in-Ok-give-clause-answer
returns-in-Ok-give-clause-answer g c =
    record { clocks = clocks g c; following = sym c.front-count.ensures }

pub returns-in-Ok-give-clause-known : goal.returns-in-Ok-give-clause-known
returns-in-Ok-give-clause-known g c = (clocks g c).known

pub returns-in-Err-give-clause-answer : goal.returns-in-Err-give-clause-answer
returns-in-Err-give-clause-answer g c =
    NotGiven c.in-Err-give.fault c.read-now.new.caller (record {
      snapshot = c.read-now.result;
      read = c.read-now.ensures.read;
      none = c.in-Ok.ensures.answer.none;
    }) c.in-Ok.ensures.answer.sound c.in-Err-give.ensures.answer

pub returns-in-Err-give-clause-known : goal.returns-in-Err-give-clause-known
returns-in-Err-give-clause-known g c =
    unopened_known c.args.hz c.args.caller c.give.new.caller c.in-Err-give.fault
    (returns-in-Err-give-clause-answer g c)

pub returns-in-Ok-give-clause-readings : goal.returns-in-Ok-give-clause-readings
returns-in-Ok-give-clause-readings g c =
    opened_since g.C.Counter.answers_after c.args.hz c.in-Ok-give.reading c.args.caller
    c.read-now.new.caller c.give.new.caller
    (seen c.follow_command-accepted.new.clock c.follow_command-accepted.new.self)
    c.front-count.result (clocks g c) c.in-Ok-give.ensures.answer c.front-count.ensures
    c.in-Ok-give.ensures.reading
