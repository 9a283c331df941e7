use Rattle.std.proofs.Common.{◌≡◌, ap, bit_and, ◌∙◌, rules}
use Rattle.tk_counter.specs.Counter.{mask}
use Rattle.tk_shared.specs.Now.{IsTaken}
use Rattle.tk_shared.proofs.Times.{taken_by}
use Rattle.tk_shared.proofs.now.time_by.Given.{Over}
use Rattle.tk_shared.proofs.now.time_by.Goals.{After-mask}
use Rattle.tk_shared.proofs.now.time_by.Goals as goal

-- the reading was taken at the snapshot's place
taken : (g : Over) (c : After-mask g) →
    IsTaken g.S.SharedCounter.answers c.args.counter.now c.args.reader.now c.try_read.new.self
    c.args.notice_reader.now c.time.new.self c.in-Ok.snapshot
    (bit_and c.in-Ok-time.timed.reading c.mask.result)
taken g c =
    let snapshot = c.in-Ok.snapshot in
    let here : c.in-Ok-time.timed.place ≡ snapshot.front = search rules in
    taken_by g.S.SharedCounter.answers c.args.counter.now c.args.reader.now c.try_read.new.self
    c.args.notice_reader.now c.time.new.self snapshot c.in-Ok-time.timed.place
    c.in-Ok-time.timed.reading c.mask.result c.in-Ok.ensures.answer
    c.in-Ok-time.ensures.answer here (c.mask.ensures.value ∙ ap mask c.desc.ensures)
    c.time.ensures.life

pub returns-in-Ok-get-clause-answer : goal.returns-in-Ok-get-clause-answer
returns-in-Ok-get-clause-answer g c =
    let at = goal.at.returns-in-Ok-get-clause-answer g c in
    (c.in-Ok.snapshot, _, taken g at.After-mask, c.in-Ok-get.ensures)

pub returns-in-Err-get-clause-answer : goal.returns-in-Err-get-clause-answer
returns-in-Err-get-clause-answer g c =
    let at = goal.at.returns-in-Err-get-clause-answer g c in
    (c.in-Ok.snapshot, _, taken g at.After-mask, c.in-Err-get.ensures)
