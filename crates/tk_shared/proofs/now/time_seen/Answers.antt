use Rattle.std.proofs.Common.{ap, ◌∙◌, arith}
use Rattle.tk_counter.specs.Counter.{mask}
use Rattle.tk_clock.proofs.Lists.{prefix_trans}
use Rattle.tk_page.proofs.Beginnings.{begins-trans}
use Rattle.tk_shared.proofs.Times.{seen_by}
use Rattle.tk_shared.proofs.now.time_seen.Goals as goal

pub returns-then-front-timed-clause-answer : goal.returns-then-front-timed-clause-answer
returns-then-front-timed-clause-answer g c =
    seen_by g.S.SharedCounter.answers c.args.counter.now c.args.clock
    c.read-snapshot.new.self.journal c.args.notice_reader.now c.loop.notice_reader c.time.new.self
    c.read-snapshot.result c.in-Ok.timed.place c.front.result c.in-Ok.timed.reading c.mask.result
    c.get.result c.loop.invariant.commands c.loop.invariant.log c.in-Ok.ensures.answer
    c.if-front-timed.true
    c.front.ensures.value c.read-snapshot.ensures.answer
    (c.mask.ensures.value ∙ ap mask c.desc.ensures) c.time.ensures.life c.get.ensures

pub returns-then-front-timed-clause-begins : goal.returns-then-front-timed-clause-begins
returns-then-front-timed-clause-begins g c =
    begins-trans _ _ _ c.loop.invariant.begins c.read-snapshot.ensures.begins

pub returns-then-front-timed-clause-noticed : goal.returns-then-front-timed-clause-noticed
returns-then-front-timed-clause-noticed g c = (
  prefix_trans _ _ _ c.loop.invariant.commands c.time.ensures.extends.0,
  prefix_trans _ _ _ c.loop.invariant.log c.time.ensures.extends.1,
)

pub loop-preserved-in_default : goal.loop-preserved-in_default
loop-preserved-in_default g c = record {
  page = c.read-snapshot.ensures.page ∙ c.loop.invariant.page;
  notice = c.time.ensures.notice ∙ c.loop.invariant.notice;
  reads = let low = c.loop.invariant.reads in let once = c.read-snapshot.ensures.reads in
      omega (arith, low, once);
  begins = begins-trans _ _ _ c.loop.invariant.begins c.read-snapshot.ensures.begins;
  commands = prefix_trans _ _ _ c.loop.invariant.commands c.time.ensures.extends.0;
  log = prefix_trans _ _ _ c.loop.invariant.log c.time.ensures.extends.1;
}

pub loop-preserved : goal.loop-preserved
loop-preserved g c = record {
  page = c.read-snapshot.ensures.page ∙ c.loop.invariant.page;
  notice = c.time.ensures.notice ∙ c.loop.invariant.notice;
  reads = let low = c.loop.invariant.reads in let once = c.read-snapshot.ensures.reads in
      omega (arith, low, once);
  begins = begins-trans _ _ _ c.loop.invariant.begins c.read-snapshot.ensures.begins;
  commands = prefix_trans _ _ _ c.loop.invariant.commands c.time.ensures.extends.0;
  log = prefix_trans _ _ _ c.loop.invariant.log c.time.ensures.extends.1;
}
