use Rattle.std.proofs.Common.{refl, subst, Bool}
use Rattle.std.proofs.lemmas.Result.{err_from_is_err_and}
use Rattle.std.specs.Prelude.{Ok}
use Rattle.tk_shared_steered.specs.Late.{Begins, HasBegunLate, Still}
use Rattle.tk_shared_steered.proofs.Readings.{further_since, none_since}
use Rattle.tk_shared_steered.proofs.KnownBy.{advanced_known}
use Rattle.tk_shared_steered.proofs.shared_steering.SharedSteering.advance_late.Goals as goal

pub seconds-init : goal.seconds-init
seconds-init g c =
    let old = c.args.self.now in
    ((λ after h. h), none_since g.C.Counter.answers_after old.caller old.count old.count refl)

pub returns-in_err-begin_late-clause-answer : goal.returns-in_err-begin_late-clause-answer
returns-in_err-begin_late-clause-answer g c =
    let p = err_from_is_err_and c.from_residual.result c.from_residual.ensures.1 in
    rw (p.1, p.2) (record {
      before = c.seconds.self;
      begun = c.seconds.invariant.0 c.seconds.self (Still c.seconds.self);
      stopped = c.in_err-begin_late.ensures.answer;
    })

pub returns-in_err-begin_late-clause-known : goal.returns-in_err-begin_late-clause-known
returns-in_err-begin_late-clause-known g c =
    advanced_known c.from_residual.result c.args.self.now c.begin_late.new.self
    (returns-in_err-begin_late-clause-answer g c)

pub seconds-smaller : goal.seconds-smaller
seconds-smaller g c = c.in_ok-begin_late.ensures.fewer c.if-branch.true

pub seconds-preserved : goal.seconds-preserved
seconds-preserved g c = (
  (λ after h. c.seconds.invariant.0 after
      (Begins c.seconds.self c.begin_late.new.self after
      (subst (λ (b : Bool). HasBegunLate b c.seconds.self c.begin_late.new.self) c.if-branch.true
      c.in_ok-begin_late.ensures.answer) h)),
  further_since g.C.Counter.answers_after c.seconds.self.caller c.begin_late.new.self.caller
      c.args.self.now.count c.seconds.self.count c.begin_late.new.self.count
      c.begin_late.ensures.known c.seconds.invariant.1 c.begin_late.ensures.readings,
)

pub returns-clause-answer : goal.returns-clause-answer
returns-clause-answer g c = record {
  before = c.seconds.self;
  begun = c.seconds.invariant.0 c.seconds.self (Still c.seconds.self);
  last = subst (λ (b : Bool). HasBegunLate b c.seconds.self c.begin_late.new.self)
      c.if-branch.false c.in_ok-begin_late.ensures.answer;
}

pub returns-clause-known : goal.returns-clause-known
returns-clause-known g c =
    advanced_known (Ok (tt {0})) c.args.self.now c.begin_late.new.self (returns-clause-answer g c)

pub returns-in_err-begin_late-clause-readings : goal.returns-in_err-begin_late-clause-readings
returns-in_err-begin_late-clause-readings g c =
    further_since g.C.Counter.answers_after c.seconds.self.caller c.begin_late.new.self.caller
    c.args.self.now.count c.seconds.self.count c.begin_late.new.self.count
    c.begin_late.ensures.known c.seconds.invariant.1 c.begin_late.ensures.readings

pub returns-clause-readings : goal.returns-clause-readings
returns-clause-readings g c =
    further_since g.C.Counter.answers_after c.seconds.self.caller c.begin_late.new.self.caller
    c.args.self.now.count c.seconds.self.count c.begin_late.new.self.count
    c.begin_late.ensures.known c.seconds.invariant.1 c.begin_late.ensures.readings
