use Rattle.std.proofs.Common.{subst}
use Rattle.std.specs.Prelude.{Ok, Err}
use Rattle.tk_now.specs.Ticker.{IsTick}
use Rattle.tk_race.proofs.Answering.{done, refused}
use Rattle.tk_race.proofs.Timing.{timed}
use Rattle.tk_race.proofs.actor.answer.Goals as goal

pub returns-in-Ok-clause-right : goal.returns-in-Ok-clause-right
returns-in-Ok-clause-right g c =
    let promised = c.in-Ok.ensures in
    rw c.in-Order.is (done c.args.counter.now _ _ _ _ promised.answer promised.same)

pub returns-in-Err-clause-right : goal.returns-in-Err-clause-right
returns-in-Err-clause-right g c =
    let promised = c.in-Err.ensures in
    rw c.in-Order.is (refused c.args.counter.now _ _ _ _ promised.answer promised.same)

pub returns-in-Ok-now-clause-right : goal.returns-in-Ok-now-clause-right
returns-in-Ok-now-clause-right g c =
    let promised = c.in-Ok-now.ensures in
    rw c.in-Now.is (timed _ c.of.result c.args.counter.now
    (λ from answer given. subst (λ t. IsTick t answer) c.of.ensures given)
    _ _ _ (Ok _) _ promised.extends promised.noticed
    promised.answer (promised.same.0, promised.same.1, promised.same.2) c.front-in-Ok-now.ensures)

pub returns-in-Err-now-clause-right : goal.returns-in-Err-now-clause-right
returns-in-Err-now-clause-right g c =
    let promised = c.in-Err-now.ensures in
    rw c.in-Now.is (timed _ c.of.result c.args.counter.now
    (λ from answer given. subst (λ t. IsTick t answer) c.of.ensures given)
    _ _ _ (Err _) _ promised.extends promised.noticed
    promised.answer (promised.same.0, promised.same.1, promised.same.2) c.front-in-Err-now.ensures)
