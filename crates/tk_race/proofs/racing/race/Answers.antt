use Rattle.std.proofs.Common.{◌≡◌, length, rules, subst}
use Rattle.std.specs.Prelude.{None}
use Rattle.tk_clock.specs.Refusal.{opening_refusal}
use Rattle.tk_now.specs.Ticker.{IsTick}
use Rattle.tk_shared.specs.Opening.{IsOpened, opening_fault}
use Rattle.tk_shared.specs.Readings.{IsReading}
use Rattle.tk_race.proofs.Errors.{answered, nothing_wrong, within_mask}
use Rattle.tk_race.proofs.racing.race.Goals as goal

pub returns-in-Ok-prepare : goal.returns-in-Ok-prepare
returns-in-Ok-prepare g c =
    let many = length c.args.actors.now in
    let start = c.in-Ok-prepare.prepared.journal in
    let none : opening_refusal c.args.desc c.args.reading c.args.real ≡ None = search rules in
    let low = within_mask c.args.desc c.args.reading c.args.real none in
    let fit : opening_fault many c.args.real ≡ None = search rules in
    let opened : IsOpened c.args.desc c.args.real start = c.in-Ok-prepare.ensures.answer.2 in
    let given = c.in-Ok-prepare.ensures.reading in
    let read : IsReading IsTick c.new-counter.result c.args.desc start.opening.reading =
    record {
      answer = given.answer;
      given = subst (λ t. IsTick t given.answer) c.in_ok-reader.ensures given.given;
      kept = given.kept;
    } in
    let fine = nothing_wrong many c.args.desc c.args.reading c.args.real fit low in
    answered many c.args.desc c.args.reading c.args.real _ _ c.raced.result fine
    (λ report stated. (
      fine,
      record {
        ticker = c.new-counter.result;
        first = c.new-counter.ensures.start;
        added = c.new-counter.ensures.step;
        start = start;
        opened = opened;
        ticked = read;
        outcome = stated.0;
      },
      stated.1,
    )) c.raced.ensures
