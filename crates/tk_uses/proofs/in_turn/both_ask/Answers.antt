use Rattle.std.proofs.Common.{arith, rules, refl, sym, subst}
use Rattle.std.specs.Prelude.{IfSome}
use Rattle.tk_clock.specs.Journal.{Opening}
use Rattle.tk_clock.proofs.Lists.{prefix_self}
use Rattle.tk_shared.proofs.Informed.{known_by_trans, knows_as_much}
use Rattle.tk_uses.specs.InTurn.{HaveRisen, IsTrusted}
use Rattle.tk_uses.proofs.Newcomers.{opened_as}
use Rattle.tk_uses.proofs.in_turn.both_ask.Goals as goal

pub compared-requires-clause-asked : goal.compared-requires-clause-asked
compared-requires-clause-asked g c κs within =
    let first = c.in_ok-first.first in
    let later = c.in_ok-later.later in
    let told = c.follow.ensures in
    let gave = c.in_ok-command.ensures.answer in
    let handed = known_by_trans first.caller c.command.new.caller c.follow.new.other gave.known
    told.known.1 in
    record {
      before = c.args.one;
      after = first.caller;
      before' = c.follow.new.caller;
      after' = later.caller;
      seen = search rules;
      seen' = search rules;
      handed = known_by_trans first.caller c.follow.new.other c.follow.new.caller handed told.follows;
      known = handed;
      known' = knows_as_much later.caller later.caller refl refl refl
          (prefix_self later.caller.noticed.log) (omega arith);
    }

pub compared-requires-clause-trusted : goal.compared-requires-clause-trusted
compared-requires-clause-trusted g c κs within =
    let told = c.follow.ensures in
    let same = opened_as c.args.one c.in_ok-first.first.caller c.command.new.caller
    c.follow.new.other c.follow.new.caller c.in_ok-later.later.caller (search rules)
    c.in_ok-command.ensures.answer.known told.known.1 told.seen (search rules) in
    subst (λ (o : Opening). IsTrusted g.C.Counter.answers_after g.S.SharedCounter.answers
    c.args.counter.now o) (sym same) c.requires.trusted

pub returns : goal.returns
returns g c =
    let told = c.follow.ensures in
    let same = opened_as c.args.one c.in_ok-first.first.caller c.command.new.caller
    c.follow.new.other c.follow.new.caller c.in_ok-later.later.caller (search rules)
    c.in_ok-command.ensures.answer.known told.known.1 told.seen (search rules) in
    subst (λ (o : Opening). IfSome c.compared.result (λ t.
    HaveRisen g.S.SharedCounter.answers c.args.counter.now o t.0 t.1)) same c.compared.ensures.risen
