use Rattle.std.proofs.Common.{rules, ap, sym, subst}
use Rattle.std.specs.Prelude.{IfOk, IfSome}
use Rattle.tk_clock.specs.Journal.{Journal, Opening}
use Rattle.tk_uses.specs.InTurn.{HaveRisen, IsTrusted}
use Rattle.tk_uses.proofs.Newcomers.{seen_before}
use Rattle.tk_uses.proofs.in_turn.in_turn.Goals as goal

pub both_ask-requires-clause-trusted : goal.both_ask-requires-clause-trusted
both_ask-requires-clause-trusted g c κs within =
    let same = ap (λ (j : Journal). j.opening) (seen_before c.args.prepared c.args.prepared.callers
    c.pop-2.new.self.items c.in-Some-Some.one c.in-Some-Some.two (search rules)) in
    subst (λ (o : Opening). IsTrusted g.C.Counter.answers_after g.S.SharedCounter.answers
    c.args.counter.now o) (sym same) c.requires.trusted

pub returns : goal.returns
returns g c =
    let same = ap (λ (j : Journal). j.opening) (seen_before c.args.prepared c.args.prepared.callers
    c.pop-2.new.self.items c.in-Some-Some.one c.in-Some-Some.two (search rules)) in
    subst (λ (o : Opening). IfOk c.both_ask.result (λ times. IfSome times (λ t.
    HaveRisen g.S.SharedCounter.answers c.args.counter.now o t.0 t.1))) same c.both_ask.ensures
