use Rattle.std.proofs.Common.{rules, ap, sym, subst}
use Rattle.std.specs.Prelude.{IfOk, IfSome}
use Rattle.tk_clock.specs.Journal.{Journal, Opening}
use Rattle.tk_uses.specs.InTurn.{HaveRisen}
use Rattle.tk_uses.specs.Steered.{IsTrustedThroughout}
use Rattle.tk_uses.proofs.Newcomers.{seen_last}
use Rattle.tk_uses.proofs.steered.steered.Goals as goal

pub second_begins-requires-clause-trusted : goal.second_begins-requires-clause-trusted
second_begins-requires-clause-trusted g c κs within =
    let same = ap (λ (j : Journal). j.opening) (seen_last c.args.prepared c.args.prepared.callers
    c.pop.new.self.items c.in-Some.owner (search rules)) in
    subst (λ (o : Opening). IsTrustedThroughout g.C.Counter.answers_after g.S.SharedCounter.answers
    c.args.counter.now o) (sym same) c.requires.trusted

pub returns : goal.returns
returns g c =
    let same = ap (λ (j : Journal). j.opening) (seen_last c.args.prepared c.args.prepared.callers
    c.pop.new.self.items c.in-Some.owner (search rules)) in
    subst (λ (o : Opening). IfOk c.second_begins.result (λ times. IfSome times (λ t.
    HaveRisen g.S.SharedCounter.answers c.args.counter.now o t.0 t.1))) same c.second_begins.ensures
