use Rattle.std.proofs.Common.{List, ap, arith, rules, sym, subst}
use mathlib.Core.List.{IsPrefix}
use Rattle.tk_now.specs.declared.rule.Answer.{Answer}
use Rattle.tk_shared.specs.Callers.{Known}
use Rattle.tk_shared.proofs.Informed.{knows_as_much}
use Rattle.tk_shared.proofs.locked.Locked.follow.Goals as goal

pub returns-clause-follows : goal.returns-clause-follows
returns-clause-follows g c =
    let first = c.inform.ensures.informed.all in
    let then = c.inform-2.ensures.informed.all in
    knows_as_much _ _ (search rules) (search rules) (search rules)
    (subst (λ (p : List Answer × List Answer). IsPrefix p.0 p.1) (λ i. (sym first i, sym then i))
    c.inform-2.ensures.log)
    (let one = ap (λ (k : Known). k.folded) c.inform.ensures.caller in
    let two = ap (λ (k : Known). k.folded) c.inform-2.ensures.caller in
    omega (arith, one, two))
