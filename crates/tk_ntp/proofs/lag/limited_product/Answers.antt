use Rattle.std.proofs.Common.{◌∙◌, sym, ap, subst, ◌+◌, ◌*◌, ◌/◌, ◌%◌, ◌^◌, ◌≤◌, min}
use Rattle.tk_ntp.proofs.Product.{beyond, halves}
use Rattle.tk_ntp.proofs.lag.limited_product.Goals as goal

pub returns-then-upper : goal.returns-then-upper
returns-then-upper c =
    beyond c.args.cycles c.args.short
    (subst (λ n. 2 ^ 94 ≤ n * (c.args.short / 2 ^ 32)) c.from-2.ensures c.if-upper.true)

pub returns : goal.returns
returns c =
    let short = c.args.short in
    c.min-2.ensures
    ∙ ap (λ n. min (n * (short / 2 ^ 32) * 2 ^ 32 + c.from-3.result * (short % 2 ^ 32)) (2 ^ 126))
    c.from-2.ensures
    ∙ ap (λ n. min (c.args.cycles * (short / 2 ^ 32) * 2 ^ 32 + n * (short % 2 ^ 32)) (2 ^ 126))
    c.from-3.ensures
    ∙ ap (λ n. min n (2 ^ 126)) (sym (halves c.args.cycles short))
