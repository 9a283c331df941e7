use Rattle.std.proofs.Common.{◌*◌, ◌^◌, ◌<◌, sym, subst, arith}
use Rattle.tk_clock.proofs.Rescaling.{shifted_left, shifted_right, rescaled-low}
use Rattle.tk_clock.proofs.amount.rescaling.rescaled_units.Goals as goal

pub returns-then-from-to-clause-value : goal.returns-then-from-to-clause-value
returns-then-from-to-clause-value c =
    shifted_left c.args.from c.args.to c.args.frac (omega arith) c.requires.to c.requires.rest

pub returns-then-from-to-clause-low : goal.returns-then-from-to-clause-low
returns-then-from-to-clause-low c =
    subst (λ n. n < 1000000000 * 2 ^ c.args.to)
    (sym (shifted_left c.args.from c.args.to c.args.frac (omega arith) c.requires.to
    c.requires.rest))
    (rescaled-low c.args.from c.args.to c.args.frac c.requires.rest)

pub returns-else-from-to-clause-value : goal.returns-else-from-to-clause-value
returns-else-from-to-clause-value c =
    shifted_right c.args.from c.args.to c.args.frac (omega arith)

pub returns-else-from-to-clause-low : goal.returns-else-from-to-clause-low
returns-else-from-to-clause-low c =
    subst (λ n. n < 1000000000 * 2 ^ c.args.to)
    (sym (shifted_right c.args.from c.args.to c.args.frac (omega arith)))
    (rescaled-low c.args.from c.args.to c.args.frac c.requires.rest)
