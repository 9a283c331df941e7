use Rattle.std.proofs.lemmas.Bool.{le-leb}
use Rattle.tk_ntp.proofs.Turning.{fits, is, wide}
use Rattle.tk_ntp.proofs.lag.rescaled_lag.Goals as goal

pub overflow_mul-result : goal.overflow_mul-result
overflow_mul-result c =
    fits c.args.from c.args.to c.args.lag c.if-from-to.true c.requires.to
    c.requires.lag

pub returns-then-from-to-clause-value : goal.returns-then-from-to-clause-value
returns-then-from-to-clause-value c =
    rw (le-leb c.args.from c.args.to c.if-from-to.true)
    (is c.args.from c.args.to c.args.lag c.if-from-to.true c.requires.to
    c.requires.lag)

pub returns-then-from-to-clause-most : goal.returns-then-from-to-clause-most
returns-then-from-to-clause-most c =
    rw (is c.args.from c.args.to c.args.lag c.if-from-to.true c.requires.to
    c.requires.lag)
    (wide c.args.from c.args.to c.args.lag c.if-from-to.true c.requires.to c.requires.lag)
