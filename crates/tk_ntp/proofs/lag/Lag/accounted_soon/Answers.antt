use Rattle.std.proofs.Common.{◌∙◌}
use Rattle.tk_ntp.proofs.Soon.{accounted}
use Rattle.tk_ntp.proofs.lag.Lag.accounted_soon.Goals as goal

pub of_amount-requires : goal.of_amount-requires
of_amount-requires c = c.is_small.ensures.most c.if-not-is_small.false

pub returns : goal.returns
returns c =
    c.of_amount.ensures
    ∙ accounted c.args.desc c.args.length c.args.self.now c.amount.result c.few_growth.result
    c.args.mult c.args.cycles c.ranges.length c.amount.ensures.value c.amount.ensures.most
    c.few_growth.ensures.value c.few_growth.ensures.most
    (c.is_small.ensures.small c.if-not-is_small.false)
