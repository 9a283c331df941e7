use Rattle.std.proofs.Common.{◌∙◌, ap, pos, ◌*ℤ◌}
use Rattle.tk_ntp.proofs.Gains.{product_is, product_most}
use Rattle.tk_ntp.proofs.loops.pll_change.Goals as goal

pub returns-clause-value : goal.returns-clause-value
returns-clause-value c =
    product_is c.args.offset c.pll_gain.result c.ranges.offset c.requires.held c.pll_gain.ensures.most
    ∙ ap (λ n. c.args.offset *ℤ pos n) c.pll_gain.ensures.value

pub returns-clause-most : goal.returns-clause-most
returns-clause-most c =
    rw (product_is c.args.offset c.pll_gain.result c.ranges.offset c.requires.held c.pll_gain.ensures.most)
    (product_most c.args.offset c.pll_gain.result c.requires.held c.pll_gain.ensures.most)
