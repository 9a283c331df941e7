use Rattle.tk_ntp.proofs.Soon.{grown}
use Rattle.tk_ntp.proofs.lag.soon.few_growth.Goals as goal

pub returns-clause-value : goal.returns-clause-value
returns-clause-value c =
    grown c.args.desc c.args.length c.length_of.result c.length_of-2.result c.args.mult
    c.args.cycles c.mult.result c.units_of.result c.units_of-2.result c.ranges.length
    c.mult.ensures.value c.units_of.ensures.value c.units_of-2.ensures.value
    c.length_of.ensures.value c.length_of-2.ensures.value c.length_of.ensures.most
    c.length_of-2.ensures.most
