use Rattle.tk_ntp.proofs.Soon.{length_short}
use Rattle.tk_ntp.proofs.lag.soon.length_of.Goals as goal

pub returns-clause-most : goal.returns-clause-most
returns-clause-most c =
    length_short c.args.units c.args.length c.from.result c.from-2.result c.requires
    c.ranges.length c.from.ensures c.from-2.ensures
