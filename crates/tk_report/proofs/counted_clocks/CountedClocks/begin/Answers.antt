use Rattle.tk_report.proofs.KeptClocks.{IsKept-begun}
use Rattle.tk_report.proofs.counted_clocks.CountedClocks.begin.Goals as goal

pub returns : goal.returns
returns c =
    IsKept-begun c.args.keep c.args.start c.clocks-clock.result.0 c.clocks-clock.result.1 c.most_by.result
    c.clocks-clock.ensures.clock c.clocks-clock.ensures.count c.most_by.ensures
