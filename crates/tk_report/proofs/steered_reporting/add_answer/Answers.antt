use Rattle.tk_steered.specs.Kept.{steered_of}
use Rattle.tk_report.proofs.Replies.{answered-writable}
use Rattle.tk_report.proofs.steered_reporting.add_answer.Goals as goal

pub line_adj-requires : goal.line_adj-requires
line_adj-requires g c =
    answered-writable c.args.reading c.args.request.now (steered_of c.args.clocks.now)
    (steered_of c.adjtimex.new.self) c.in-Ok.reply c.in-Ok.ensures.clocks
