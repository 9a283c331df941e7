use Rattle.std.proofs.Common.{◌∙◌, ap, sym}
use Rattle.std.specs.Prelude.{None}
use Rattle.tk_clock.specs.declared.clock_id.ClockId.TheVariants.{Monotonic}
use Rattle.tk_clock.specs.State.{base_value}
use Rattle.tk_report.specs.Report.{answer_line}
use Rattle.tk_report.proofs.Lines.{reply_line-accepted}
use Rattle.tk_report.proofs.Times.{IsWritable-low}
use Rattle.tk_session.proofs.plain.line_of.Goals as goal

pub ok-requires : goal.ok-requires
ok-requires c =
    let base = c.args.clocks.now.clock.base in
    IsWritable-low (base_value base Monotonic base.last) c.monotonic.result
    c.monotonic.ensures.value c.monotonic.ensures.below

pub returns-in-Ok : goal.returns-in-Ok
returns-in-Ok c = λ reading reply replied.
    c.ok.ensures ∙ sym (reply_line-accepted None c.args.clocks.now reply reading c.in-Ok.number
    c.monotonic.result (rw c.in-Ok.is at replied) c.monotonic.ensures.value)

pub returns-in-Err : goal.returns-in-Err
returns-in-Err c = λ reading reply replied.
    let refused = rw c.in-Err.is at replied in
    c.no.ensures ∙ sym (ap (answer_line reply.journal reading) refused.answer)
