use Rattle.std.proofs.Common.{◌≡◌, ◌++◌, ℕ, List, ap, subst, sym}
use Rattle.std.specs.Prelude.{OnOk}
use Rattle.tk_clock.specs.declared.clock_id.ClockId.TheVariants.{Monotonic}
use Rattle.tk_clock.specs.State.{base_value}
use Rattle.tk_report.specs.Report.{answer_line}
use Rattle.tk_report.proofs.Lines.{reply_line-accepted}
use Rattle.tk_report.proofs.Times.{IsWritable-low}
use Rattle.tk_report.proofs.reporting.add_answer.Goals as goal

pub line_ok-requires : goal.line_ok-requires
line_ok-requires g c =
    let base = c.args.clocks.now.clock.base in
    IsWritable-low (base_value base Monotonic base.last) c.monotonic.result
    c.monotonic.ensures.value c.monotonic.ensures.below

pub returns-in-Ok-clause-line : goal.returns-in-Ok-clause-line
returns-in-Ok-clause-line g c = λ keep reading reply replied.
    let text = c.args.text.now.items in
    let R : List ℕ → Type 0 = λ line.
    OnOk c.line_ok.result (c.line_ok.new.out.items ≡ text ++ line) in
    subst R (sym (reply_line-accepted keep c.args.clocks.now reply reading c.in-Ok.number
    c.monotonic.result (rw c.in-Ok.is at replied) c.monotonic.ensures.value)) c.line_ok.ensures.ok

pub returns-in-Err-clause-line : goal.returns-in-Err-clause-line
returns-in-Err-clause-line g c = λ keep reading reply replied.
    let text = c.args.text.now.items in
    let R : List ℕ → Type 0 = λ line.
    OnOk c.line_no.result (c.line_no.new.out.items ≡ text ++ line) in
    let refused = rw c.in-Err.is at replied in
    subst R (sym (ap (answer_line reply.journal reading) refused.answer)) c.line_no.ensures.ok
