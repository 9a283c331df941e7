-- The lines of a report.
use Rattle.std.proofs.Common.{◌≡◌, ◌∙◌, ℕ, List, sym, ap, subst}
use Rattle.std.specs.Prelude.{pos, Option, Result, Ok, Err, MatchResult}
use Rattle.tk_clock.specs.declared.clock_id.ClockId.TheVariants.{Monotonic}
use Rattle.tk_clock.specs.declared.timespec.Timespec.{Timespec}
use Rattle.tk_clock.specs.Clocks.{clock_value}
use Rattle.tk_clock.specs.Journal.{last_reading}
use Rattle.tk_clock.specs.Monotonic.{monotonic}
use Rattle.tk_clock.specs.Run.{Reply}
use Rattle.tk_clock.specs.State.{State, base_value}
use Rattle.tk_clock.specs.Time.{timespec_of}
use Rattle.tk_keeper.specs.Read.{IsTimeOf}
use Rattle.tk_script.specs.Coming.{opened_with}
use Rattle.tk_script.specs.Grammar.{Fails, parse_of}
use Rattle.tk_script.specs.Lines.{ok_line}
use Rattle.tk_script.specs.declared.opening.Start.{Start}
use Rattle.tk_script.specs.declared.script_error.ScriptError.{ScriptError}
use Rattle.tk_script.specs.declared.script_error.ScriptError.TheVariants as errors
use Rattle.tk_report.specs.CountedClocks.{Counted, IsReplied}
use Rattle.tk_report.specs.Folding.{rule_of}
use Rattle.tk_report.specs.Report.{IsTimeAt, answer_line, reply_line}
use Rattle.tk_report.specs.Reports.{IsReportBy, IsReportOfRows}
use Rattle.tk_clock.proofs.Ledger.{base_value-base_of}
use Rattle.tk_report.proofs.Times.{IsTimeAt-read}
use Rattle.tk_report.proofs.Rows.{Rows}

reply_line-at : (reply : Reply) (reading number : ℕ) (time : Timespec) →
    reply.answer ≡ Ok number → IsTimeAt reply.journal Monotonic reading time →
    reply_line reading reply ≡ ok_line number time
reply_line-at reply reading number time answered (nanos, value, split) =
    let same : pos (monotonic reply.journal reading) ≡ pos nanos = value in
    let count : monotonic reply.journal reading ≡ nanos = cc in
    ap (answer_line reply.journal reading) answered
    ∙ ap (λ n. ok_line number (timespec_of n)) count
    ∙ ap (ok_line number) (sym split)

-- the line of an accepted command contains the time to which the clocks were brought forward
pub reply_line-accepted : (keep : Option ℕ) (clocks : Counted) (reply : Reply)
    (reading number : ℕ) (time : Timespec) → IsReplied keep reading (Ok number) clocks reply →
    IsTimeOf (base_value clocks.clock.base Monotonic clocks.clock.base.last) time →
    reply_line reading reply ≡ ok_line number time
reply_line-accepted keep clocks reply reading number time replied stated =
    let journal = reply.journal in
    let value : base_value clocks.clock.base Monotonic clocks.clock.base.last
    ≡ clock_value journal Monotonic reading =
    ap (λ (s : State). base_value s.base Monotonic s.base.last) replied.kept.clock
    ∙ base_value-base_of journal Monotonic (last_reading journal)
    ∙ ap (clock_value journal Monotonic) replied.last in
    reply_line-at reply reading number time replied.answer
    (IsTimeAt-read journal Monotonic reading time
    (subst (λ nanos. IsTimeOf nanos time) value stated))

-- if every fault of `from` is a fault of `to`, `to` also allows every error that `from` allows
pub Fails-from : {X Y : Type 0} (from : Result X ScriptError) (to : Result Y ScriptError)
    (fault : ScriptError) →
    ((error : ScriptError) → from ≡ Err error → to ≡ Err error) →
    Fails fault from → Fails fault to
Fails-from from to errors.Memory step fails = tt
Fails-from from to errors.TooLarge step fails = step errors.TooLarge fails
Fails-from from to errors.Empty step fails = step errors.Empty fails
Fails-from from to (errors.Opening row) step fails = step (errors.Opening row) fails
Fails-from from to (errors.Word row) step fails = step (errors.Word row) fails
Fails-from from to (errors.Fields row) step fails = step (errors.Fields row) fails
Fails-from from to (errors.Number row) step fails = step (errors.Number row) fails
Fails-from from to (errors.Counter row fault) step fails = step (errors.Counter row fault) fails

-- a fault of the rows is the fault of the bytes that contain the opening and the rows
pub fails-opened : (bytes : List ℕ) (start : Start) (all : Rows) (fault : ScriptError) →
    parse_of bytes ≡ opened_with start all → Fails fault all → Fails fault (parse_of bytes)
fails-opened bytes start all fault opens =
    Fails-from all (parse_of bytes) fault (λ error fails. opens ∙ ap (opened_with start) fails)

-- the report of the rows, or their fault, is the report or the fault of the bytes that contain the
-- opening and the rows
pub report-opened : {A : Type 0} (keep : Option ℕ) (bytes : List ℕ) (start : Start) (all : Rows)
    (text_of : A → List ℕ) (count_of : A → ℕ)
    (result : Result A ScriptError) → parse_of bytes ≡ opened_with start all →
    MatchResult result
    (λ report. IsReportOfRows (rule_of keep) start all (text_of report) (count_of report))
    (λ fault. Fails fault all) →
    MatchResult result
    (λ report. IsReportBy (rule_of keep) bytes (text_of report) (count_of report))
    (λ fault. Fails fault (parse_of bytes))
report-opened keep bytes start all text_of count_of (Ok made) opens (parse, known, report) =
    (parse, opens ∙ known, report)
report-opened keep bytes start all text_of count_of (Err fault) opens fails =
    fails-opened bytes start all fault opens fails
