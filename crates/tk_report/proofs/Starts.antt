-- The report and the journal of a script, by the way in which its clocks begin.
use Rattle.std.proofs.Common.{◌≡◌, ◌∙◌, ℕ, List, sym, ap, subst}
use Rattle.std.specs.Prelude.{IfOk, Option, Result, Ok, Err, MatchResult}
use Rattle.tk_clock.specs.Journal.{Journal}
use Rattle.tk_clock.specs.Legal.{Beginning}
use Rattle.tk_script.specs.declared.opening.Start.{Start}
use Rattle.tk_script.specs.declared.opening.Start.TheVariants.{Opened, Steered, Running, Continued}
use Rattle.tk_script.specs.declared.row.Row.{Row}
use Rattle.tk_script.specs.declared.script_error.ScriptError.{ScriptError}
use Rattle.tk_script.specs.Coming.{opened_with}
use Rattle.tk_script.specs.Grammar.{Fails, Gives, Parse, parse_of}
use Rattle.tk_script.specs.Start.{journal_at}
use Rattle.tk_report.specs.declared.plain_start.PlainStart.{PlainStart}
use Rattle.tk_report.specs.declared.plain_start.PlainStart.TheVariants as starts
use Rattle.tk_report.specs.Began.{began_by}
use Rattle.tk_report.specs.Beginnings.{IsSteeredAs, start_of}
use Rattle.tk_report.specs.Folding.{rule_of}
use Rattle.tk_report.specs.Report.{Rule, IsPlainReportOfRows, differences_of}
use Rattle.tk_report.specs.Reports.{IsPlainReportWith, IsReportFrom, IsReportOfRows}
use Rattle.tk_report.specs.SteeredReport.{IsSteeredJournal, IsSteeredJournalOfRows, IsSteeredReport, IsSteeredReportOfRows}
use Rattle.tk_report.specs.AllRows.{IsJournalFrom, IsJournalOf, after_all, journal_after}
use Rattle.tk_report.proofs.Lines.{Fails-from, fails-opened}
use Rattle.tk_report.proofs.Rows.{Rows}
use Rattle.tk_steered.specs.Kept.{SteeredKeeper}

start-opened : (start : Start) (all : Rows) (parse : Parse) → opened_with start all ≡ Ok parse →
    start ≡ parse.start
start-opened start (Ok rows) parse known =
    let whole : Parse = record { start = start; rows = rows } in
    let same : whole ≡ parse = cc known in
    ap (λ (p : Parse). p.start) same
start-opened start (Err fault) parse known = absurd (cc known)

report-unsteered : (rule : Rule) (plain : PlainStart) (parse : Parse) (text : List ℕ) (found : ℕ) →
    IsPlainReportWith rule parse text found → IsReportFrom (start_of plain) rule parse text found
report-unsteered rule (starts.Opened opening) parse text found report = report
report-unsteered rule (starts.Running clock front) parse text found report = report

-- the report by clocks that nothing steers is the report of the rows
pub report-plain : {A : Type 0} (keep : Option ℕ) (start : Start) (plain : PlainStart) (all : Rows)
    (text_of : A → List ℕ) (count_of : A → ℕ) (result : Result A ScriptError) →
    start ≡ start_of plain →
    MatchResult result
    (λ report. IsPlainReportOfRows (rule_of keep) (start_of plain) all (text_of report)
    × (count_of report ≡ differences_of (rule_of keep) (opened_with (start_of plain) all)))
    (λ fault. Fails fault all) →
    MatchResult result
    (λ report. IsReportOfRows (rule_of keep) start all (text_of report) (count_of report))
    (λ fault. Fails fault all)
report-plain keep start plain all text_of count_of (Ok made) begins ((parse, known, report), count) =
    let rule = rule_of keep in
    let text = text_of made in
    let found = count_of made in
    let stated : IsPlainReportWith rule parse text found =
    (report, count ∙ ap (differences_of rule) known) in
    let from : IsReportFrom parse.start rule parse text found =
    subst (λ (s : Start). IsReportFrom s rule parse text found)
    (start-opened (start_of plain) all parse known)
    (report-unsteered rule plain parse text found stated) in
    (parse, ap (λ (s : Start). opened_with s all) begins ∙ known, from)
report-plain keep start plain all text_of count_of (Err fault) begins fails = fails

report-begun : (rule : Rule) (start : Start) (first : SteeredKeeper) (parse : Parse)
    (text : List ℕ) (found : ℕ) →
    IsSteeredAs start first → IsSteeredReport first parse.rows text found →
    IsReportFrom start rule parse text found
report-begun rule (Opened opening) first parse text found begins report = absurd begins
report-begun rule (Running clock front) first parse text found begins report = absurd begins
report-begun rule (Steered opening hz) first parse text found begins report =
    subst (λ (k : SteeredKeeper). IsSteeredReport k parse.rows text found) begins report
report-begun rule (Continued clock front) first parse text found begins report =
    subst (λ (k : SteeredKeeper). IsSteeredReport k parse.rows text found) begins report

-- the report by steered clocks is the report of the rows
pub report-steered : {A : Type 0} (keep : Option ℕ) (start : Start) (first : SteeredKeeper)
    (all : Rows) (text_of : A → List ℕ) (count_of : A → ℕ) (result : Result A ScriptError) →
    IsSteeredAs start first →
    MatchResult result
    (λ report. IsSteeredReportOfRows first all (text_of report) (count_of report))
    (λ fault. Fails fault all) →
    MatchResult result
    (λ report. IsReportOfRows (rule_of keep) start all (text_of report) (count_of report))
    (λ fault. Fails fault all)
report-steered keep start first all text_of count_of (Ok made) begins (rows, known, report) =
    let parse : Parse = record { start = start; rows = rows } in (
      parse,
      ap (opened_with start) known,
      report-begun (rule_of keep) start first parse (text_of made) (count_of made) begins report,
    )
report-steered keep start first all text_of count_of (Err fault) begins fails = fails

journal-unsteered : (plain : PlainStart) (rows : List Row) (journal : Journal) →
    journal ≡ after_all (journal_at (start_of plain)) rows →
    IsJournalFrom (start_of plain) rows journal
journal-unsteered (starts.Opened opening) rows journal known = known
journal-unsteered (starts.Running clock front) rows journal known = known

journal-plain_rows : (plain : PlainStart) (all : Rows) (journal : Journal) →
    journal_after (journal_at (start_of plain)) all ≡ Ok journal →
    IsJournalOf (opened_with (start_of plain) all) journal
journal-plain_rows plain (Ok rows) journal known =
    let same : after_all (journal_at (start_of plain)) rows ≡ journal = cc known in
    journal-unsteered plain rows journal (sym same)
journal-plain_rows plain (Err fault) journal known = absurd (cc known)

-- a fault of the journal is the fault of the rows
err-of_rows : (journal : Journal) (all : Rows) (fault : ScriptError) →
    journal_after journal all ≡ Err fault → all ≡ Err fault
err-of_rows journal (Ok rows) fault known = absurd (cc known)
err-of_rows journal (Err other) fault known =
    let same : other ≡ fault = cc known in
    ap (λ (e : ScriptError). Err e) same

fails-of_rows : (journal : Journal) (all : Rows) (fault : ScriptError) →
    Fails fault (journal_after journal all) → Fails fault all
fails-of_rows journal all fault =
    Fails-from (journal_after journal all) all fault (err-of_rows journal all)

-- the journal of clocks that nothing steers is the journal of the rows
pub journal-plain : {A : Type 0} (start : Start) (plain : PlainStart) (all : Rows)
    (journal_in : A → Journal) (result : Result A ScriptError) → start ≡ start_of plain →
    Gives journal_in result (journal_after (journal_at (start_of plain)) all) →
    MatchResult result (λ keeper. IsJournalOf (opened_with start all) (journal_in keeper))
    (λ fault. Fails fault all)
journal-plain start plain all journal_in (Ok keeper) begins known =
    subst (λ (s : Start). IsJournalOf (opened_with s all) (journal_in keeper)) (sym begins)
    (journal-plain_rows plain all (journal_in keeper) known)
journal-plain start plain all journal_in (Err fault) begins fails =
    fails-of_rows (journal_at (start_of plain)) all fault fails

journal-begun : (start : Start) (first : SteeredKeeper) (rows : List Row) (journal : Journal) →
    IsSteeredAs start first → IsSteeredJournal first rows journal →
    IsJournalFrom start rows journal
journal-begun (Opened opening) first rows journal begins known = absurd begins
journal-begun (Running clock front) first rows journal begins known = absurd begins
journal-begun (Steered opening hz) first rows journal begins known =
    subst (λ (k : SteeredKeeper). IsSteeredJournal k rows journal) begins known
journal-begun (Continued clock front) first rows journal begins known =
    subst (λ (k : SteeredKeeper). IsSteeredJournal k rows journal) begins known

-- the journal of steered clocks is the journal of the rows
pub journal-steered : {A : Type 0} (start : Start) (first : SteeredKeeper) (all : Rows)
    (journal_in : A → Journal) (result : Result A ScriptError) → IsSteeredAs start first →
    MatchResult result (λ keeper. IsSteeredJournalOfRows first all (journal_in keeper))
    (λ fault. Fails fault all) →
    MatchResult result (λ keeper. IsJournalOf (opened_with start all) (journal_in keeper))
    (λ fault. Fails fault all)
journal-steered start first all journal_in (Ok keeper) begins (rows, known, journal) =
    subst (λ (read : Rows). IsJournalOf (opened_with start read) (journal_in keeper)) (sym known)
    (journal-begun start first rows (journal_in keeper) begins journal)
journal-steered start first all journal_in (Err fault) begins fails = fails

-- the journal of the rows, or their fault, is the journal or the fault of the bytes that contain
-- the opening and the rows
pub journal-opened : {A : Type 0} (bytes : List ℕ) (start : Start) (all : Rows)
    (journal_in : A → Journal) (result : Result A ScriptError) →
    parse_of bytes ≡ opened_with start all →
    MatchResult result (λ keeper. IsJournalOf (opened_with start all) (journal_in keeper))
    (λ fault. Fails fault all) →
    MatchResult result (λ keeper. IsJournalOf (parse_of bytes) (journal_in keeper))
    (λ fault. Fails fault (parse_of bytes))
journal-opened bytes start all journal_in (Ok keeper) opens known =
    subst (λ (read : Result Parse ScriptError). IsJournalOf read (journal_in keeper)) (sym opens)
    known
journal-opened bytes start all journal_in (Err fault) opens fails =
    fails-opened bytes start all fault opens fails

-- the start of the past of steered clocks is the script's
pub began-steered : (start : Start) (first : SteeredKeeper) → IsSteeredAs start first →
    first.keeper.began ≡ began_by start
began-steered (Opened opening) first begins = absurd begins
began-steered (Running clock front) first begins = absurd begins
began-steered (Steered opening hz) first begins =
    ap (λ (k : SteeredKeeper). k.keeper.began) begins
began-steered (Continued clock front) first begins =
    ap (λ (k : SteeredKeeper). k.keeper.began) begins

began-read : (start : Start) (all : Rows) (began : Beginning) → began ≡ began_by start →
    IfOk (opened_with start all) (λ parse. began ≡ began_by parse.start)
began-read start (Ok rows) began is = is
began-read start (Err fault) began is = tt

-- the start of the past of the clocks that the bytes of a script begin
pub began-opened : {A : Type 0} (bytes : List ℕ) (start : Start) (all : Rows)
    (began_in : A → Beginning) (result : Result A ScriptError) →
    parse_of bytes ≡ opened_with start all →
    IfOk result (λ keeper. began_in keeper ≡ began_by start) →
    IfOk result (λ keeper. IfOk (parse_of bytes)
    (λ parse. began_in keeper ≡ began_by parse.start))
began-opened bytes start all began_in (Ok keeper) opens is =
    subst (λ (read : Result Parse ScriptError). IfOk read
    (λ parse. began_in keeper ≡ began_by parse.start)) (sym opens)
    (began-read start all (began_in keeper) is)
began-opened bytes start all began_in (Err fault) opens is = tt
