-- The lines that a session makes are the report of the script that consists of its records.
use Rattle.std.proofs.Common.{◌≡◌, ◌∙◌, refl, sym, ap, subst, ℕ, ◌+◌, List, [], ◌∷◌, ◌++◌, append_assoc, arith}
use Rattle.std.specs.Prelude.{Option, Ok}
use Rattle.tk_clock.specs.Journal.{Journal}
use Rattle.tk_clock.specs.Refusal.{first_refusal}
use Rattle.tk_report.specs.Report.{IsLines, difference, differences, differs_text, missed}
use Rattle.tk_report.specs.Reports.{IsReportFrom, IsReportOf}
use Rattle.tk_report.specs.SteeredReport.{IsSteeredLines, continued_from, steered_from}
use Rattle.tk_script.specs.Grammar.{Parse, parse_records}
use Rattle.tk_script.specs.Lines.{open_line}
use Rattle.tk_script.specs.Opening.{start_of}
use Rattle.tk_script.specs.Plain.{cut_at_commas}
use Rattle.tk_script.specs.Records.{each}
use Rattle.tk_script.specs.Rows.{row_of, rows_of}
use Rattle.tk_script.specs.Start.{journal_at}
use Rattle.tk_script.specs.declared.opening.Start.{Start}
use Rattle.tk_script.specs.declared.opening.Start.TheVariants.{Opened, Steered, Running, Continued}
use Rattle.tk_script.specs.declared.row.Row.{Row}
use Rattle.tk_session.specs.Run.{AreTold, IsRun, records_in}
use Rattle.tk_session.specs.Session.{Alone, Clocks, IsOpenedBy, IsSessionOf, Led, Session, begun}
use Rattle.tk_steered.specs.Kept.{SteeredKeeper}

-- the rows of one more record
rows-more : (row : ℕ) (fields : List (List ℕ)) (later : List (List (List ℕ))) (first : Row)
    (rows : List Row) → row_of row fields ≡ Ok first → rows_of (row + 1) later ≡ Ok rows →
    rows_of row (fields ∷ later) ≡ Ok (first ∷ rows)
unfolding each
rows-more row fields later first rows e f = rw (e, f) refl

rows-none : (row : ℕ) → rows_of row [] ≡ Ok []
unfolding each
rows-none row = refl

-- the rows of a session's lines, and their results
record HasTold (before : Session) (clocks : Clocks) (lines : List (List ℕ)) (text : List ℕ)
    (next : Session) : Type 0 where
  rows : List Row
  parsed : rows_of (before.records + 1) (records_in lines) ≡ Ok rows
  found : ℕ
  told : AreTold clocks (before.records + 1) rows text found
  differences : next.differences ≡ before.differences + found

run-rows : (lines : List (List ℕ)) (before : Session) (text : List ℕ) (next : Session)
    (clocks : Clocks) → IsSessionOf before clocks → IsRun before lines text next →
    HasTold before clocks lines text next
run-rows [] before text next clocks same (none, stayed) = record {
  rows = [];
  parsed = rows-none (before.records + 1);
  found = 0;
  told = (none, refl);
  differences = omega (arith, ap (λ (s : Session). s.differences) stayed);
}
run-rows ([] ∷ lines) before text next clocks same (first, rest, middle, taken, later, joined) =
    let H : Session → Type 0 = λ s. IsRun s lines rest next in
    let told = run-rows lines before rest next clocks same (subst H taken.1 later) in
    let whole : text ≡ rest = joined ∙ ap (λ (t : List ℕ). t ++ rest) taken.0 in record {
      rows = told.rows;
      parsed = told.parsed;
      found = told.found;
      told = subst (λ (t : List ℕ).
          AreTold clocks (before.records + 1) told.rows t told.found) (sym whole) told.told;
      differences = told.differences;
    }
run-rows ((byte ∷ bytes) ∷ lines) before text next clocks same
    (first, rest, middle, (row, known, plain, carried), later, joined) =
    let (now, is, still) = carried.told clocks same in
    let more = run-rows lines middle rest next now still later in
    let parsed : rows_of (before.records + 1 + 1) (records_in lines) ≡ Ok more.rows =
    subst (λ n. rows_of (n + 1) (records_in lines) ≡ Ok more.rows) carried.records more.parsed in
    let told : AreTold now (before.records + 1 + 1) more.rows rest more.found =
    subst (λ n. AreTold now (n + 1) more.rows rest more.found) carried.records more.told in
    let differs = differs_text (before.records + 1) carried.value in record {
      rows = row ∷ more.rows;
      parsed = rows-more (before.records + 1) (cut_at_commas (byte ∷ bytes)) (records_in lines)
          row more.rows known parsed;
      found = difference carried.value + more.found;
      told = (
        carried.line,
        carried.value,
        rest,
        more.found,
        now,
        is,
        told,
        joined ∙ ap (λ (t : List ℕ). t ++ rest) carried.lines
            ∙ append_assoc carried.line differs rest,
        refl,
      );
      differences = omega (arith, more.differences, carried.differences);
    }

-- the lines of clocks that no discipline steers
record ArePlain (journal : Journal) (row : ℕ) (rows : List Row) (text : List ℕ) (found : ℕ) :
    Type 0 where
  lines : IsLines first_refusal row journal rows text
  count : found ≡ differences first_refusal journal rows

plain-lines : (rows : List Row) (journal : Journal) (row : ℕ) (text : List ℕ) (found : ℕ) →
    AreTold (Alone journal) row rows text found → ArePlain journal row rows text found
plain-lines [] journal row text found (none, zero) = record { lines = none; count = zero }
plain-lines (first ∷ rows) journal row text found
    (line, value, rest, more, Alone next, (is, missing, same), told, joined, sum) =
    let later = plain-lines rows next (row + 1) rest more told in
    let value_is : text ≡ line ++ (differs_text row (missed journal first) ++ rest) =
    joined ∙ ap (λ (v : Option ℕ). line ++ (differs_text row v ++ rest)) missing in record {
      lines = (
        line,
        rest,
        is,
        subst (λ (j : Journal). IsLines first_refusal (row + 1) j rows rest) same later.lines,
        value_is,
      );
      count = omega (
        arith,
        sum,
        later.count,
        ap difference missing,
        ap (λ (j : Journal). differences first_refusal j rows) same,
      );
    }
plain-lines (first ∷ rows) journal row text found
    (line, value, rest, more, Led next, is, told, joined, sum) = absurd is

-- the lines of clocks that a discipline steers
steered-lines : (rows : List Row) (kept : SteeredKeeper) (row : ℕ) (text : List ℕ) (found : ℕ) →
    AreTold (Led kept) row rows text found → IsSteeredLines row kept rows text found
steered-lines [] kept row text found told = told
steered-lines (first ∷ rows) kept row text found
    (line, value, rest, more, Led next, (is, missing), told, joined, sum) = (
      line,
      rest,
      more,
      next,
      is,
      steered-lines rows next (row + 1) rest more told,
      joined ∙ ap (λ (v : Option ℕ). line ++ (differs_text row v ++ rest)) missing,
      omega (arith, sum, ap difference missing),
    )
steered-lines (first ∷ rows) kept row text found
    (line, value, rest, more, Alone next, is, told, joined, sum) = absurd is

-- the report of an opening and of rows
report-from : (start : Start) (rows : List Row) (text lines : List ℕ) (found : ℕ) →
    text ≡ open_line (journal_at start).opening.counter → AreTold (begun start) 2 rows lines found →
    IsReportFrom start first_refusal (record { start = start; rows = rows }) (text ++ lines) found
report-from (Opened opening) rows text lines found opened told =
    let plain = plain-lines rows (journal_at (Opened opening)) 2 lines found told in
    ((lines, plain.lines, ap (λ (t : List ℕ). t ++ lines) opened), plain.count)
report-from (Running clock front) rows text lines found opened told =
    let plain = plain-lines rows (journal_at (Running clock front)) 2 lines found told in
    ((lines, plain.lines, ap (λ (t : List ℕ). t ++ lines) opened), plain.count)
report-from (Steered opening hz) rows text lines found opened told = (
  lines,
  steered-lines rows (steered_from opening hz) 2 lines found told,
  ap (λ (t : List ℕ). t ++ lines) opened,
)
report-from (Continued clock front) rows text lines found opened told = (
  lines,
  steered-lines rows (continued_from clock front) 2 lines found told,
  ap (λ (t : List ℕ). t ++ lines) opened,
)

parsed-with : (fields : List (List ℕ)) (later : List (List (List ℕ))) (start : Start)
    (rows : List Row) → start_of fields ≡ Ok start → rows_of 2 later ≡ Ok rows →
    parse_records (fields ∷ later) ≡ Ok (record { start = start; rows = rows })
unfolding parse_records
parsed-with fields later start rows e f = rw (e, f) refl

-- the lines of a session that was opened by a line and took further ones are the report of the
-- script with these records, and its count is the report's number of differences
pub reported : (line text : List ℕ) (opened : Session) (lines : List (List ℕ)) (rest : List ℕ)
    (next : Session) → IsOpenedBy line text opened → IsRun opened lines rest next →
    (parse : Parse)
    × (parse_records (cut_at_commas line ∷ records_in lines) ≡ Ok parse)
    × IsReportOf first_refusal parse (text ++ rest) next.differences
reported line text opened lines rest next begins run =
    let told = run-rows lines opened rest next (begun begins.start) begins.clocks run in
    let parsed : rows_of 2 (records_in lines) ≡ Ok told.rows =
    subst (λ n. rows_of (n + 1) (records_in lines) ≡ Ok told.rows) begins.records told.parsed in
    let are : AreTold (begun begins.start) 2 told.rows rest told.found =
    subst (λ n. AreTold (begun begins.start) (n + 1) told.rows rest told.found) begins.records
    told.told in
    let count : told.found ≡ next.differences =
    omega (arith, told.differences, begins.differences) in (
      record { start = begins.start; rows = told.rows },
      parsed-with (cut_at_commas line) (records_in lines) begins.start told.rows begins.opening
          parsed,
      subst (λ n. IsReportFrom begins.start first_refusal
          (record { start = begins.start; rows = told.rows }) (text ++ rest) n) count
          (report-from begins.start told.rows text rest told.found begins.opens are),
    )
