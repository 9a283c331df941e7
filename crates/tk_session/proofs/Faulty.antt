-- The fault of a record that a session refuses is the fault of the script.
use Rattle.std.proofs.Common.{◌≡◌, ◌∙◌, refl, ap, subst, ℕ, ◌+◌, List, [], ◌∷◌, ◌++◌}
use Rattle.std.specs.Prelude.{Ok, Err}
use Rattle.tk_script.specs.Grammar.{parse_records}
use Rattle.tk_script.specs.Opening.{start_of}
use Rattle.tk_script.specs.Plain.{cut_at_commas}
use Rattle.tk_script.specs.Records.{each}
use Rattle.tk_script.specs.Rows.{row_of, rows_of}
use Rattle.tk_script.specs.declared.opening.Start.{Start}
use Rattle.tk_script.specs.declared.row.Row.{Row}
use Rattle.tk_script.specs.declared.script_error.ScriptError.{ScriptError}
use Rattle.tk_session.specs.Run.{IsRun, records_in}
use Rattle.tk_session.specs.Session.{IsOpenedBy, IsRefused, Session}
use Rattle.tk_session.specs.declared.fault.Fault.TheVariants.{Script}

-- a fault of the first record is the fault of the rows
rows-fault : (row : ℕ) (fields : List (List ℕ)) (later : List (List (List ℕ)))
    (error : ScriptError) → row_of row fields ≡ Err error →
    rows_of row (fields ∷ later) ≡ Err error
unfolding each
rows-fault row fields later error e = rw e refl

-- and so is a fault of the records after a first record without one
rows-later : (row : ℕ) (fields : List (List ℕ)) (later : List (List (List ℕ))) (first : Row)
    (error : ScriptError) → row_of row fields ≡ Ok first → rows_of (row + 1) later ≡ Err error →
    rows_of row (fields ∷ later) ≡ Err error
unfolding each
rows-later row fields later first error e f = rw (e, f) refl

-- a fault of the records after a session's lines is the fault of all
run-fault : (lines : List (List ℕ)) (later : List (List (List ℕ))) (error : ScriptError)
    (before : Session) (text : List ℕ) (next : Session) → IsRun before lines text next →
    rows_of (next.records + 1) later ≡ Err error →
    rows_of (before.records + 1) (records_in lines ++ later) ≡ Err error
run-fault [] later error before text next (none, stayed) fault =
    subst (λ (s : Session). rows_of (s.records + 1) later ≡ Err error) stayed fault
run-fault ([] ∷ lines) later error before text next (first, rest, middle, taken, more, joined)
    fault =
    run-fault lines later error before rest next
    (subst (λ (s : Session). IsRun s lines rest next) taken.1 more) fault
run-fault ((byte ∷ bytes) ∷ lines) later error before text next
    (first, rest, middle, (row, known, plain, carried), more, joined) fault =
    let records = records_in lines ++ later in
    let shifted : rows_of (before.records + 1 + 1) records ≡ Err error =
    subst (λ n. rows_of (n + 1) records ≡ Err error) carried.records
    (run-fault lines later error middle rest next more fault) in
    rows-later (before.records + 1) (cut_at_commas (byte ∷ bytes)) records row error known shifted

-- the records of lines after others
records-append : (lines later : List (List ℕ)) →
    records_in (lines ++ later) ≡ records_in lines ++ records_in later
records-append [] later = refl
records-append ([] ∷ lines) later = records-append lines later
records-append ((byte ∷ bytes) ∷ lines) later =
    ap (λ (rs : List (List (List ℕ))). cut_at_commas (byte ∷ bytes) ∷ rs)
    (records-append lines later)

-- a refused line is a record with this fault
refused-rows : (number : ℕ) (bad : List ℕ) (error : ScriptError) (later : List (List ℕ)) →
    IsRefused number bad (Script error) → rows_of number (records_in (bad ∷ later)) ≡ Err error
refused-rows number [] error later refused = absurd refused
refused-rows number (byte ∷ bytes) error later (plain, counted, fault) =
    rows-fault number (cut_at_commas (byte ∷ bytes)) (records_in later) error fault

parsed-fault : (fields : List (List ℕ)) (later : List (List (List ℕ))) (start : Start)
    (error : ScriptError) → start_of fields ≡ Ok start → rows_of 2 later ≡ Err error →
    parse_records (fields ∷ later) ≡ Err error
unfolding parse_records
parsed-fault fields later start error e f = rw (e, f) refl

-- the fault of the records, if the first of them opened a session, which took lines and refused one
pub faulty : (line made : List ℕ) (opened : Session) (taken : List (List ℕ)) (text : List ℕ)
    (next : Session) (bad : List ℕ) (error : ScriptError) (later : List (List ℕ)) →
    IsOpenedBy line made opened → IsRun opened taken text next →
    IsRefused (next.records + 1) bad (Script error) →
    parse_records (cut_at_commas line ∷ records_in (taken ++ bad ∷ later)) ≡ Err error
faulty line made opened taken text next bad error later begins run refused =
    let records = records_in taken ++ records_in (bad ∷ later) in
    let rows : rows_of 2 records ≡ Err error =
    subst (λ n. rows_of (n + 1) records ≡ Err error) begins.records
    (run-fault taken (records_in (bad ∷ later)) error opened text next run
    (refused-rows (next.records + 1) bad error later refused)) in
    ap (λ (rs : List (List (List ℕ))). parse_records (cut_at_commas line ∷ rs))
    (records-append taken (bad ∷ later))
    ∙ parsed-fault (cut_at_commas line) records begins.start error begins.opening rows
