-- The journal after rows.
use Rattle.std.proofs.Common.{◌≡◌, ◌∙◌, List, [], ◌∷◌, sym, ap}
use Rattle.std.specs.Prelude.{Result, Ok}
use Rattle.tk_clock.specs.Journal.{Journal}
use Rattle.tk_clock.specs.Legal.{Beginning}
use Rattle.tk_keeper.specs.Keeper.{Keeper}
use Rattle.tk_script.specs.declared.row.Row.{Row}
use Rattle.tk_script.specs.declared.script_error.ScriptError.{ScriptError}
use Rattle.tk_script.specs.declared.script_error.ScriptError.TheVariants as errors
use Rattle.tk_script.specs.Grammar.{Fails}
use Rattle.tk_report.specs.Journaling.{IsJournaled}
use Rattle.tk_report.specs.Rows.{HasDone, IsAfterRows}
use Rattle.tk_report.specs.AllRows.{after_all, journal_after}
use Rattle.tk_report.proofs.Rows.{Rows, stays-done}

after-all : (rows : List Row) (before next : Keeper) → IsAfterRows IsJournaled before rows next →
    next.journal ≡ after_all before.journal rows
after-all [] before next same = ap (λ (k : Keeper). k.journal) same
after-all (row ∷ rows) before next (middle, step, rest) =
    after-all rows middle next rest ∙ ap (λ (j : Journal). after_all j rows) step.0

-- the journal after all rows
pub journal-of : (all : Rows) (before next : Keeper) → HasDone IsJournaled before all next →
    journal_after before.journal all ≡ Ok next.journal
journal-of all before next (rows, known, run) =
    ap (journal_after before.journal) known
    ∙ ap (λ (j : Journal). let told : Result Journal ScriptError = Ok j in told)
    (sym (after-all rows before next run))

-- the start of their past stays
pub began-of : (all : Rows) (before next : Keeper) → HasDone IsJournaled before all next →
    next.began ≡ before.began
began-of all before next =
    stays-done {T = Beginning} (λ (k : Keeper). k.began) IsJournaled (λ a row b step. step.1) all
    before next

-- a fault of the rows is the fault of the journal
pub Fails-journal_after : (journal : Journal) (rows : Result (List Row) ScriptError)
    (fault : ScriptError) → Fails fault rows → Fails fault (journal_after journal rows)
Fails-journal_after journal rows errors.Memory fails = tt
Fails-journal_after journal rows errors.TooLarge fails = ap (journal_after journal) fails
Fails-journal_after journal rows errors.Empty fails = ap (journal_after journal) fails
Fails-journal_after journal rows (errors.Opening row) fails = ap (journal_after journal) fails
Fails-journal_after journal rows (errors.Word row) fails = ap (journal_after journal) fails
Fails-journal_after journal rows (errors.Fields row) fails = ap (journal_after journal) fails
Fails-journal_after journal rows (errors.Number row) fails = ap (journal_after journal) fails
Fails-journal_after journal rows (errors.Counter row fault) fails = ap (journal_after journal) fails
