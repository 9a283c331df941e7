-- The journal after all rows of a script.
use Rattle.std.specs.Prelude.{◌≡◌, List, [], ◌∷◌, Result, Ok, Err}
use Rattle.tk_clock.specs.Journal.{Journal}
use Rattle.tk_clock.specs.Refusal.{first_refusal}
use Rattle.tk_script.specs.declared.opening.Start.{Start}
use Rattle.tk_script.specs.declared.opening.Start.TheVariants.{Opened, Steered, Running, Continued}
use Rattle.tk_script.specs.declared.row.Row.{Row}
use Rattle.tk_script.specs.declared.script_error.ScriptError.{ScriptError}
use Rattle.tk_script.specs.Grammar.{Parse}
use Rattle.tk_script.specs.Start.{journal_at}
use Rattle.tk_report.specs.Report.{after}
use Rattle.tk_report.specs.SteeredReport.{IsSteeredJournal, continued_from, steered_from}

-- the journal after all rows, each one applied to the journal after the rows before it
abbrev pub after_all : Journal → List Row → Journal
after_all journal [] = journal
after_all journal (row ∷ rows) = after_all (after first_refusal journal row) rows

-- the journal after the rows of a reading, or the fault of that reading
abbrev pub journal_after : Journal → Result (List Row) ScriptError → Result Journal ScriptError
journal_after journal (Ok rows) = Ok (after_all journal rows)
journal_after journal (Err error) = Err error

-- the journal after a script that begins in this way: every accepted command becomes an entry, a
-- full journal refuses every command except a change of counter, and after a change the journal
-- lists only the commands over the new counter; the journal of steered clocks lists the commands of
-- their discipline too
abbrev pub IsJournalFrom : Start → List Row → Journal → Type 0
IsJournalFrom (Opened opening) rows journal =
    journal ≡ after_all (journal_at (Opened opening)) rows
IsJournalFrom (Running clock front) rows journal =
    journal ≡ after_all (journal_at (Running clock front)) rows
IsJournalFrom (Steered opening hz) rows journal =
    IsSteeredJournal (steered_from opening hz) rows journal
IsJournalFrom (Continued clock front) rows journal =
    IsSteeredJournal (continued_from clock front) rows journal

-- the journal after a script without a fault
abbrev pub IsJournalOf : Result Parse ScriptError → Journal → Type 0
IsJournalOf (Ok parse) journal = IsJournalFrom parse.start parse.rows journal
IsJournalOf (Err error) journal = ⊥
