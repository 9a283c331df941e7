-- The report of a script whose clocks a discipline steers: a line for its opening and one for each
-- record after it. The seconds of REALTIME up to a record's reading begin first, and the journal
-- lists the commands that they give.
use Rattle.std.specs.Prelude.{◌≡◌, ◌≢◌, ℕ, ◌+◌, ⊤, false, List, [], ◌∷◌, ◌++◌, Option, Some, None, Result, Ok, Err}
use Rattle.tk_clock.specs.declared.clock_id.ClockId.TheVariants.{Monotonic}
use Rattle.tk_clock.specs.declared.command.Command.{Command}
use Rattle.tk_clock.specs.declared.refusal.Refusal.{Refusal}
use Rattle.tk_clock.specs.declared.refusal.Refusal.TheVariants.{Invalid, Memory}
use Rattle.tk_clock.specs.declared.refusal.ReadError.{ReadError}
use Rattle.tk_clock.specs.declared.timespec.Timespec.{Timespec}
use Rattle.tk_clock.specs.Journal.{Journal, accepted_count}
use Rattle.tk_clock.specs.Refusal.{refusal_of}
use Rattle.tk_keeper.specs.Read.{read_fault}
use Rattle.tk_ntp.specs.declared.reply.Reply.{Reply}
use Rattle.tk_ntp.specs.declared.timex.Timex.{Timex}
use Rattle.tk_ntp.specs.SteeredClock.{SteeredClock}
use Rattle.tk_script.specs.declared.opening.Opening.{Opening}
use Rattle.tk_script.specs.declared.row.Row.{Row}
use Rattle.tk_script.specs.declared.row.Row.TheVariants.{Act, Look, Change, Ask}
use Rattle.tk_script.specs.declared.script_error.ScriptError.{ScriptError}
use Rattle.tk_script.specs.AdjLine.{adj_line}
use Rattle.tk_script.specs.Lines.{open_line, ok_line, no_line}
use Rattle.tk_steered.specs.Kept.{SteeredKeeper, IsAdvancedTo, IsAnsweredBy, IsAppliedBy, kept_from, kept_opened}
use Rattle.tk_report.specs.Report.{IsLookLine, IsTimeAt, difference, differs_text, missed_at}

-- the journal of the commands that the clocks were given
abbrev pub journal_in : SteeredKeeper → Journal
journal_in kept = kept.keeper.journal

-- the line of an accepted command: the number of the commands accepted so far, and MONOTONIC at the
-- command's reading
abbrev pub IsAcceptedLine : Journal → ℕ → ℕ → Option ReadError → List ℕ → Type 0
IsAcceptedLine journal reading number None line =
    (time : Timespec) × IsTimeAt journal Monotonic reading time × (line ≡ ok_line number time)
IsAcceptedLine journal reading number (Some error) line = line ≡ no_line (refusal_of error)

-- the line of the result of a command
abbrev pub IsResultLine : Journal → ℕ → Result ℕ Refusal → List ℕ → Type 0
IsResultLine journal reading (Ok number) line =
    IsAcceptedLine journal reading number (read_fault journal Monotonic reading) line
IsResultLine journal reading (Err refusal) line = line ≡ no_line refusal

-- the line of a command, and the clocks after it; no line says that memory ran out
abbrev pub IsReplyLine : SteeredKeeper → ℕ → Command → List ℕ → SteeredKeeper → Type 0
IsReplyLine before reading cmd line after =
    (result : Result ℕ Refusal) × (result ≢ Err Memory)
    × IsAppliedBy 0 reading cmd before result after
    × IsResultLine (journal_in after) reading result line

-- the line of the result of a request
abbrev pub result_line : ℕ → Result Reply Refusal → List ℕ
result_line number (Ok reply) = adj_line reply number
result_line number (Err refusal) = no_line refusal

-- the line of a request, and the clocks after it; no line says that memory ran out
abbrev pub IsAnswerLine : SteeredKeeper → ℕ → Timex → List ℕ → SteeredKeeper → Type 0
IsAnswerLine before reading request line after =
    (result : Result Reply Refusal) × (result ≢ Err Memory)
    × IsAnsweredBy 0 reading request before result after
    × (line ≡ result_line (accepted_count (journal_in after)) result)

-- the clocks before a read: the seconds up to its reading have begun, unless the reading is refused
-- or the journal is full; memory did not run out
abbrev pub IsLookAt : SteeredKeeper → ℕ → SteeredKeeper → Type 0
IsLookAt before reading after =
    (result : Result ⊤ Refusal) × (result ≢ Err Memory)
    × IsAdvancedTo false 0 reading before result after

-- the line of a record, and the clocks after it
abbrev pub IsSteeredLine : SteeredKeeper → Row → List ℕ → SteeredKeeper → Type 0
IsSteeredLine before (Act reading cmd) line after = IsReplyLine before reading cmd line after
IsSteeredLine before (Ask reading request) line after =
    IsAnswerLine before reading request line after
IsSteeredLine before (Look reading clock expected) line after =
    IsLookAt before reading after
    × IsLookLine (journal_in after) clock reading (read_fault (journal_in after) clock reading) line
IsSteeredLine before (Change reading counter first) line after =
    (line ≡ no_line Invalid) × (after ≡ before)

-- the expected value that a record does not give, if there is one, by the clocks after it
abbrev pub missed_after : Journal → Row → Option ℕ
missed_after journal (Act reading cmd) = None
missed_after journal (Ask reading request) = None
missed_after journal (Look reading clock expected) = missed_at journal clock reading expected
missed_after journal (Change reading counter first) = None

-- the lines of records, of which the first is the record `row`, and the number of those that do not
-- give an expected value
abbrev pub IsSteeredLines : ℕ → SteeredKeeper → List Row → List ℕ → ℕ → Type 0
IsSteeredLines row before [] text differences = (text ≡ []) × (differences ≡ 0)
IsSteeredLines row before (first ∷ rows) text differences =
    (line : List ℕ) × (rest : List ℕ) × (more : ℕ) × (after : SteeredKeeper)
    × IsSteeredLine before first line after
    × IsSteeredLines (row + 1) after rows rest more
    × (text ≡ line ++ (differs_text row (missed_after (journal_in after) first) ++ rest))
    × (differences ≡ difference (missed_after (journal_in after) first) + more)

-- the clocks after a record, when no line is made; memory did not run out
abbrev pub IsSteeredAfter : SteeredKeeper → Row → SteeredKeeper → Type 0
IsSteeredAfter before (Act reading cmd) after =
    (result : Result ℕ Refusal) × (result ≢ Err Memory)
    × IsAppliedBy 0 reading cmd before result after
IsSteeredAfter before (Ask reading request) after =
    (result : Result Reply Refusal) × (result ≢ Err Memory)
    × IsAnsweredBy 0 reading request before result after
IsSteeredAfter before (Look reading clock expected) after = IsLookAt before reading after
IsSteeredAfter before (Change reading counter first) after = after ≡ before

-- the clocks after all records
abbrev pub IsSteeredAfterAll : SteeredKeeper → List Row → SteeredKeeper → Type 0
IsSteeredAfterAll before [] after = after ≡ before
IsSteeredAfterAll before (row ∷ rows) after =
    (middle : SteeredKeeper) × IsSteeredAfter before row middle
    × IsSteeredAfterAll middle rows after

-- the clocks with which such a script begins: newly opened ones
abbrev pub steered_from : Opening → ℕ → SteeredKeeper
steered_from opening hz = kept_opened opening.desc opening.reading opening.real hz

-- or running ones, with their discipline, which have accepted this many commands
abbrev pub continued_from : SteeredClock → ℕ → SteeredKeeper
continued_from clock front = kept_from front clock

-- the report of rows, if a script begins with these steered clocks, and the number of its
-- differences: the opening is the record 1
abbrev pub IsSteeredReport : SteeredKeeper → List Row → List ℕ → ℕ → Type 0
IsSteeredReport first rows text found =
    (lines : List ℕ) × IsSteeredLines 2 first rows lines found
    × (text ≡ open_line (journal_in first).opening.counter ++ lines)

-- the same for the rows of a reading without a fault
abbrev pub IsSteeredReportOfRows :
    SteeredKeeper → Result (List Row) ScriptError → List ℕ → ℕ → Type 0
IsSteeredReportOfRows first read text found =
    (rows : List Row) × (read ≡ Ok rows) × IsSteeredReport first rows text found

-- the journal of steered clocks after all records
abbrev pub IsSteeredJournal : SteeredKeeper → List Row → Journal → Type 0
IsSteeredJournal first rows journal =
    (after : SteeredKeeper) × IsSteeredAfterAll first rows after × (journal ≡ journal_in after)

-- the same after the rows of a reading without a fault
abbrev pub IsSteeredJournalOfRows :
    SteeredKeeper → Result (List Row) ScriptError → Journal → Type 0
IsSteeredJournalOfRows first read journal =
    (rows : List Row) × (read ≡ Ok rows) × IsSteeredJournal first rows journal
