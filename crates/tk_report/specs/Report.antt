-- The report of a script: a line for its opening, and one for each record after it, followed by
-- another one if the record is a read that does not give the value that it states. The records are
-- applied in order to a journal, which a change of counter replaces by one over the next counter.
use Rattle.std.specs.Prelude.{◌≡◌, ℕ, ◌+◌, List, [], ◌∷◌, ◌++◌, pos, ℤ, negsuc, Option, Some, None, Result, Ok, Err, Bool, false, ◌==◌, if◌then◌else◌}
use Rattle.tk_counter.specs.Counter.{Counter}
use Rattle.tk_clock.specs.declared.clock_id.ClockId.{ClockId}
use Rattle.tk_clock.specs.declared.command.Command.{Command}
use Rattle.tk_clock.specs.declared.command.Entry.{Entry}
use Rattle.tk_clock.specs.declared.refusal.Refusal.{Refusal}
use Rattle.tk_clock.specs.declared.refusal.Refusal.TheVariants.{Invalid}
use Rattle.tk_clock.specs.declared.refusal.ReadError.{ReadError}
use Rattle.tk_clock.specs.declared.timespec.Timespec.{Timespec}
use Rattle.tk_clock.specs.Clocks.{clock_value}
use Rattle.tk_clock.specs.Journal.{Journal, accepted_count}
use Rattle.tk_clock.specs.Monotonic.{monotonic}
use Rattle.tk_clock.specs.Refusal.{refusal_of}
use Rattle.tk_clock.specs.Run.{Reply, reply_if}
use Rattle.tk_clock.specs.Time.{timespec_of}
use Rattle.tk_keeper.specs.ChangeCounter.{changed_by, counter_refusal}
use Rattle.tk_keeper.specs.Read.{read_fault}
use Rattle.tk_script.specs.declared.opening.Start.{Start}
use Rattle.tk_script.specs.declared.row.Row.{Row}
use Rattle.tk_script.specs.declared.row.Row.TheVariants.{Act, Look, Change, Ask}
use Rattle.tk_script.specs.declared.script_error.ScriptError.{ScriptError}
use Rattle.tk_script.specs.Coming.{opened_with}
use Rattle.tk_script.specs.Grammar.{Parse}
use Rattle.tk_script.specs.Lines.{differs_line, open_line, ok_line, no_line, IsAtLine}
use Rattle.tk_script.specs.Start.{journal_at}

-- a script's command as an event: all of them come from the caller 0
abbrev pub event : ℕ → Command → Entry
event reading cmd = record { who = 0; reading = reading; cmd = cmd }

-- the reason why an event is refused after a journal, or `None` if it is accepted
abbrev pub Rule : Type 0
Rule = Journal → Entry → Option Refusal

-- the reply to an event, by a rule
abbrev pub reply_by : Rule → Journal → Entry → Reply
reply_by rule journal event = reply_if journal event (rule journal event)

-- the reply to a change of counter: a refused one leaves the journal unchanged; an accepted one is
-- the last command before the journal over the next counter
abbrev pub change_if : Journal → ℕ → Counter → ℕ → Option Refusal → Reply
change_if journal reading counter first None = record {
  answer = Ok (accepted_count journal + 1);
  journal = changed_by journal reading counter first;
}
change_if journal reading counter first (Some refusal) =
    record { answer = Err refusal; journal = journal }

-- the reply to a change of counter, by the first test that it fails
abbrev pub change_reply : Journal → ℕ → Counter → ℕ → Reply
change_reply journal reading counter first =
    change_if journal reading counter first (counter_refusal journal reading counter first)

-- the line of an answer: the entry's number with MONOTONIC at its reading, or the refusal
abbrev pub answer_line : Journal → ℕ → Result ℕ Refusal → List ℕ
answer_line journal reading (Ok number) = ok_line number (timespec_of (monotonic journal reading))
answer_line journal reading (Err refusal) = no_line refusal

-- the line of a command's reply, with MONOTONIC at a reading of the journal after it
abbrev pub reply_line : ℕ → Reply → List ℕ
reply_line reading reply = answer_line reply.journal reading reply.answer

-- the time of a clock at a reading: its nanoseconds, split into seconds and nanoseconds
abbrev pub IsTimeAt : Journal → ClockId → ℕ → Timespec → Type 0
IsTimeAt journal clock reading time =
    (nanos : ℕ) × (clock_value journal clock reading ≡ pos nanos) × (time ≡ timespec_of nanos)

-- the line of a read of a clock at a reading: the clock's time, or the reason why the read is
-- refused
abbrev pub IsLookLine : Journal → ClockId → ℕ → Option ReadError → List ℕ → Type 0
IsLookLine journal clock reading None line =
    (time : Timespec) × IsTimeAt journal clock reading time × IsAtLine clock time line
IsLookLine journal clock reading (Some error) line = line ≡ no_line (refusal_of error)

-- whether an integer is this number
abbrev pub is_number : ℤ → ℕ → Bool
is_number (pos n) value = n == value
is_number (negsuc n) value = false

-- the expected value that a read does not give, in ns, if there is one: a refused read gives none
abbrev pub missed_if : Option ReadError → ℤ → Option ℕ → Option ℕ
missed_if fault nanos None = None
missed_if (Some error) nanos (Some value) = Some value
missed_if None nanos (Some value) = if is_number nanos value then None else Some value

-- the same for a read of a clock of a journal at a reading
abbrev pub missed_at : Journal → ClockId → ℕ → Option ℕ → Option ℕ
missed_at journal clock reading expected =
    missed_if (read_fault journal clock reading) (clock_value journal clock reading) expected

-- the expected value that a record after a journal does not give, if there is one
abbrev pub missed : Journal → Row → Option ℕ
missed journal (Act reading cmd) = None
missed journal (Look reading clock expected) = missed_at journal clock reading expected
missed journal (Change reading counter first) = None
missed journal (Ask reading request) = None

-- the line after the line of the record `row`, if it does not give an expected value
abbrev pub differs_text : ℕ → Option ℕ → List ℕ
differs_text row None = []
differs_text row (Some value) = differs_line row value

-- the number of such lines
abbrev pub difference : Option ℕ → ℕ
difference None = 0
difference (Some value) = 1

-- the line of a record after a journal: a request is refused, because nothing steers the clocks
abbrev pub IsLine : Rule → Journal → Row → List ℕ → Type 0
IsLine rule journal (Act reading cmd) line =
    line ≡ reply_line reading (reply_by rule journal (event reading cmd))
IsLine rule journal (Look reading clock expected) line =
    IsLookLine journal clock reading (read_fault journal clock reading) line
IsLine rule journal (Change reading counter first) line =
    line ≡ reply_line first (change_reply journal reading counter first)
IsLine rule journal (Ask reading request) line = line ≡ no_line Invalid

-- the journal after a record: an accepted command becomes its next entry, a read and a request
-- change nothing, and an accepted change of counter begins the journal over the next counter
abbrev pub after : Rule → Journal → Row → Journal
after rule journal (Act reading cmd) = (reply_by rule journal (event reading cmd)).journal
after rule journal (Look reading clock expected) = journal
after rule journal (Change reading counter first) =
    (change_reply journal reading counter first).journal
after rule journal (Ask reading request) = journal

-- the lines of records, of which the first is the record `row`, each one from the journal after the
-- records before it
abbrev pub IsLines : Rule → ℕ → Journal → List Row → List ℕ → Type 0
IsLines rule row journal [] text = text ≡ []
IsLines rule row journal (first ∷ rows) text =
    (line : List ℕ) × (rest : List ℕ) × IsLine rule journal first line
    × IsLines rule (row + 1) (after rule journal first) rows rest
    × (text ≡ line ++ (differs_text row (missed journal first) ++ rest))

-- the number of records that do not give an expected value
abbrev pub differences : Rule → Journal → List Row → ℕ
differences rule journal [] = 0
differences rule journal (first ∷ rows) =
    difference (missed journal first) + differences rule (after rule journal first) rows

-- the number of such records of a script whose clocks nothing steers, and none if the script has a
-- fault
abbrev pub differences_of : Rule → Result Parse ScriptError → ℕ
differences_of rule (Ok parse) =
    differences rule (journal_at parse.start) parse.rows
differences_of rule (Err fault) = 0

-- the report of a parsed script whose clocks nothing steers: the opening is the record 1
abbrev pub IsPlainReport : Rule → Parse → List ℕ → Type 0
IsPlainReport rule parse text =
    let journal = journal_at parse.start in
    (lines : List ℕ) × IsLines rule 2 journal parse.rows lines
    × (text ≡ open_line journal.opening.counter ++ lines)

-- the report of an opening and of rows that were parsed without a fault
abbrev pub IsPlainReportOfRows : Rule → Start → Result (List Row) ScriptError → List ℕ → Type 0
IsPlainReportOfRows rule start read text =
    (parse : Parse) × (opened_with start read ≡ Ok parse) × IsPlainReport rule parse text
