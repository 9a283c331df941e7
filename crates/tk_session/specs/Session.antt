-- A session: its clocks, its counts, and what a record does to it, by the definitions of a report.
use Rattle.std.specs.Prelude.{◌≡◌, ◌≤◌, ℕ, ◌+◌, List, [], ◌∷◌, ◌++◌, Bool, true, false, Option, None, Ok, Err, not, ◌&&◌, nat_eq, get_or}
use Rattle.tk_clock.specs.Journal.{Journal}
use Rattle.tk_clock.specs.Refusal.{first_refusal}
use Rattle.tk_ntp.specs.Course.{Course}
use Rattle.tk_report.specs.CountedClocks.{Counted, IsKept}
use Rattle.tk_report.specs.Report.{IsLine, after, difference, differs_text, missed}
use Rattle.tk_report.specs.SteeredReport.{IsSteeredLine, continued_from, journal_in, missed_after, steered_from}
use Rattle.tk_script.specs.Lines.{open_line}
use Rattle.tk_script.specs.Opening.{start_of}
use Rattle.tk_script.specs.Plain.{cut_at_commas, is_plain_line}
use Rattle.tk_script.specs.Rows.{row_of}
use Rattle.tk_script.specs.Start.{journal_at}
use Rattle.tk_script.specs.declared.opening.Start.{Start}
use Rattle.tk_script.specs.declared.opening.Start.TheVariants.{Opened, Steered, Running, Continued}
use Rattle.tk_script.specs.declared.row.Row.{Row}
use Rattle.tk_session.specs.declared.fault.Fault.{Fault}
use Rattle.tk_session.specs.declared.fault.Fault.TheVariants.{NotPlain, TooMany, Script}
use Rattle.tk_session.specs.Told.{IsKeptOf}
use Rattle.tk_steered.specs.Kept.{SteeredKeeper}

-- the clocks and the course of their discipline, whether it steers them, the number of records so far,
-- and the number of those that did not give an expected value
pub record Session : Type 0 where
  pub clocks : Counted
  pub course : Course
  pub is_steered : Bool
  pub records : ℕ
  pub differences : ℕ

-- the clocks of a report: a journal, or a journal with the course of the discipline that steers them
pub data Clocks : Type 0 where
  Alone : Journal → Clocks
  Led : SteeredKeeper → Clocks

-- the clocks with which a script begins
abbrev pub begun : Start → Clocks
begun (Opened opening) = Alone (journal_at (Opened opening))
begun (Running clock front) = Alone (journal_at (Running clock front))
begun (Steered opening hz) = Led (steered_from opening hz)
begun (Continued clock front) = Led (continued_from clock front)

-- a session's clocks are these
abbrev pub IsSessionOf : Session → Clocks → Type 0
IsSessionOf session (Alone journal) =
    (session.is_steered ≡ false) × IsKept None session.clocks journal
IsSessionOf session (Led kept) =
    (session.is_steered ≡ true) × IsKeptOf session.clocks session.course kept

-- the line of a row, the expected value that it does not give, and the clocks after it, by the
-- definitions of a report
abbrev pub IsTold : Clocks → Row → List ℕ → Option ℕ → Clocks → Type 0
IsTold (Alone journal) row line value (Alone next) =
    IsLine first_refusal journal row line × (value ≡ missed journal row)
    × (next ≡ after first_refusal journal row)
IsTold (Led before) row line value (Led next) =
    IsSteeredLine before row line next × (value ≡ missed_after (journal_in next) row)
IsTold (Alone journal) row line value (Led next) = ⊥
IsTold (Led before) row line value (Alone next) = ⊥

-- a session carried out a row: the lines of its record, and the session after it
pub record IsCarriedOut (before : Session) (row : Row) (text : List ℕ) (next : Session) :
    Type 0 where
  pub line : List ℕ
  pub value : Option ℕ
  pub lines : text ≡ line ++ differs_text (before.records + 1) value
  pub told : (clocks : Clocks) → IsSessionOf before clocks →
      (later : Clocks) × IsTold clocks row line value later × IsSessionOf next later
  pub records : next.records ≡ before.records + 1
  pub differences : next.differences ≡ before.differences + difference value

-- a session took a line as its next record, and these are the record's lines; an empty line is no
-- record
abbrev pub Takes : Session → List ℕ → List ℕ → Session → Type 0
Takes before [] text next = (text ≡ []) × (next ≡ before)
Takes before (byte ∷ bytes) text next =
    (row : Row) × (row_of (before.records + 1) (cut_at_commas (byte ∷ bytes)) ≡ Ok row)
    × (is_plain_line (byte ∷ bytes) ≡ true) × IsCarriedOut before row text next

-- the most records that a session counts
abbrev pub most_records : ℕ
most_records = 18446744073709551615

-- why a line isn't taken as the record with this number, by the first test that it fails; an empty
-- line is always taken
abbrev pub IsRefused : ℕ → List ℕ → Fault → Type 0
IsRefused number [] fault = ⊥
IsRefused number (byte ∷ bytes) NotPlain = is_plain_line (byte ∷ bytes) ≡ false
IsRefused number (byte ∷ bytes) TooMany =
    (is_plain_line (byte ∷ bytes) ≡ true) × (number ≡ most_records + 1)
IsRefused number (byte ∷ bytes) (Script error) =
    (is_plain_line (byte ∷ bytes) ≡ true) × (number ≤ most_records)
    × (row_of number (cut_at_commas (byte ∷ bytes)) ≡ Err error)

-- whether a line can be the first record: it is plain, and no byte order mark can begin it
abbrev pub is_plain_first : List ℕ → Bool
is_plain_first line = is_plain_line line && not (nat_eq (get_or line 0 0) 239)

-- why a line isn't taken as the first record
abbrev pub IsNoOpening : List ℕ → Fault → Type 0
IsNoOpening line NotPlain = is_plain_first line ≡ false
IsNoOpening line TooMany = ⊥
IsNoOpening line (Script error) =
    (is_plain_first line ≡ true) × (start_of (cut_at_commas line) ≡ Err error)

-- a session took a line as the first record of a script, and this is its line
pub record IsOpenedBy (line text : List ℕ) (session : Session) : Type 0 where
  pub start : Start
  pub plain : is_plain_first line ≡ true
  pub opening : start_of (cut_at_commas line) ≡ Ok start
  pub clocks : IsSessionOf session (begun start)
  pub opens : text ≡ open_line (journal_at start).opening.counter
  pub records : session.records ≡ 1
  pub differences : session.differences ≡ 0
