-- A record of a report whose clocks a discipline steers.
use Rattle.std.specs.Prelude.{ℕ, ◌+◌, List}
use Rattle.tk_report.specs.declared.steered_reporting.SteeredReport.{SteeredReport}
use Rattle.tk_report.specs.Counts.{lines-left}
use Rattle.tk_report.specs.Lines.{HasRoom, IsNoted}
use Rattle.tk_report.specs.SteeredReport.{IsSteeredLine, journal_in, missed_after}
use Rattle.tk_script.specs.declared.row.Row.{Row}

-- the report and its clocks after one more record
abbrev pub IsSteeredStep : {A : Type 0} → SteeredReport A → Row → SteeredReport A → Type 0
IsSteeredStep before row next =
    (line : List ℕ) × IsSteeredLine before.clocks row line next.clocks
    × IsNoted before.lines line (missed_after (journal_in next.clocks) row) next.lines

-- this many more records can be counted
abbrev pub HasRoomFor : {A : Type 0} → ℕ → SteeredReport A → Type 0
HasRoomFor more report = HasRoom more report.lines

-- a record takes the room of one
pub leaves_room : {A : Type 0} (later : ℕ) (before next : SteeredReport A) (row : Row) →
    IsSteeredStep before row next → HasRoomFor (later + 1) before → HasRoomFor later next
leaves_room later before next row (line, isLine, noted) room =
    lines-left later before.lines next.lines line (missed_after (journal_in next.clocks) row) noted
    room
