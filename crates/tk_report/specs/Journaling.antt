-- A record of clocks that no discipline steers, when no line is made.
use Rattle.std.specs.Prelude.{◌≡◌, ℕ, ◌+◌, ◌≤◌, ◌^◌}
use Rattle.std.proofs.Common.{ap, arith}
use Rattle.tk_clock.specs.Journal.{accepted_count}
use Rattle.tk_clock.specs.Refusal.{first_refusal}
use Rattle.tk_keeper.specs.Keeper.{Keeper}
use Rattle.tk_report.specs.Counts.{counted_after}
use Rattle.tk_report.specs.Report.{after}
use Rattle.tk_script.specs.declared.row.Row.{Row}
use Rattle.tk_script.specs.Start.{most_front}

-- the clocks after one more record: the start of their past stays
abbrev pub IsJournaled : Keeper → Row → Keeper → Type 0
IsJournaled before row next =
    (next.journal ≡ after first_refusal before.journal row) × (next.began ≡ before.began)

-- this many more commands can be counted
abbrev pub HasRoom : ℕ → Keeper → Type 0
HasRoom more keeper = accepted_count keeper.journal + more ≤ most_front + 2 ^ 32

-- a record takes the room of one
pub leaves_room : (later : ℕ) (before next : Keeper) (row : Row) →
    IsJournaled before row next → HasRoom (later + 1) before → HasRoom later next
leaves_room later before next row same room =
    omega (arith, ap accepted_count same.0, counted_after first_refusal before.journal row, room)
