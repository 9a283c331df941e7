-- The journal with which a script without a discipline begins has no entries.
use Rattle.std.proofs.Common.{◌≡◌, ◌≤◌, arith}
use Rattle.tk_clock.specs.Journal.{accepted_count}
use Rattle.tk_report.specs.declared.plain_start.PlainStart.{PlainStart}
use Rattle.tk_report.specs.declared.plain_start.PlainStart.TheVariants.{Opened, Running}
use Rattle.tk_report.specs.Beginnings.{start_of}
use Rattle.tk_script.specs.Start.{IsOpenable, journal_at, most_front}

-- it counts the commands before the script
pub count-at : (plain : PlainStart) →
    accepted_count (journal_at (start_of plain)) ≡ (journal_at (start_of plain)).opening.count
count-at (Opened opening) = omega arith
count-at (Running clock front) = omega arith

-- these are at most 2^62
pub few-at : (plain : PlainStart) → IsOpenable (start_of plain) →
    accepted_count (journal_at (start_of plain)) ≤ most_front
few-at (Opened opening) opens = omega arith
few-at (Running clock front) opens = omega (arith, opens)
