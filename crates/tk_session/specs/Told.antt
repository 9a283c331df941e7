-- The result of a record of a session, by the definitions of a report: its line, the expected value
-- that the line does not show, and the clocks after it.
use Rattle.std.specs.Prelude.{◌≡◌, ℕ, List, Option, None}
use Rattle.tk_clock.specs.declared.clock_id.ClockId.{ClockId}
use Rattle.tk_clock.specs.Journal.{Journal}
use Rattle.tk_clock.specs.Refusal.{first_refusal}
use Rattle.tk_keeper.specs.Read.{read_fault}
use Rattle.tk_ntp.specs.Course.{Course}
use Rattle.tk_report.specs.CountedClocks.{Counted, IsKept}
use Rattle.tk_report.specs.Report.{IsLine, IsLookLine, after, missed, missed_at}
use Rattle.tk_report.specs.SteeredReport.{IsSteeredLine, journal_in, missed_after}
use Rattle.tk_script.specs.declared.row.Row.{Row}
use Rattle.tk_steered.specs.Kept.{SteeredKeeper}

-- a fact about every journal whose clocks these are, if a full journal refuses every command
abbrev pub ForKept : Counted → (Journal → Type 0) → Type 0
ForKept clocks Holds = (journal : Journal) → IsKept None clocks journal → Holds journal

-- the line of a read of a journal's clock, and the expected value that the read does not give
abbrev pub IsLooked : Journal → ClockId → ℕ → Option ℕ → List ℕ → Option ℕ → Type 0
IsLooked journal clock reading expected line value =
    IsLookLine journal clock reading (read_fault journal clock reading) line
    × (value ≡ missed_at journal clock reading expected)

-- the result of a record if no discipline steers the clocks
abbrev pub IsToldPlain : Counted → Row → List ℕ → Option ℕ → Counted → Type 0
IsToldPlain before row line value next = ForKept before (λ journal.
    IsLine first_refusal journal row line × (value ≡ missed journal row)
    × IsKept None next (after first_refusal journal row))

-- clocks and the course of their discipline are those of a journal of steered clocks
pub record IsKeptOf (clocks : Counted) (course : Course) (kept : SteeredKeeper) : Type 0 where
  pub counts : IsKept None clocks kept.keeper.journal
  pub leads : course ≡ kept.course

-- the result of a record if a discipline steers the clocks
abbrev pub IsToldSteered :
    Counted → Course → Row → List ℕ → Option ℕ → Counted → Course → Type 0
IsToldSteered clocks course row line value clocks' course' =
    (before : SteeredKeeper) → IsKeptOf clocks course before →
    (next : SteeredKeeper) × IsSteeredLine before row line next
    × (value ≡ missed_after (journal_in next) row)
    × IsKeptOf clocks' course' next
