-- Runs of a journal: entries whose clocks can be computed without the entries in between.
use Rattle.std.specs.Prelude.{◌≡◌, ℕ, ◌-◌, ◌<◌, ◌≤◌, IsTrue, Some, None, slice_get}
use Rattle.tk_clock.specs.declared.command.Entry.{Entry}
use Rattle.tk_clock.specs.Journal.{Journal, prefix}
use Rattle.tk_clock.specs.Refusal.{state_refusal}
use Rattle.tk_clock.specs.State.{State, state_of, effect}
use Rattle.tk_keeper.specs.declared.timekeeper.Kept.{Kept}

-- an entry is accepted in a state, and leaves another
abbrev pub Leads : State → Entry → State → Type 0
Leads before entry after =
    (state_refusal before entry.reading entry.cmd ≡ None)
    × (effect before entry.reading entry.cmd ≡ after)

-- the last entry before a place leads there from an earlier place, without the entries in between
abbrev pub IsRun : Journal → ℕ → ℕ → Type 0
IsRun journal from place = (entry : Entry) → slice_get journal.entries (place - 1) ≡ Some entry →
    Leads (state_of (prefix from journal)) entry (state_of (prefix place journal))

-- the same is true of all places from there up to `end`
abbrev pub AreRuns : Journal → ℕ → ℕ → Type 0
AreRuns journal from end = (place : ℕ) → from < place → place ≤ end → IsRun journal from place

-- kept clocks are the clocks of their place; if they are marked, the 255 entries before the last
-- one are a run
pub record IsKeptAt (journal : Journal) (place : ℕ) (kept : Kept) : Type 0 where
  pub clock : kept.clock ≡ state_of (prefix place journal)
  pub run : 256 ≤ place → IsTrue kept.after_run → AreRuns journal (place - 256) (place - 1)
