-- The history of a shared keeper: every command that was accepted since the clocks were opened.
use Rattle.std.specs.Prelude.{◌≡◌, ℕ, ◌+◌, ◌<◌, ◌≤◌, List, length, slice_get, Some}
use Rattle.tk_clock.specs.Folding.{folded_by}
use Rattle.tk_clock.specs.Journal.{Journal, prefix}
use Rattle.tk_clock.specs.Snapshot.{Snapshot, snapshot_of}

-- the journal that a timekeeper keeps of a history: the first entries are folded into its opening,
-- and it lists the others
pub record IsKeptOf (history kept : Journal) : Type 0 where
  pub within : kept.opening.count ≤ length history.entries
  pub folded : kept ≡ folded_by kept.opening.count history

-- publication k is the snapshot of the first k entries
pub record AreSnapshots (history : Journal) (publications : List Snapshot) : Type 0 where
  pub within : length publications ≤ length history.entries + 1
  pub each : (k : ℕ) → k < length publications →
      slice_get publications k ≡ Some (snapshot_of (prefix k history))
