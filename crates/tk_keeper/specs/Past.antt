-- The past of a journal, and the part of it that folding keeps.
use Rattle.std.specs.Prelude.{◌≡◌, ℕ, ◌-◌, ◌≤◌, drop, Option, Some, None, Result, MatchResult, nat_lt, if◌then◌else◌}
use Rattle.tk_clock.specs.declared.clock_id.ClockId.{ClockId}
use Rattle.tk_clock.specs.Journal.{Journal, prefix, accepted_count}
use Rattle.tk_clock.specs.Clocks.{clock_value}
use Rattle.tk_clock.specs.Snapshot.{Snapshot, snapshot_of}
use Rattle.tk_clock.specs.State.{state_of}
use Rattle.tk_keeper.specs.declared.front_error.FrontError.{FrontError}
use Rattle.tk_keeper.specs.declared.front_error.FrontError.TheVariants.{Unknown, Folded}
use Rattle.tk_keeper.specs.declared.timekeeper.past.Cursor.{Cursor}

-- the journal as it was at a front: when this number of commands was accepted, including the folded
-- ones
abbrev pub at_front : ℕ → Journal → Journal
at_front front journal = prefix (front - journal.opening.count) journal

-- the clocks of a cursor are the journal's at the cursor's place
abbrev pub IsAt : Journal → Cursor → Type 0
IsAt journal cursor = cursor.clock ≡ state_of (prefix cursor.place journal)

-- why a front is refused: it is above the number of accepted commands, or it is before the opening
abbrev pub front_refusal : Journal → ℕ → Option FrontError
front_refusal journal front =
    if nat_lt (accepted_count journal) front then Some Unknown
    else if nat_lt front journal.opening.count then Some Folded
    else None

-- the snapshot of a front, or why the front is refused
abbrev pub IsSnapshotAt : Journal → ℕ → Result Snapshot FrontError → Type 0
IsSnapshotAt journal front result = MatchResult result
    (λ snapshot. (front_refusal journal front ≡ None)
    × (snapshot ≡ snapshot_of (at_front front journal)))
    (λ error. front_refusal journal front ≡ Some error)

-- the folded journal agrees with the journal before the fold at each front that it still has
pub record IsFolded (before after : Journal) : Type 0 where
  -- the same number of accepted commands
  pub all : accepted_count after ≡ accepted_count before
  -- the same entries after the folded ones
  pub entries : after.entries ≡ drop (after.opening.count - before.opening.count) before.entries
  -- the same state, including the frequency and tick in force
  pub states : (front : ℕ) → after.opening.count ≤ front →
      state_of (at_front front after) ≡ state_of (at_front front before)
  -- the same snapshot
  pub snapshots : (front : ℕ) → after.opening.count ≤ front →
      snapshot_of (at_front front after) ≡ snapshot_of (at_front front before)
  -- the same value of each clock at each reading, in nanoseconds
  pub clocks : (front : ℕ) (clock : ClockId) (reading : ℕ) → after.opening.count ≤ front →
      clock_value (at_front front after) clock reading
      ≡ clock_value (at_front front before) clock reading
