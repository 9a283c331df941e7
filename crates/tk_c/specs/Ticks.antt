-- A tick of steered clocks, as a C caller gets it (timekeeping_advance and
-- accumulate_nsecs_to_secs in kernel/time/timekeeping.c).
use Rattle.std.specs.Prelude.{◌≡◌, ℕ, ◌+◌, ⊤, Result, MatchResult, nat_eq, ◌&&◌, unsigned_abs, if◌then◌else◌}
use Rattle.tk_clock.specs.declared.refusal.Refusal.{Refusal}
use Rattle.tk_ntp.specs.Course.{course_of}
use Rattle.tk_ntp.specs.Keeping.{IsTickedTo}
use Rattle.tk_ntp.specs.SteeredClock.{SteeredClock}
use Rattle.tk_c.specs.declared.counted_ntp.SteeredCount.{SteeredCount}
use Rattle.tk_c.specs.declared.storage.SnapshotStorage.{SnapshotStorage}
use Rattle.tk_c.specs.declared.ticks.TickNumbers.{TickNumbers}
use Rattle.tk_c.specs.CallResults.{code_of_call}
use Rattle.tk_c.specs.Codes.{number_of}
use Rattle.tk_c.specs.CountedNtp.{counted_clock}
use Rattle.tk_c.specs.Room.{HasCounted, HasRoom, IsShort, clocks_of}
use Rattle.tk_c.specs.Storage.{snapshot_storage}

-- the numbers of clocks that differ after a tick that changed them
abbrev pub tick_numbers_of : SteeredClock → TickNumbers
tick_numbers_of steered = record {
  next = steered.next;
  real_offset = unsigned_abs steered.clock.base.real_offset;
  mult = steered.clock.base.mult;
}

-- what changed: 1 if a second has begun, 2 if REALTIME has leapt, 4 if the rate is another, and the
-- sum of these. As an inserted second begins, the same second comes next as before
abbrev pub changes : TickNumbers → TickNumbers → ℕ
changes before after =
    (if nat_eq before.next after.next && nat_eq before.real_offset after.real_offset then 0 else 1)
    + (if nat_eq before.real_offset after.real_offset then 0 else 2)
    + (if nat_eq before.mult after.mult then 0 else 4)

-- the snapshot after an accepted tick, and what changed, are written. At a refusal neither is
abbrev pub IsTickWritten : Result ⊤ Refusal → SteeredCount → SnapshotStorage → ℕ → SteeredCount →
    SnapshotStorage → ℕ → Type 0
IsTickWritten called old out changed new out' changed' =
    MatchResult called
    (λ _. (out' ≡ snapshot_storage (record {
      front = new.front;
      base = new.steered.clock.base;
    }))
    × (changed' ≡ changes (tick_numbers_of old.steered) (tick_numbers_of new.steered)))
    (λ refusal. (out' ≡ out) × (changed' ≡ changed))

-- the code of a tick, the clocks after it, and what is written. `commands` names the commands of each
-- second that begins late, and of the update: all of them are counted
pub record IsTicked (old : SteeredCount) (reading : ℕ) (out : SnapshotStorage) (changed code : ℕ)
    (out' : SnapshotStorage) (changed' : ℕ) (new : SteeredCount) : Type 0 where
  pub called : Result ⊤ Refusal
  pub commands : IsTickedTo clocks_of HasCounted HasRoom IsShort 0 reading (counted_clock old)
      (course_of old.steered) called (counted_clock new) (course_of new.steered)
  pub stated : code ≡ number_of (code_of_call called)
  pub written : IsTickWritten called old out changed new out' changed'
