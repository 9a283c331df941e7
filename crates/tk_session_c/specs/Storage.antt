-- The fields that are written to C's storage for a text and for a snapshot.
use Rattle.std.specs.Prelude.{ℕ, ◌/◌, ◌%◌, List, [], ◌∷◌, ◌++◌, length, drop, unsigned_abs, if◌then◌else◌}
use Rattle.tk_counter.specs.Counter.{Counter, second}
use Rattle.tk_clock.specs.Snapshot.{Snapshot}
use Rattle.tk_clock.specs.State.{ReadBase}
use Rattle.tk_session.specs.Session.{Session}
use Rattle.tk_session_c.specs.declared.storage.BaseStorage.{BaseStorage}
use Rattle.tk_session_c.specs.declared.storage.CounterStorage.{CounterStorage}
use Rattle.tk_session_c.specs.declared.storage.SnapshotStorage.{SnapshotStorage}
use Rattle.tk_session_c.specs.declared.storage.TextStorage.{TextStorage}

-- a storage after a text is written to it: the bytes after the text don't change
abbrev pub with_text : TextStorage → List ℕ → TextStorage
with_text old text = record {
  len = length text;
  bytes = text ++ drop (length text) old.bytes;
}

-- a counter
abbrev pub counter_storage : Counter → CounterStorage
counter_storage counter = record {
  bits = counter.bits;
  mult = counter.mult;
  shift = counter.shift;
}

-- the numbers needed to read the clocks; an amount is written as seconds, and units of 2^-shift
-- nanoseconds below a second; the padding is 0, so every byte is written
abbrev pub base_storage : ReadBase → BaseStorage
base_storage base = record {
  counter = counter_storage base.counter;
  last = base.last;
  mult = base.mult;
  sec = base.amount / second base.counter;
  frac = base.amount % second base.counter;
  raw_sec = base.raw_amount / second base.counter;
  raw_frac = base.raw_amount % second base.counter;
  real_offset = unsigned_abs base.real_offset;
  boot_offset = unsigned_abs base.boot_offset;
  tai = unsigned_abs base.tai;
  asleep = if base.asleep then 1 else 0;
  padding = 0 ∷ 0 ∷ 0 ∷ [];
}

-- a snapshot
abbrev pub snapshot_storage : Snapshot → SnapshotStorage
snapshot_storage snapshot = record {
  front = snapshot.front;
  base = base_storage snapshot.base;
}

-- the snapshot of a session's clocks
abbrev pub snapshot_in : Session → Snapshot
snapshot_in session = record {
  front = session.clocks.count;
  base = session.clocks.clock.base;
}
