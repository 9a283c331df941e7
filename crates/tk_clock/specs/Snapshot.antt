-- A snapshot: the state that a reader of the clocks gets.
use Rattle.std.specs.Prelude.{ℕ}
use Rattle.tk_clock.specs.Journal.{Journal, accepted_count}
use Rattle.tk_clock.specs.State.{ReadBase, base_of}

-- the front, which is the number of accepted commands, and the numbers needed to read the clocks at
-- that front
pub record Snapshot : Type 0 where
  pub front : ℕ
  pub base : ReadBase

-- the snapshot of a journal after all its entries
abbrev pub snapshot_of : Journal → Snapshot
snapshot_of journal = record { front = accepted_count journal; base = base_of journal }
