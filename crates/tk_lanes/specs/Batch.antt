-- The result of converting a list of stamps.
use Rattle.std.specs.Prelude.{◌≡◌, ◌<◌, ◌≤◌, ℕ, ⊤, List, length, slice_index, Result, Ok, Err}
use Rattle.tk_clock.specs.declared.clock_id.ClockId.{ClockId}
use Rattle.tk_clock.specs.declared.refusal.ReadError.{ReadError}
use Rattle.tk_clock.specs.declared.refusal.ReadError.TheVariants.{Invalid, Range}
use Rattle.tk_clock.specs.State.{ReadBase}
use Rattle.tk_clock.specs.Read.{read_of}
use Rattle.tk_lanes.specs.declared.batch_error.BatchError.{BatchError}
use Rattle.tk_lanes.specs.declared.batch_error.BatchError.TheVariants as errors

-- the items from `first` up to `end` are the clock's values at their stamps, in nanoseconds; all
-- other items are unchanged
pub record IsFilled (base : ReadBase) (clock : ClockId) (stamps : List ℕ) (first end : ℕ)
    (old new : List ℕ) : Type 0 where
  pub converted : (k : ℕ) → first ≤ k → k < end →
      read_of base clock (slice_index stamps k) ≡ Ok (slice_index new k)
  pub before : (k : ℕ) → k < first → slice_index new k ≡ slice_index old k
  pub after : (k : ℕ) → end ≤ k → slice_index new k ≡ slice_index old k

-- the stamp at `index` is the first refused one: the items before it are filled, and all other
-- items are unchanged
pub record IsRefusedAt (base : ReadBase) (clock : ClockId) (stamps : List ℕ) (first end : ℕ)
    (old new : List ℕ) (index : ℕ) (refusal : ReadError) : Type 0 where
  pub low : first ≤ index
  pub high : index < end
  pub refused : read_of base clock (slice_index stamps index) ≡ Err refusal
  pub filled : IsFilled base clock stamps first index old new

-- the answer for the stamps from `first` up to `end`
abbrev pub IsBatchFrom : ReadBase → ClockId → List ℕ → ℕ → ℕ →
    List ℕ → List ℕ → Result ⊤ BatchError → Type 0
IsBatchFrom base clock stamps first end old new (Ok done) =
    IsFilled base clock stamps first end old new
IsBatchFrom base clock stamps first end old new (Err (errors.Invalid index)) =
    IsRefusedAt base clock stamps first end old new index Invalid
IsBatchFrom base clock stamps first end old new (Err (errors.Range index)) =
    IsRefusedAt base clock stamps first end old new index Range

-- the answer for a list of stamps
abbrev pub IsBatch : ReadBase → ClockId → List ℕ → List ℕ → List ℕ → Result ⊤ BatchError → Type 0
IsBatch base clock stamps old new answer =
    IsBatchFrom base clock stamps 0 (length stamps) old new answer
