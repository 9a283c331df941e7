-- A list as C passes it: its address, and the number of its items. A list without items may be at
-- any address, including NULL.
use Rattle.std.specs.Prelude.{ℕ, List, [], ◌∷◌, length}
use Prim.Native.Nat.{zero, suc}
use base.Fraction.{full_share}
use base.Fml.{Fml, Lft, Share, ffalse, feq, fsep, flft}
use mir.Syntax.{named}
use denote.RawPtr.{Ptr, block_ptr, null_ptr, lies_at}
use denote.Array.{Array}
use denote.Builtin.{u64}
use denote.Slice.{ShrSlice, slice_val}

-- the numbers are at this address, and the call owns them until it returns, like the numbers of a
-- `&mut [u64]`
abbrev pub owned_at : Ptr → ℕ → List ℕ → Fml
owned_at at zero items = feq (List ℕ) items []
owned_at at (suc count) items = lies_at (Array u64 (suc count)) full_share at items

-- the statement of a `&[u64]` to the numbers, and that its lifetime is alive
abbrev pub lent_at : Ptr → Lft → Share → List ℕ → Fml
lent_at (block_ptr block offset) alive share items = fsep (flft alive share)
    ((ShrSlice (named 0) alive u64).own_val (record { ref_ptr = (block, offset); now = items })
    (slice_val (block, offset) (length items) ∷ []))
lent_at null_ptr alive share items = ffalse

-- the numbers are at this address, and are only read, like the numbers of a `&[u64]`
abbrev pub shared_at : Ptr → ℕ → Lft → Share → List ℕ → Fml
shared_at at zero alive share items = feq (List ℕ) items []
shared_at at (suc count) alive share items = lent_at at alive share items

-- the contents of the two lists that are passed to a conversion, and the loan of the stamps
pub record Lists : Type 0 where
  pub old : List ℕ
  pub stamps : List ℕ
  pub alive : Lft
  pub share : Share
