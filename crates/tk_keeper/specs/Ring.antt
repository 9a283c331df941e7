-- The contents of a ring.
use Rattle.std.specs.Prelude.{ℕ, List}

-- its items in order, and the number of items that it can hold without an allocation
pub record Listed (X : Type 0) : Type 0 where
  pub items : List X
  pub capacity : ℕ
