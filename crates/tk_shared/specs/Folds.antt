-- The notice that lists the folds, next to the notice of the commands.
use Rattle.std.specs.Prelude.{◌≡◌, ℕ, List, sum_by}
use Rattle.atomic_table.specs.Seated.{TableId}
use Rattle.tk_now.specs.declared.rule.Taken.{Taken}

-- the names of a keeper's two notices
pub record NoticeIds : Type 0 where
  pub commands : TableId
  pub folds : TableId

-- a writer or a reader of the list of folds: its notice, and the number of folded entries that it
-- knows of
pub record Counting : Type 0 where
  pub notice : TableId
  pub folded : ℕ

-- it has this notice, and knows that this number of entries is folded
abbrev pub IsCounting : TableId → ℕ → Counting → Type 0
IsCounting notice folded counting = (counting.notice ≡ notice) × (counting.folded ≡ folded)

-- the number of entries that these folds folded: each is listed with its number of entries, and the
-- opening with 0
abbrev pub folded_in : List Taken → ℕ
folded_in folds = sum_by (λ fold. fold.reading) folds
