-- A fact of each item, by the fact of each pair.
use Rattle.std.proofs.Common.{ℕ, zero, suc, ◌<◌, List, [], ◌∷◌, length, get_or, arith}
use Rattle.std.specs.List.{AllZip}

module _ {A B : Type 0} (R : A → B → Type 0) (P : B → Type 0)
    (holds : (x : A) (y : B) → R x y → P y) where
  pub all_zip-all : (xs : List A) (ys : List B) → AllZip R xs ys →
      (k : ℕ) (d : B) → k < length ys → P (get_or ys k d)
  all_zip-all [] [] all k d low = absurd (omega (arith, low))
  all_zip-all [] (y ∷ ys) all k d low = absurd all
  all_zip-all (x ∷ xs) [] all k d low = absurd all
  all_zip-all (x ∷ xs) (y ∷ ys) all zero d low = holds x y all.0
  all_zip-all (x ∷ xs) (y ∷ ys) all (suc k) d low =
      all_zip-all xs ys all.1 k d (omega (arith, low))
