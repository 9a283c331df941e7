-- General facts on lists: beginnings, and one item changed.
use Rattle.std.proofs.Common.{◌≡◌, ◌≢◌, ℕ, zero, suc, ◌≤◌, List, [], ◌∷◌, ◌++◌, length, set, refl, ap, sym, ◌∙◌, subst, arith, append_assoc, length-append}
use Rattle.std.proofs.lemmas.List.{append-nil}
use mathlib.Core.List.{IsPrefix}
use mathlib.Core.Option.{some, some-injective, some-ne-none}
use lib.ListN.{get_elem?}

module _ {A : Type 0} where
  pub prefix_self : (xs : List A) → IsPrefix xs xs
  prefix_self xs = ([], append-nil xs)

  pub prefix_trans : (xs ys zs : List A) → IsPrefix xs ys → IsPrefix ys zs → IsPrefix xs zs
  prefix_trans xs ys zs p q =
      (p.0 ++ q.0, sym (append_assoc xs p.0 q.0) ∙ (ap (λ w. w ++ q.0) p.1 ∙ q.1))

  -- a beginning as long as the whole is the whole
  pub prefix_whole : (xs ys : List A) → IsPrefix xs ys → length ys ≤ length xs → xs ≡ ys
  prefix_whole [] [] p le = refl
  prefix_whole [] (y ∷ ys) p le = absurd (omega arith)
  prefix_whole (x ∷ xs) [] p le = absurd (cc (p.1))
  prefix_whole (x ∷ xs) (y ∷ ys) p le =
      let rest = prefix_whole xs ys (p.0, cc (p.1)) (omega arith) in cc (p.1, rest)

  pub prefix_length : (xs ys : List A) → IsPrefix xs ys → length xs ≤ length ys
  prefix_length xs ys p = omega (arith, sym (ap length p.1) ∙ length-append xs p.0)

  -- a fact about all items holds after one of them has changed
  pub each_after : (P : ℕ → A → Type 0) (xs : List A) (i : ℕ) (x : A) → P i x →
      ((j : ℕ) (y : A) → j ≢ i → get_elem? xs j ≡ some y → P j y) →
      (j : ℕ) (y : A) → get_elem? (set xs i x) j ≡ some y → P j y
  each_after P [] i x new others j y at = absurd (some-ne-none y (sym at))
  each_after P (z ∷ zs) zero x new others zero y at = subst (P zero) (some-injective x y at) new
  each_after P (z ∷ zs) zero x new others (suc j) y at = others (suc j) y (λ e. omega arith) at
  each_after P (z ∷ zs) (suc i) x new others zero y at = others zero y (λ e. omega arith) at
  each_after P (z ∷ zs) (suc i) x new others (suc j) y at =
      each_after (λ k. P (suc k)) zs i x new
      (λ k v apart. others (suc k) v (λ e. apart (omega arith))) j y at
