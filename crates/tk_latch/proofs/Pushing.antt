-- Lists of numbers with one more number at the end.
use Rattle.std.proofs.Common.{◌≡◌, ℕ, zero, suc, ◌<◌, List, [], ◌∷◌, ◌++◌, length, get_or, refl, ap, arith}

-- the numbers before the last one
pub get_or-push_old : (xs : List ℕ) (x i : ℕ) → i < length xs →
    get_or (xs ++ x ∷ []) i 0 ≡ get_or xs i 0
get_or-push_old [] x i h = absurd (omega arith)
get_or-push_old (y ∷ ys) x zero h = refl
get_or-push_old (y ∷ ys) x (suc i) h = get_or-push_old ys x i (omega arith)

-- the last number
pub get_or-push_new : (xs : List ℕ) (x i : ℕ) → i ≡ length xs → get_or (xs ++ x ∷ []) i 0 ≡ x
get_or-push_new [] x zero h = refl
get_or-push_new [] x (suc i) h = absurd (omega arith)
get_or-push_new (y ∷ ys) x zero h = absurd (omega arith)
get_or-push_new (y ∷ ys) x (suc i) h = get_or-push_new ys x i (omega arith)

-- a list with another last number
abbrev pub last_set : ℕ → List ℕ → List ℕ
last_set x [] = []
last_set x (y ∷ []) = x ∷ []
last_set x (y ∷ z ∷ more) = y ∷ last_set x (z ∷ more)

pub last_set-push : (x : ℕ) (written : List ℕ) (former : ℕ) →
    last_set x (written ++ former ∷ []) ≡ written ++ x ∷ []
last_set-push x [] former = refl
last_set-push x (y ∷ []) former = refl
last_set-push x (y ∷ z ∷ more) former =
    ap (λ (ws : List ℕ). y ∷ ws) (last_set-push x (z ∷ more) former)
