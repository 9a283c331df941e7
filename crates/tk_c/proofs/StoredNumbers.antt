-- The 18 words of numbers, which are stored one by one.
use Rattle.std.proofs.Common.{◌≡◌, ℕ, arith, refl, List, [], ◌∷◌, length, slice_set}

-- every word is overwritten, in the order of the stores
pub set_numbers : (words : List ℕ)
    (x0 x1 x2 x3 x4 x5 x6 x7 x8 x9 x10 x11 x12 x13 x14 x15 x16 x17 : ℕ) → length words ≡ 18 →
    slice_set (slice_set (slice_set (slice_set (slice_set (slice_set (slice_set (slice_set
    (slice_set (slice_set (slice_set (slice_set (slice_set (slice_set (slice_set (slice_set
    (slice_set (slice_set words 0 x0) 2 x2) 4 x4) 6 x6) 8 x8) 10 x10) 12 x12) 14 x14) 16 x16) 1
    x1) 3 x3) 5 x5) 7 x7) 9 x9) 11 x11) 13 x13) 15 x15) 17 x17 ≡ x0 ∷ x1 ∷ x2 ∷ x3 ∷ x4 ∷ x5 ∷
    x6 ∷ x7 ∷ x8 ∷ x9 ∷ x10 ∷ x11 ∷ x12 ∷ x13 ∷ x14 ∷ x15 ∷ x16 ∷ x17 ∷ []
set_numbers (a ∷ b ∷ c ∷ d ∷ e ∷ f ∷ g ∷ h ∷ i ∷ j ∷ k ∷ l ∷ m ∷ n ∷ o ∷ p ∷ q ∷ r ∷ []) _ _ _
    _ _ _ _ _ _ _ _ _ _ _ _ _ _ _ all =
    refl
set_numbers (a ∷ b ∷ c ∷ d ∷ e ∷ f ∷ g ∷ h ∷ i ∷ j ∷ k ∷ l ∷ m ∷ n ∷ o ∷ p ∷ q ∷ r ∷ s ∷ more)
    _ _ _ _ _ _ _ _ _ _ _ _ _ _ _ _ _ _ all =
    absurd (omega arith)
set_numbers (a ∷ b ∷ c ∷ d ∷ e ∷ f ∷ g ∷ h ∷ i ∷ j ∷ k ∷ l ∷ m ∷ n ∷ o ∷ p ∷ q ∷ []) _ _ _ _ _
    _ _ _ _ _ _ _ _ _ _ _ _ _ all =
    absurd (omega arith)
set_numbers (a ∷ b ∷ c ∷ d ∷ e ∷ f ∷ g ∷ h ∷ i ∷ j ∷ k ∷ l ∷ m ∷ n ∷ o ∷ p ∷ []) _ _ _ _ _ _ _
    _ _ _ _ _ _ _ _ _ _ _ all =
    absurd (omega arith)
set_numbers (a ∷ b ∷ c ∷ d ∷ e ∷ f ∷ g ∷ h ∷ i ∷ j ∷ k ∷ l ∷ m ∷ n ∷ o ∷ []) _ _ _ _ _ _ _ _ _
    _ _ _ _ _ _ _ _ _ all =
    absurd (omega arith)
set_numbers (a ∷ b ∷ c ∷ d ∷ e ∷ f ∷ g ∷ h ∷ i ∷ j ∷ k ∷ l ∷ m ∷ n ∷ []) _ _ _ _ _ _ _ _ _ _ _
    _ _ _ _ _ _ _ all =
    absurd (omega arith)
set_numbers (a ∷ b ∷ c ∷ d ∷ e ∷ f ∷ g ∷ h ∷ i ∷ j ∷ k ∷ l ∷ m ∷ []) _ _ _ _ _ _ _ _ _ _ _ _ _
    _ _ _ _ _ all =
    absurd (omega arith)
set_numbers (a ∷ b ∷ c ∷ d ∷ e ∷ f ∷ g ∷ h ∷ i ∷ j ∷ k ∷ l ∷ []) _ _ _ _ _ _ _ _ _ _ _ _ _ _ _
    _ _ _ all =
    absurd (omega arith)
set_numbers (a ∷ b ∷ c ∷ d ∷ e ∷ f ∷ g ∷ h ∷ i ∷ j ∷ k ∷ []) _ _ _ _ _ _ _ _ _ _ _ _ _ _ _ _ _
    _ all =
    absurd (omega arith)
set_numbers (a ∷ b ∷ c ∷ d ∷ e ∷ f ∷ g ∷ h ∷ i ∷ j ∷ []) _ _ _ _ _ _ _ _ _ _ _ _ _ _ _ _ _ _
    all =
    absurd (omega arith)
set_numbers (a ∷ b ∷ c ∷ d ∷ e ∷ f ∷ g ∷ h ∷ i ∷ []) _ _ _ _ _ _ _ _ _ _ _ _ _ _ _ _ _ _ all =
    absurd (omega arith)
set_numbers (a ∷ b ∷ c ∷ d ∷ e ∷ f ∷ g ∷ h ∷ []) _ _ _ _ _ _ _ _ _ _ _ _ _ _ _ _ _ _ all =
    absurd (omega arith)
set_numbers (a ∷ b ∷ c ∷ d ∷ e ∷ f ∷ g ∷ []) _ _ _ _ _ _ _ _ _ _ _ _ _ _ _ _ _ _ all =
    absurd (omega arith)
set_numbers (a ∷ b ∷ c ∷ d ∷ e ∷ f ∷ []) _ _ _ _ _ _ _ _ _ _ _ _ _ _ _ _ _ _ all =
    absurd (omega arith)
set_numbers (a ∷ b ∷ c ∷ d ∷ e ∷ []) _ _ _ _ _ _ _ _ _ _ _ _ _ _ _ _ _ _ all =
    absurd (omega arith)
set_numbers (a ∷ b ∷ c ∷ d ∷ []) _ _ _ _ _ _ _ _ _ _ _ _ _ _ _ _ _ _ all =
    absurd (omega arith)
set_numbers (a ∷ b ∷ c ∷ []) _ _ _ _ _ _ _ _ _ _ _ _ _ _ _ _ _ _ all =
    absurd (omega arith)
set_numbers (a ∷ b ∷ []) _ _ _ _ _ _ _ _ _ _ _ _ _ _ _ _ _ _ all =
    absurd (omega arith)
set_numbers (a ∷ []) _ _ _ _ _ _ _ _ _ _ _ _ _ _ _ _ _ _ all =
    absurd (omega arith)
set_numbers [] _ _ _ _ _ _ _ _ _ _ _ _ _ _ _ _ _ _ all =
    absurd (omega arith)
