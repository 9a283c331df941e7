-- Words that are stored one by one.
use Rattle.std.proofs.Common.{◌≡◌, ℕ, ◌∙◌, arith, refl, List, [], ◌∷◌, length, slice_index_or, slice_set, ◌++◌, ap}

-- every word is overwritten, in the order of the stores
set_each : (words : List ℕ) (a b c d e f g h i j : ℕ) → length words ≡ 10 →
    slice_set (slice_set (slice_set (slice_set (slice_set (slice_set (slice_set (slice_set
    (slice_set (slice_set words 0 a) 2 c) 4 e) 6 g) 8 i) 1 b) 3 d) 5 f) 7 h) 9 j
    ≡ a ∷ b ∷ c ∷ d ∷ e ∷ f ∷ g ∷ h ∷ i ∷ j ∷ []
set_each (a ∷ b ∷ c ∷ d ∷ e ∷ f ∷ g ∷ h ∷ i ∷ j ∷ []) _ _ _ _ _ _ _ _ _ _ all = refl
set_each (a ∷ b ∷ c ∷ d ∷ e ∷ f ∷ g ∷ h ∷ i ∷ j ∷ k ∷ more) _ _ _ _ _ _ _ _ _ _ all =
    absurd (omega arith)
set_each (a ∷ b ∷ c ∷ d ∷ e ∷ f ∷ g ∷ h ∷ i ∷ []) _ _ _ _ _ _ _ _ _ _ all = absurd (omega arith)
set_each (a ∷ b ∷ c ∷ d ∷ e ∷ f ∷ g ∷ h ∷ []) _ _ _ _ _ _ _ _ _ _ all = absurd (omega arith)
set_each (a ∷ b ∷ c ∷ d ∷ e ∷ f ∷ g ∷ []) _ _ _ _ _ _ _ _ _ _ all = absurd (omega arith)
set_each (a ∷ b ∷ c ∷ d ∷ e ∷ f ∷ []) _ _ _ _ _ _ _ _ _ _ all = absurd (omega arith)
set_each (a ∷ b ∷ c ∷ d ∷ e ∷ []) _ _ _ _ _ _ _ _ _ _ all = absurd (omega arith)
set_each (a ∷ b ∷ c ∷ d ∷ []) _ _ _ _ _ _ _ _ _ _ all = absurd (omega arith)
set_each (a ∷ b ∷ c ∷ []) _ _ _ _ _ _ _ _ _ _ all = absurd (omega arith)
set_each (a ∷ b ∷ []) _ _ _ _ _ _ _ _ _ _ all = absurd (omega arith)
set_each (a ∷ []) _ _ _ _ _ _ _ _ _ _ all = absurd (omega arith)
set_each [] _ _ _ _ _ _ _ _ _ _ all = absurd (omega arith)

-- the words that are loaded one by one
loaded : (words : List ℕ) → length words ≡ 10 →
    slice_index_or words 0 0 ∷ slice_index_or words 1 0 ∷ slice_index_or words 2 0
    ∷ slice_index_or words 3 0 ∷ slice_index_or words 4 0 ∷ slice_index_or words 5 0
    ∷ slice_index_or words 6 0 ∷ slice_index_or words 7 0 ∷ slice_index_or words 8 0
    ∷ slice_index_or words 9 0 ∷ [] ≡ words
loaded (a ∷ b ∷ c ∷ d ∷ e ∷ f ∷ g ∷ h ∷ i ∷ j ∷ []) all = refl
loaded (a ∷ b ∷ c ∷ d ∷ e ∷ f ∷ g ∷ h ∷ i ∷ j ∷ k ∷ more) all = absurd (omega arith)
loaded (a ∷ b ∷ c ∷ d ∷ e ∷ f ∷ g ∷ h ∷ i ∷ []) all = absurd (omega arith)
loaded (a ∷ b ∷ c ∷ d ∷ e ∷ f ∷ g ∷ h ∷ []) all = absurd (omega arith)
loaded (a ∷ b ∷ c ∷ d ∷ e ∷ f ∷ g ∷ []) all = absurd (omega arith)
loaded (a ∷ b ∷ c ∷ d ∷ e ∷ f ∷ []) all = absurd (omega arith)
loaded (a ∷ b ∷ c ∷ d ∷ e ∷ []) all = absurd (omega arith)
loaded (a ∷ b ∷ c ∷ d ∷ []) all = absurd (omega arith)
loaded (a ∷ b ∷ c ∷ []) all = absurd (omega arith)
loaded (a ∷ b ∷ []) all = absurd (omega arith)
loaded (a ∷ []) all = absurd (omega arith)
loaded [] all = absurd (omega arith)

-- ten words that overwrite ten others are the same words
pub stored : (words stated : List ℕ) → length words ≡ 10 → length stated ≡ 10 →
    slice_set (slice_set (slice_set (slice_set (slice_set (slice_set (slice_set (slice_set
    (slice_set (slice_set words 0 (slice_index_or stated 0 0)) 2 (slice_index_or stated 2 0))
    4 (slice_index_or stated 4 0)) 6 (slice_index_or stated 6 0)) 8 (slice_index_or stated 8 0))
    1 (slice_index_or stated 1 0)) 3 (slice_index_or stated 3 0)) 5 (slice_index_or stated 5 0))
    7 (slice_index_or stated 7 0)) 9 (slice_index_or stated 9 0) ≡ stated
stored words stated ten all =
    set_each words _ _ _ _ _ _ _ _ _ _ ten ∙ loaded stated all

-- every one of 15 words is overwritten, in the order of the stores
set_saved : (words : List ℕ) (x0 x1 x2 x3 x4 x5 x6 x7 x8 x9 x10 x11 x12 x13 x14 : ℕ) → length
    words ≡ 15 → slice_set (slice_set (slice_set (slice_set (slice_set (slice_set (slice_set
    (slice_set (slice_set (slice_set (slice_set (slice_set (slice_set (slice_set (slice_set words
    0 x0) 2 x2) 4 x4) 6 x6) 8 x8) 10 x10) 12 x12) 14 x14) 1 x1) 3 x3) 5 x5) 7 x7) 9 x9) 11 x11)
    13 x13 ≡ x0 ∷ x1 ∷ x2 ∷ x3 ∷ x4 ∷ x5 ∷ x6 ∷ x7 ∷ x8 ∷ x9 ∷ x10 ∷ x11 ∷ x12 ∷ x13 ∷ x14 ∷ []
set_saved (a ∷ b ∷ c ∷ d ∷ e ∷ f ∷ g ∷ h ∷ i ∷ j ∷ k ∷ l ∷ m ∷ n ∷ o ∷ []) _ _ _ _ _ _ _ _ _ _ _ _ _ _ _ all = refl
set_saved (a ∷ b ∷ c ∷ d ∷ e ∷ f ∷ g ∷ h ∷ i ∷ j ∷ k ∷ l ∷ m ∷ n ∷ o ∷ p ∷ more) _ _ _ _ _ _ _ _ _ _ _ _ _ _ _ all =
    absurd (omega arith)
set_saved (a ∷ b ∷ c ∷ d ∷ e ∷ f ∷ g ∷ h ∷ i ∷ j ∷ k ∷ l ∷ m ∷ n ∷ []) _ _ _ _ _ _ _ _ _ _ _ _ _ _ _ all = absurd (omega arith)
set_saved (a ∷ b ∷ c ∷ d ∷ e ∷ f ∷ g ∷ h ∷ i ∷ j ∷ k ∷ l ∷ m ∷ []) _ _ _ _ _ _ _ _ _ _ _ _ _ _ _ all = absurd (omega arith)
set_saved (a ∷ b ∷ c ∷ d ∷ e ∷ f ∷ g ∷ h ∷ i ∷ j ∷ k ∷ l ∷ []) _ _ _ _ _ _ _ _ _ _ _ _ _ _ _ all = absurd (omega arith)
set_saved (a ∷ b ∷ c ∷ d ∷ e ∷ f ∷ g ∷ h ∷ i ∷ j ∷ k ∷ []) _ _ _ _ _ _ _ _ _ _ _ _ _ _ _ all = absurd (omega arith)
set_saved (a ∷ b ∷ c ∷ d ∷ e ∷ f ∷ g ∷ h ∷ i ∷ j ∷ []) _ _ _ _ _ _ _ _ _ _ _ _ _ _ _ all = absurd (omega arith)
set_saved (a ∷ b ∷ c ∷ d ∷ e ∷ f ∷ g ∷ h ∷ i ∷ []) _ _ _ _ _ _ _ _ _ _ _ _ _ _ _ all = absurd (omega arith)
set_saved (a ∷ b ∷ c ∷ d ∷ e ∷ f ∷ g ∷ h ∷ []) _ _ _ _ _ _ _ _ _ _ _ _ _ _ _ all = absurd (omega arith)
set_saved (a ∷ b ∷ c ∷ d ∷ e ∷ f ∷ g ∷ []) _ _ _ _ _ _ _ _ _ _ _ _ _ _ _ all = absurd (omega arith)
set_saved (a ∷ b ∷ c ∷ d ∷ e ∷ f ∷ []) _ _ _ _ _ _ _ _ _ _ _ _ _ _ _ all = absurd (omega arith)
set_saved (a ∷ b ∷ c ∷ d ∷ e ∷ []) _ _ _ _ _ _ _ _ _ _ _ _ _ _ _ all = absurd (omega arith)
set_saved (a ∷ b ∷ c ∷ d ∷ []) _ _ _ _ _ _ _ _ _ _ _ _ _ _ _ all = absurd (omega arith)
set_saved (a ∷ b ∷ c ∷ []) _ _ _ _ _ _ _ _ _ _ _ _ _ _ _ all = absurd (omega arith)
set_saved (a ∷ b ∷ []) _ _ _ _ _ _ _ _ _ _ _ _ _ _ _ all = absurd (omega arith)
set_saved (a ∷ []) _ _ _ _ _ _ _ _ _ _ _ _ _ _ _ all = absurd (omega arith)
set_saved [] _ _ _ _ _ _ _ _ _ _ _ _ _ _ _ all = absurd (omega arith)

-- the five words that are loaded one by one
rest_loaded : (words : List ℕ) → length words ≡ 5 →
    slice_index_or words 0 0 ∷ slice_index_or words 1 0 ∷ slice_index_or words 2 0
    ∷ slice_index_or words 3 0 ∷ slice_index_or words 4 0 ∷ [] ≡ words
rest_loaded (a ∷ b ∷ c ∷ d ∷ e ∷ []) all = refl
rest_loaded (a ∷ b ∷ c ∷ d ∷ e ∷ f ∷ more) all = absurd (omega arith)
rest_loaded (a ∷ b ∷ c ∷ d ∷ []) all = absurd (omega arith)
rest_loaded (a ∷ b ∷ c ∷ []) all = absurd (omega arith)
rest_loaded (a ∷ b ∷ []) all = absurd (omega arith)
rest_loaded (a ∷ []) all = absurd (omega arith)
rest_loaded [] all = absurd (omega arith)

-- ten words and five that overwrite 15 others are the same words
pub saved : (words first rest : List ℕ) → length words ≡ 15 → length first ≡ 10 → length rest ≡ 5
    → slice_set (slice_set (slice_set (slice_set (slice_set (slice_set (slice_set (slice_set
    (slice_set (slice_set (slice_set (slice_set (slice_set (slice_set (slice_set words 0
    (slice_index_or first 0 0)) 2 (slice_index_or first 2 0)) 4 (slice_index_or first 4 0)) 6
    (slice_index_or first 6 0)) 8 (slice_index_or first 8 0)) 10 (slice_index_or rest 0 0)) 12
    (slice_index_or rest 2 0)) 14 (slice_index_or rest 4 0)) 1 (slice_index_or first 1 0)) 3
    (slice_index_or first 3 0)) 5 (slice_index_or first 5 0)) 7 (slice_index_or first 7 0)) 9
    (slice_index_or first 9 0)) 11 (slice_index_or rest 1 0)) 13 (slice_index_or rest 3 0) ≡
    first ++ rest
saved words first rest all ten five =
    set_saved words _ _ _ _ _ _ _ _ _ _ _ _ _ _ _ all
    ∙ ap (λ ten. ten ++ (slice_index_or rest 0 0 ∷ slice_index_or rest 1 0 ∷ slice_index_or rest 2 0
    ∷ slice_index_or rest 3 0 ∷ slice_index_or rest 4 0 ∷ [])) (loaded first ten) ∙ ap (λ five. first ++ five) (rest_loaded rest five)
