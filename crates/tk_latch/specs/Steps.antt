-- The knowledge that a seat gains by the steps of a latch: relations of the step, the seat before
-- it, the number found, and the seat after it.
use Rattle.std.specs.Prelude.{◌≡◌, ◌≢◌, ℕ, ◌+◌, ◌*◌, ◌%◌, ◌<◌, ◌≤◌, List, [], ◌∷◌, ◌++◌, length, slice_index}
use Rattle.atomic_table.specs.Table.{Me, Step}
use Rattle.tk_latch.specs.declared.rule.History.{History}
use Rattle.tk_latch.specs.declared.rule.View.{View}
use Rattle.tk_latch.specs.Publications.{latest_words, AreNumbered, IsBeginning, pushed_words}
use Rattle.tk_latch.specs.Rule.{Counts}
use Rattle.tk_latch.specs.Views.{resting, reading, making, copying, noting}

abbrev pub Move : Type 0
Move = Step (Unit {0})

abbrev pub Seated : Type 0
Seated = Me (Unit {0}) View

-- the sequence is odd, and a publication is being made. Its word 0, the front, is its number
abbrev pub opened : Move → Seated → ℕ → Seated → Type 0
opened move old found new =
    (history : History) → old.0 ≡ copying history 10 →
    new.0 ≡ making history (length history.list ∷ [])

-- the next word of copy 0 is found, and counts as a word of the publication until it is replaced
abbrev pub found_word : Move → Seated → ℕ → Seated → Type 0
found_word move old found new =
    (history : History) (written : List ℕ) → old.0 ≡ making history written →
    new.0 ≡ making history (written ++ found ∷ [])

-- the last found word of copy 0 is replaced
abbrev pub replaced_word : Move → Seated → ℕ → Seated → Type 0
replaced_word move old found new =
    (history : History) (written : List ℕ) (former : ℕ) →
    old.0 ≡ making history (written ++ former ∷ []) →
    new.0 ≡ making history (written ++ move.first ∷ [])

-- the publication is the latest one
abbrev pub committed : Move → Seated → ℕ → Seated → Type 0
committed move old found new =
    (history : History) (written : List ℕ) → old.0 ≡ making history written →
    new.0 ≡ copying (pushed_words history written) 1

-- the next word of copy 1 is found: copy 1 contains one more word of the latest publication exactly
-- if it is that word
abbrev pub checked_word : Move → Seated → ℕ → Seated → Type 0
checked_word move old found new =
    (history : History) (count : ℕ) → old.0 ≡ copying history count →
    (found ≡ slice_index (latest_words history.list) count → new.0 ≡ copying history (count + 1))
    × (found ≢ slice_index (latest_words history.list) count → new.0 ≡ copying history count)

-- one more word of the publication is in copy 1
abbrev pub copied_word : Move → Seated → ℕ → Seated → Type 0
copied_word move old found new =
    (history : History) (count : ℕ) → old.0 ≡ copying history count →
    new.0 ≡ copying history (count + 1)

-- a read begins with a load of the sequence, which is listed; the reader then knows all
-- publications so far
abbrev pub began : Move → Seated → ℕ → Seated → Type 0
began move old found new = (move.word ≡ 0) × (new.1 ≡ old.1)
    × ((known : History) (before : List ℕ) → old.0 ≡ resting known before →
    (later : History) × (new.0 ≡ reading later (before ++ found ∷ []) found found)
    × IsBeginning known later × Counts later.list found × AreNumbered later.counter 0 later.list)

-- a word is loaded. If the sequence is still the same as at the beginning, and the word belongs to
-- the copy that the sequence names, it is a word of the latest publication
abbrev pub loaded : Move → Seated → ℕ → Seated → Type 0
loaded move old found new = (new.1 ≡ old.1)
    × ((known : History) (before : List ℕ) (first last : ℕ) →
    old.0 ≡ reading known before first last →
    (now : ℕ) × (new.0 ≡ reading known before first now) × (last ≤ now)
    × (now ≤ first → (i : ℕ) → 1 ≤ i → i < 10 → move.word ≡ i + 9 * (first % 2) →
    found ≡ slice_index (latest_words known.list) i))

-- a read ends with a load of the sequence, which is listed; the reader then knows all publications
-- so far. If the sequence is still the same, they are the publications at the beginning
abbrev pub ended : Move → Seated → ℕ → Seated → Type 0
ended move old found new = (move.word ≡ 0) × (new.1 ≡ old.1)
    × ((known : History) (before : List ℕ) (first last : ℕ) →
    old.0 ≡ reading known before first last →
    (later : History) × (new.0 ≡ resting later (before ++ found ∷ [])) × IsBeginning known later
    × Counts later.list found × (last ≤ found) × (first ≤ found) × (found ≡ first → later ≡ known))

-- the note is a beginning of the writer's history
abbrev pub compared : Move → Seated → ℕ → Seated → Type 0
compared move old found new = (history note : History) → old.0 ≡ noting history note →
    (new.0 ≡ copying history 10) × IsBeginning note history
