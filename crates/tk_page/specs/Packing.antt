-- The words of a page: eight 64-bit words, into which the ten words of a snapshot are packed.
use Rattle.std.specs.Prelude.{ℕ, ◌+◌, ◌*◌, ◌/◌, ◌%◌, ◌^◌, List, [], ◌∷◌, slice_index}

-- the words of a page. Word 2 is the multiplier, and above its 32 bits the snapshot's word of the
-- TAI offset; word 4 is the seconds of MONOTONIC, and above 32 bits those of MONOTONIC_RAW
abbrev pub packed : List ℕ → List ℕ
packed words =
    slice_index words 0 ∷ slice_index words 1
    ∷ (slice_index words 7 * 2 ^ 32 + slice_index words 2) ∷ slice_index words 3
    ∷ (slice_index words 9 * 2 ^ 32 + slice_index words 4)
    ∷ slice_index words 5 ∷ slice_index words 6 ∷ slice_index words 8 ∷ []

-- the snapshot's words that are packed in the words of a page
abbrev pub unpacked : List ℕ → List ℕ
unpacked words =
    slice_index words 0 ∷ slice_index words 1
    ∷ slice_index words 2 % 2 ^ 32 ∷ slice_index words 3 ∷ slice_index words 4 % 2 ^ 32
    ∷ slice_index words 5 ∷ slice_index words 6 ∷ slice_index words 2 / 2 ^ 32
    ∷ slice_index words 7 ∷ slice_index words 4 / 2 ^ 32 ∷ []
