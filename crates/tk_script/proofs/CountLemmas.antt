-- The number of fields of a line, counted byte by byte.
use Rattle.std.proofs.Common.{◌≡◌, ◌∙◌, ◌++◌, ◌+◌, ◌<◌, ◌≤◌, ℕ, List, [], ◌∷◌, length, drop, refl, ap, inl, inr, arith, false}
use Rattle.std.specs.Prelude.{◌==◌, slice_index, get_or}
use Rattle.std.specs.Borrow.{Bor}
use Rattle.std.proofs.lemmas.Bool.{cases_Bool, eqb-true}
use Rattle.std.proofs.lemmas.List.{drop_all, length-append}
use Rattle.tk_script.specs.Plain.{HasFields, cut_after, cut_at_commas}
use Rattle.tk_script.specs.declared.plain.Fields.{Fields}
use Rattle.tk_script.proofs.PlainLemmas.{byte-first, field_at-more, not-true}

-- the number of fields doesn't depend on the bytes of the first one
count-same : (field other line : List ℕ) →
    length (cut_after field line) ≡ length (cut_after other line)
unfolding cut_after
count-same field other [] = refl
count-same field other (c ∷ line) = elim (cases_Bool (c == 44)) [
  | inl comma ↦ rw comma refl
  | inr inside ↦ rw inside (count-same (field ++ c ∷ []) (other ++ c ∷ []) line)
]

-- a comma begins one more field
first-comma : (line : List ℕ) → length (cut_at_commas (44 ∷ line)) ≡ length (cut_at_commas line) + 1
unfolding cut_after
first-comma line = omega arith

-- another byte begins none
first-other : (c : ℕ) (line : List ℕ) → (c ≡ 44 → ⊥) →
    length (cut_at_commas (c ∷ line)) ≡ length (cut_at_commas line)
unfolding cut_after
first-other c line other =
    let inside : (c == 44) ≡ false = not-true (c == 44) (λ same. other (eqb-true c 44 same)) in
    rw inside (count-same (c ∷ []) [] line)

-- the fields after an index, if a comma is there
pub count-comma : (line : List ℕ) (i : ℕ) → i < length line → slice_index line i ≡ 44 →
    length (cut_at_commas (drop i line)) ≡ length (cut_at_commas (drop (i + 1) line)) + 1
count-comma line i inside comma =
    ap (λ (t : List ℕ). length (cut_at_commas t)) (byte-first line i 44 inside comma)
    ∙ first-comma (drop (i + 1) line)

-- the fields after an index, if no comma is there
pub count-other : (line : List ℕ) (i : ℕ) → i < length line → (slice_index line i ≡ 44 → ⊥) →
    length (cut_at_commas (drop i line)) ≡ length (cut_at_commas (drop (i + 1) line))
count-other line i inside other =
    ap (λ (t : List ℕ). length (cut_at_commas t))
    (byte-first line i (slice_index line i) inside refl)
    ∙ first-other (slice_index line i) (drop (i + 1) line) other

-- no byte remains
pub count-none : (line : List ℕ) (i : ℕ) → length line ≤ i →
    length (cut_at_commas (drop i line)) ≡ 1
unfolding cut_after
count-none line i end = rw (drop_all i line end) refl

-- a line has at most one field more than bytes
pub count-most : (field line : List ℕ) → length (cut_after field line) ≤ length line + 1
unfolding cut_after
count-most field [] = omega arith
count-most field (c ∷ line) = elim (cases_Bool (c == 44)) [
  | inl comma ↦ rw comma (omega (arith, count-most [] line))
  | inr inside ↦ rw inside (omega (arith, count-most (field ++ c ∷ []) line))
]

-- the fields after the sixteenth are only counted
pub HasFields-more : (fields later : List (List ℕ)) (old new : Fields) →
    HasFields fields old → new.count ≡ old.count + length later → 16 ≤ old.count →
    new.first ≡ old.first → HasFields (fields ++ later) new
HasFields-more fields later old new has count many same = record {
  count = omega (arith, count, has.count, length-append fields later);
  places = ap length same ∙ has.places;
  first = λ i other inside early here.
      field_at-more fields later i other.now
      (has.first i other (omega (arith, early, many)) early
      (here ∙ ap (λ (fs : List (Bor (List ℕ))). get_or fs i other) same));
}
