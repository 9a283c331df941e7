-- Items by their place in a list that is converted in pieces, and one more piece.
use Rattle.std.proofs.Common.{◌≡◌, ℕ, ◌+◌, ◌-◌, ◌*◌, ◌<◌, List, length, get_or, take, drop, length-take, ◌++◌, Ok, sym, ap, ◌∙◌, subst, arith, inl, inr}
use Rattle.std.specs.Prelude.{pos}
use Rattle.std.proofs.lemmas.Bool.{cases_lt}
use Rattle.std.proofs.lemmas.List.{get_or-take, get_or-drop, get_or_append_left, length-drop}
use Rattle.std.proofs.Math.Seq.{drop-append_seam}
use Rattle.tk_clock.specs.declared.clock_id.ClockId.{ClockId}
use Rattle.tk_clock.specs.Journal.{Journal}
use Rattle.tk_keeper.specs.Trace.{item_of}
use Rattle.tk_pieces.specs.Pieces.{ArePieces, refused_mark}

-- an item of a piece, by its place in the whole list
in_piece : (size first from j : ℕ) (out : List ℕ) → j < size →
    get_or (take size (drop from (drop first out))) j 0 ≡ get_or out (first + from + j) 0
in_piece size first from j out low =
    let e : first + (from + j) ≡ first + from + j = omega arith in
    get_or-take size (drop from (drop first out)) j 0 low ∙ get_or-drop from (drop first out) j 0
    ∙ get_or-drop first out (from + j) 0 ∙ ap (λ i. get_or out i 0) e

-- a place of a piece is one of its items, if it is a place of the list
in_length : (size first from j : ℕ) (out : List ℕ) → j < size → first + from + j < length out →
    j < length (take size (drop from (drop first out)))
in_length size first from j out low inside = omega (
  arith,
  length-take size (drop from (drop first out)),
  length-drop from (drop first out),
  length-drop first out,
)

-- the part of a list that is after the items that were converted first
pub after_begun : (first : ℕ) (xs ys : List ℕ) → length xs ≡ first → drop first (xs ++ ys) ≡ ys
after_begun first xs ys long = ap (λ n. drop n (xs ++ ys)) (sym long) ∙ drop-append_seam xs ys

module _ (journal : Journal) (clock : ClockId) (fronts stamps : List ℕ) where
  abbrev pub IsDone : List ℕ → ℕ → Type 0
  IsDone out k = item_of journal clock fronts stamps k ≡ Ok (pos (get_or out k 0))

  -- the items that were converted first
  pub begun : (first : ℕ) (out xs ys : List ℕ) → length xs ≡ first → xs ≡ take first out →
      (k : ℕ) → k < first → IsDone out k → IsDone (xs ++ ys) k
  begun first out xs ys long is_front k early done =
      let low : k < length xs = omega arith in
      done ∙ ap (λ v. Ok (pos v)) (sym (get_or_append_left xs ys 0 k low
      ∙ ap (λ zs. get_or zs k 0) is_front ∙ get_or-take first out k 0 early))

  -- the items of a piece without the mark
  unmarked_done : (size first n : ℕ) (out : List ℕ) → 0 < size →
      ArePieces size first journal clock fronts stamps (drop first out) →
      first + n * size < length out → get_or out (first + n * size) 0 < refused_mark →
      (j : ℕ) → j < size → first + n * size + j < length out → IsDone out (first + n * size + j)
  unmarked_done size first n out filled pieces low unmarked j until inside =
      let from = n * size in
      let zero : first + from + 0 ≡ first + from = omega arith in
      let leads = in_piece size first from 0 out filled ∙ ap (λ i. get_or out i 0) zero in
      let here : from < length (drop first out) = omega (arith, low, length-drop first out) in
      pieces n here (subst (λ w. w < refused_mark) (sym leads) unmarked) j
      (in_length size first from j out until inside)
      ∙ ap (λ v. Ok (pos v)) (in_piece size first from j out until)

  -- the items before a piece, and the items of the piece
  pub pieces_done : (size first n at : ℕ) (out : List ℕ) → at ≡ first + n * size → 0 < size →
      ArePieces size first journal clock fronts stamps (drop first out) →
      at < length out → get_or out at 0 < refused_mark →
      ((k : ℕ) → k < length out → k < at → IsDone out k) →
      (k : ℕ) → k < length out → k < at + size → IsDone out k
  pieces_done size first n at out begins filled pieces low unmarked before k inside early =
      elim (cases_lt k at) [
        | inl done ↦ before k inside done
        | inr late ↦
            let place = first + n * size in
            let e : place + (k - place) ≡ k = omega (arith, begins) in
            subst (IsDone out) e
            (unmarked_done size first n out filled pieces (subst (λ a. a < length out) begins low)
            (subst (λ a. get_or out a 0 < refused_mark) begins unmarked) (k - place)
            (omega (arith, begins)) (omega (arith, begins)))
      ]
