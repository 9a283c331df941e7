-- The beginning of a list that grew twice.
use Rattle.std.proofs.Common.{◌≡◌, ◌∙◌, ℕ, List, ◌++◌, length, take, drop, sym, ap}
use Rattle.std.proofs.Math.Seq.{take-append_seam}
use Rattle.std.proofs.lemmas.List.{append_assoc, take-append-drop}

-- the beginning from before the first growth is still there after the second one
pub take-before : (old mid new more : List ℕ) → mid ≡ old ++ more → take (length mid) new ≡ mid →
    take (length old) new ≡ old
take-before old mid new more e h =
    let split : new ≡ mid ++ drop (length mid) new =
    sym (rw h at (take-append-drop (length mid) new)) in
    let whole : new ≡ old ++ (more ++ drop (length mid) new) = split
    ∙ ap (λ (xs : List ℕ). xs ++ drop (length mid) new) e
    ∙ append_assoc old more (drop (length mid) new) in
    rw whole (take-append_seam old (more ++ drop (length mid) new))
