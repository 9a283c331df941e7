-- The values of records, parsed one after the other and appended to the earlier ones.
use Rattle.std.proofs.Common.{◌≡◌, ◌∙◌, ◌+◌, ◌++◌, ℕ, List, [], ◌∷◌, Result, Ok, Err, refl, sym, ap, append_assoc}
use Rattle.std.proofs.lemmas.List.{append-nil}
use Rattle.tk_script.specs.Field.{◌>>=◌}
use Rattle.tk_script.specs.Records.{each}
use Rattle.tk_script.specs.declared.script_error.ScriptError.{ScriptError}

-- the parser of a record, by the record's number
abbrev pub Parser : Type 0 → Type 0
Parser A = ℕ → List (List ℕ) → Result A ScriptError

-- the result of the whole reading is `before`, followed by the values of the remaining records, the
-- first of which is the record `n`
abbrev pub Goes : {A : Type 0} → Parser A → Result (List A) ScriptError → List A → ℕ →
    List (List (List ℕ)) → Type 0
Goes parse whole before n left = whole ≡ (each parse n left >>= λ rest. Ok (before ++ rest))

-- the same fact for an equal list of records
goes-at : {A : Type 0} (parse : Parser A) (whole : Result (List A) ScriptError) (before : List A)
    (n : ℕ) (left left' : List (List (List ℕ)))
    → Goes parse whole before n left → left ≡ left' → Goes parse whole before n left'
goes-at parse whole before n left left' g s = g
    ∙ ap (λ (rs : List (List (List ℕ))). each parse n rs >>= λ rest. Ok (before ++ rest)) s

-- nothing was parsed yet
pub goes-start : {A : Type 0} (parse : Parser A) (n : ℕ) (left : List (List (List ℕ))) →
    Goes parse (each parse n left) [] n left
goes-start {A} parse n left = by (each parse n left)
  where
    by : (rest : Result (List A) ScriptError) → rest ≡ (rest >>= λ xs. Ok ([] ++ xs))
    by (Ok xs) = refl
    by (Err e) = refl

-- one more record was parsed
pub goes-more : {A : Type 0} (parse : Parser A) (whole : Result (List A) ScriptError)
    (before before' : List A) (n : ℕ) (left : List (List (List ℕ))) (first : List (List ℕ))
    (later : List (List (List ℕ))) (value : A)
    → Goes parse whole before n left → left ≡ first ∷ later → parse n first ≡ Ok value →
    before' ≡ before ++ value ∷ []
    → Goes parse whole before' (n + 1) later
unfolding each
goes-more {A} parse whole before before' n left first later value g s e f =
    rw f (goes-at parse whole before n left (first ∷ later) g s ∙ rw e (by (each parse (n + 1) later)))
  where
    by : (rest : Result (List A) ScriptError) →
        ((rest >>= λ xs. Ok (value ∷ xs)) >>= λ xs. Ok (before ++ xs))
        ≡ (rest >>= λ xs. Ok ((before ++ value ∷ []) ++ xs))
    by (Ok xs) = ap Ok (sym (append_assoc before (value ∷ []) xs))
    by (Err e) = refl

-- a faulty record ends the reading
pub goes-fault : {A : Type 0} (parse : Parser A) (whole : Result (List A) ScriptError) (before : List A)
    (n : ℕ) (left : List (List (List ℕ))) (first : List (List ℕ)) (later : List (List (List ℕ)))
    (fault : ScriptError)
    → Goes parse whole before n left → left ≡ first ∷ later → parse n first ≡ Err fault →
    whole ≡ Err fault
unfolding each
goes-fault parse whole before n left first later fault g s e =
    goes-at parse whole before n left (first ∷ later) g s ∙ rw e refl

-- no record remains
pub goes-end : {A : Type 0} (parse : Parser A) (whole : Result (List A) ScriptError) (before : List A)
    (n : ℕ) (left : List (List (List ℕ)))
    → Goes parse whole before n left → left ≡ [] → whole ≡ Ok before
unfolding each
goes-end parse whole before n left g s = goes-at parse whole before n left [] g s
    ∙ ap Ok (append-nil before)
