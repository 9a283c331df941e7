-- The items of a stamp file, read one after the other.
use Rattle.std.proofs.Common.{◌≡◌, ◌∙◌, ◌+◌, ◌++◌, ℕ, List, [], ◌∷◌, length, map, Ok, Err, inl, inr, refl, sym, ap}
use Rattle.std.specs.Prelude.{Option, Some, None, IsSome, unwrap_or}
use Rattle.std.proofs.lemmas.List.{map_push, length_push}
use Rattle.tk_script.specs.Cursor.{NextFails}
use Rattle.tk_script.specs.Grammar.{Fails}
use Rattle.tk_script.specs.Records.{each}
use Rattle.tk_script.specs.Stamps.{Items, items_of, stamp_of, items_in}
use Rattle.tk_script.specs.declared.script_error.ScriptError.{ScriptError}
use Rattle.tk_script.proofs.EachLemmas.{Goes, goes-fault}
use Rattle.tk_script.proofs.GrammarLemmas.{fails-from}

-- the remaining records are known
pub left-remaining : (left : Option (List (List (List ℕ)))) → IsSome left →
    left ≡ Some (unwrap_or left [])
left-remaining (Some records) known = refl
left-remaining None known = cc known

-- both lists have one more item
pub paired-more : (xs ys xs' ys' : List ℕ) (x y : ℕ)
    → length xs ≡ length ys → xs' ≡ xs ++ x ∷ [] → ys' ≡ ys ++ y ∷ [] → length xs' ≡ length ys'
paired-more xs ys xs' ys' x y e f g = rw (f, g) (length_push xs x ∙ ap (λ n. n + 1) e
    ∙ sym (length_push ys y))

-- the items of one more pair, in two lists
pub items-more : (pairs : List (ℕ × ℕ)) (fronts stamps fronts' stamps' : List ℕ) (p : ℕ × ℕ)
    → items_of pairs ≡ record { fronts = fronts; stamps = stamps }
    → fronts' ≡ fronts ++ p.0 ∷ [] → stamps' ≡ stamps ++ p.1 ∷ []
    → items_of (pairs ++ p ∷ []) ≡ record { fronts = fronts'; stamps = stamps' }
items-more pairs fronts stamps fronts' stamps' p e f g =
    let left : map (λ (q : ℕ × ℕ). q.0) pairs ≡ fronts = ap (λ (i : Items). i.fronts) e in
    let right : map (λ (q : ℕ × ℕ). q.1) pairs ≡ stamps = ap (λ (i : Items). i.stamps) e in
    let more : map (λ (q : ℕ × ℕ). q.0) (pairs ++ p ∷ []) ≡ fronts' = map_push _ pairs p
    ∙ ap (λ (xs : List ℕ). xs ++ p.0 ∷ []) left ∙ sym f in
    let more' : map (λ (q : ℕ × ℕ). q.1) (pairs ++ p ∷ []) ≡ stamps' = map_push _ pairs p
    ∙ ap (λ (xs : List ℕ). xs ++ p.1 ∷ []) right ∙ sym g in
    rw (more, more') refl

-- all records were read
pub items-all : (records : List (List (List ℕ))) (pairs : List (ℕ × ℕ)) (items : Items)
    → each stamp_of 1 records ≡ Ok pairs → items_of pairs ≡ items → items_in 1 records ≡ Ok items
items-all records pairs items e f = rw e (ap Ok f)

-- a faulty record ends the reading
pub items-fault : (records : List (List (List ℕ))) (fault : ScriptError)
    → each stamp_of 1 records ≡ Err fault → items_in 1 records ≡ Err fault
items-fault records fault e = rw e refl

-- a record that cannot be parsed ends the reading, and so does an allocation failure
pub items-fails : (records left : List (List (List ℕ))) (before : List (ℕ × ℕ)) (n : ℕ)
    (fault : ScriptError)
    → Goes stamp_of (each stamp_of 1 records) before n left → NextFails (stamp_of n) left fault →
    Fails fault (items_in 1 records)
items-fails records left before n fault goes (inl memory) = rw memory tt
items-fails records left before n fault goes (inr (first, later, split, e)) =
    fails-from fault (items_in 1 records) (items-fault records fault
    (goes-fault stamp_of (each stamp_of 1 records) before n left first later fault goes split e))
