-- Lists whose items are related pairwise.
use Rattle.std.proofs.Common.{◌≡◌, ℕ, zero, suc, ◌<◌, ◌+◌, List, [], ◌∷◌, length, get_or, set, take, refl, sym, ap, subst, arith, ◌++◌}
use Rattle.std.specs.List.{AllZip}
use Rattle.std.proofs.lemmas.List.{take_more}
use Rattle.std.specs.Prelude.{Err}
use Rattle.std.specs.Global.{Vec}
use Rattle.tk_script.specs.declared.script_error.ScriptError.TheVariants.{Memory}
use Rattle.tk_replay.specs.Many.{AreOutcomes, IsOutcome, Outcome}

module _ {A B : Type 0} (R : A → B → Type 0) where
  -- both lists have the same length
  all_zip-length : (xs : List A) (ys : List B) → AllZip R xs ys → length xs ≡ length ys
  all_zip-length [] [] all = refl
  all_zip-length [] (y ∷ ys) all = absurd all
  all_zip-length (x ∷ xs) [] all = absurd all
  all_zip-length (x ∷ xs) (y ∷ ys) all = ap suc (all_zip-length xs ys all.1)

  -- the item at a place is replaced by another one that is also related to its partner
  all_zip-set : (xs : List A) (ys : List B) (place : ℕ) (x : A) (y : B) → AllZip R xs ys →
      x ≡ get_or xs place x → R x y →
      AllZip R xs (set ys place y)
  all_zip-set [] [] place x y all here fits = tt
  all_zip-set [] (z ∷ ys) place x y all here fits = absurd all
  all_zip-set (w ∷ xs) [] place x y all here fits = absurd all
  all_zip-set (w ∷ xs) (z ∷ ys) zero x y all here fits =
      (subst (λ (v : A). R v y) here fits, all.1)
  all_zip-set (w ∷ xs) (z ∷ ys) (suc place) x y all here fits =
      (all.0, all_zip-set xs ys place x y all.1 here fits)

  -- one more pair
  pub all_zip-push : (xs : List A) (ys : List B) (x : A) (y : B) → AllZip R xs ys → R x y →
      AllZip R (xs ++ x ∷ []) (ys ++ y ∷ [])
  all_zip-push [] [] x y all fits = (fits, tt)
  all_zip-push [] (z ∷ ys) x y all fits = absurd all
  all_zip-push (w ∷ xs) [] x y all fits = absurd all
  all_zip-push (w ∷ xs) (z ∷ ys) x y all fits = (all.0, all_zip-push xs ys x y all.1 fits)

-- there is one outcome for each script
pub outcomes_length : (scripts : List (Vec ℕ)) (outcomes : List Outcome) →
    AreOutcomes scripts outcomes → length scripts ≡ length outcomes
outcomes_length scripts outcomes all = all_zip-length IsOutcome scripts outcomes all

-- the outcome of a script replaces the one at its place
pub outcome_set : (scripts : List (Vec ℕ)) (outcomes : List Outcome)
    (place : ℕ) (script : Vec ℕ) (outcome : Outcome) →
    AreOutcomes scripts outcomes → script ≡ get_or scripts place script →
    IsOutcome script outcome →
    AreOutcomes scripts (set outcomes place outcome)
outcome_set scripts outcomes place script outcome all here fits =
    all_zip-set IsOutcome scripts outcomes place script outcome all here fits

-- an allocation failure is a placeholder for one more script's outcome
pub outcome_waits : (scripts : List (Vec ℕ)) (outcomes : List Outcome)
    (count : ℕ) → count < length scripts → AreOutcomes (take count scripts) outcomes →
    AreOutcomes (take (count + 1) scripts) (outcomes ++ Err Memory ∷ [])
outcome_waits [] outcomes count below all = absurd (omega (arith, below))
outcome_waits (first ∷ scripts) outcomes count below all =
    let whole = first ∷ scripts in
    subst (λ (l : List (Vec ℕ)). AreOutcomes l (outcomes ++ Err Memory ∷ []))
    (sym (take_more whole count first below))
    (all_zip-push IsOutcome (take count whole) outcomes (get_or whole count first) (Err Memory)
    all tt)
