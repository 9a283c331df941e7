-- Lists whose items are related place by place.
use Rattle.std.proofs.Common.{◌≡◌, ℕ, ◌<◌, ◌+◌, List, [], ◌∷◌, ◌++◌, length, get_or, take, sym, subst}
use Rattle.std.specs.List.{AllZip}
use Rattle.std.proofs.lemmas.List.{take_more}
use Rattle.tk_replay.proofs.Outcomes.{all_zip-push}

module _ {A B : Type 0} (R : A → B → Type 0) where
  -- the first items of a list, and one more
  pub all_zip-more : (xs : List A) (count : ℕ) (x : A) (ys zs : List B) (y : B) →
      count < length xs → AllZip R (take count xs) ys → R (get_or xs count x) y →
      zs ≡ ys ++ y ∷ [] →
      AllZip R (take (count + 1) xs) zs
  all_zip-more xs count x ys zs y below all fits pushed =
      let here = get_or xs count x in
      subst (λ (l : List A). AllZip R l zs) (sym (take_more xs count x below))
      (subst (λ (l : List B). AllZip R (take count xs ++ here ∷ []) l) (sym pushed)
      (all_zip-push R (take count xs) ys here y all fits))
