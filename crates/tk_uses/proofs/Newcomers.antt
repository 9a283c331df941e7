-- The callers of a keeper that was just opened.
use Rattle.std.proofs.Common.{◌≡◌, ℕ, zero, suc, List, [], ◌∷◌, ◌++◌, length, Some, slice_get, sym, ap, ◌∙◌, ⊎_elim}
use Rattle.tk_clock.specs.Journal.{Journal}
use Rattle.tk_clock.proofs.Append.{slice_get-push}
use Rattle.tk_now.proofs.Lists.{get_first, get_push}
use Rattle.tk_shared.specs.Callers.{Known, IsKnownBy, newcomer, newcomers}
use Rattle.tk_shared.specs.Opening.{Start}

module _ (start : Start) where
  abbrev all : ℕ → List Known
  all count = newcomers start.latch start.notice start.journal count

  abbrev one_of : ℕ → Known
  one_of id = newcomer start.latch start.notice start.journal id

  seen_at : (n i : ℕ) (k : Known) → slice_get (all n) i ≡ Some k → k.seen ≡ start.journal
  seen_at zero i k at = absurd (cc (at))
  seen_at (suc n) i k at = ⊎_elim (λ old. seen_at n i k old)
      (λ (new : (i ≡ length (all n)) × (one_of n ≡ k)). ap (λ (x : Known). x.seen) (sym new.1))
      (get_push (all n) (one_of n) i k at)

  -- the last but one has seen the clocks as they were opened
  pub seen_before : (n : ℕ) (rest : List Known) (one two : Known) →
      newcomers start.latch start.notice start.journal n ≡ (rest ++ one ∷ []) ++ two ∷ [] →
      one.seen ≡ start.journal
  seen_before n rest one two is =
      let first = get_first (rest ++ one ∷ []) (all n) (two ∷ [], sym is) (length rest) one
      (slice_get-push rest one) in
      seen_at n (length rest) one first

  -- and so has the last
  pub seen_last : (n : ℕ) (rest : List Known) (one : Known) →
      newcomers start.latch start.notice start.journal n ≡ rest ++ one ∷ [] →
      one.seen ≡ start.journal
  seen_last n rest one is =
      seen_at n (length rest) one
      (ap (λ (l : List Known). slice_get l (length rest)) is ∙ slice_get-push rest one)

-- a caller sees the clocks as they were opened, if one that saw them so gave a command and was
-- followed
pub opened_as : (one first commanded other follower later : Known) →
    first.seen.opening ≡ one.seen.opening → IsKnownBy first commanded → IsKnownBy commanded other →
    follower.seen ≡ other.seen → later.seen.opening ≡ follower.seen.opening →
    later.seen.opening ≡ one.seen.opening
opened_as one first commanded other follower later asked gave told same after =
    after ∙ ap (λ (j : Journal). j.opening) same ∙ told.seen.0 ∙ gave.seen.0 ∙ asked
