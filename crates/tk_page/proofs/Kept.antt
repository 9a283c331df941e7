-- What a step on the cell may ask of its rule, after steps that change no knowledge.
use Rattle.std.proofs.Common.{◌≡◌, ℕ, List, sym, subst}
use Rattle.crossbeam_utils.specs.Register.{Turns, TurnsAt}
use Rattle.tk_page.specs.declared.view.View.{View}
use Rattle.tk_page.specs.Views.{Kept}

module _ (then : View → List ℕ → List ℕ → View → Type 0) (id id' : ℕ) (v v' : View) (same_id : id' ≡ id) (same : v' ≡ v) where
  pub still_turns : (f : List ℕ → List ℕ) → Turns Kept id v f then → Turns Kept id' v' f then
  still_turns f = subst (λ (z : ℕ × View). Turns Kept z.0 z.1 f then)
      (λ i. (sym same_id i, sym same i))

  pub still_turns_at : (f : List ℕ → List ℕ) (old : List ℕ)
      → Turns Kept id v f then → TurnsAt Kept id' v' old (f old) then
  still_turns_at f old turns = still_turns f turns old

  pub still_at : (old new : List ℕ) → TurnsAt Kept id v old new then
      → TurnsAt Kept id' v' old new then
  still_at old new = subst (λ (z : ℕ × View). TurnsAt Kept z.0 z.1 old new then)
      (λ i. (sym same_id i, sym same i))
