-- A word that already has its new value counts as stored.
use Rattle.std.proofs.Common.{◌≡◌, ℕ, ◌+◌, ◌-◌, ◌<◌, List, get_or, refl, sym, ap, ◌∙◌, subst}
use mathlib.Core.Logic.{dite}
use mathlib.Core.Option.{none}
use native.Mathlib.Decide.{ℕ_discrete}
use Rattle.atomic_table.specs.Table.{State, Me, step, stepped, Allows}
use Rattle.crossbeam_utils.proofs.SeqKeeps.{peeks, puts}
use Rattle.crossbeam_utils.specs.Seq.{Fresh, Versioned}
use Rattle.crossbeam_utils.specs.declared.atomic.seq_cell.Doing.{Doing}
use Rattle.crossbeam_utils.specs.declared.atomic.seq_cell.Stage.{Stage}
use Rattle.crossbeam_utils.specs.declared.atomic.seq_cell.Stage.TheVariants.{Writing}
use Rattle.tk_page.specs.Stored.{compared, one_more, wanted}
use Rattle.tk_page.specs.declared.view.View.{View}
use Rattle.tk_page.specs.Views.{Kept}

-- the rule of the page's cell
abbrev Rule : State (List ℕ) (Doing (List ℕ) View) → Type 0
Rule = Versioned (λ (x : List ℕ). x) 8 Kept

module _ (slots id : ℕ) (me : Me (List ℕ) (Doing (List ℕ) View)) (at done : ℕ) (old new : List ℕ) (is : me.0.stage ≡ Writing at old new done) (inside : done < 8) where
  pub compares : Allows Rule slots id me (done + 1) (λ x. x) (compared (step slots (done + 1) 0 0 none) me)
  compares s rule wide there small =
      let word = get_or s.words (done + 1) 0 in
      let next = get_or new done 0 in
      dite (ℕ_discrete word next)
      (λ hit. let t = puts (λ (x : List ℕ). x) 8 Kept slots id me at done old new next is inside refl s rule wide there small in (
        t.0,
        t.1,
        t.2,
        subst (λ (z : ℕ). Rule (stepped s (done + 1) z id me.1 t.0 t.1)) (sym hit) t.3,
        (
          t.4.0,
          (λ _. t.4.1 at old new done is ∙ ap one_more (sym is)),
          (λ other. absurd (other (hit ∙ ap wanted (sym is)))),
        ),
      ))
      (λ miss. let t = peeks (λ (x : List ℕ). x) 8 Kept slots id me done inside s rule wide there small in
      let fresh = subst (λ (z : Stage (List ℕ)). Fresh (λ x. word ≡ get_or x ((done + 1) - 1) 0) z t.0.stage) is t.4.1 in (
        t.0,
        t.1,
        t.2,
        t.3,
        (t.4.0, (λ found. absurd (miss (found ∙ ap wanted is))), (λ _. fresh.0 ∙ sym is)),
      ))
