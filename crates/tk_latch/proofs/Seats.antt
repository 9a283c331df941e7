-- A reader may get the writer's knowledge, and the writer may note a reader's: both keep the rule.
use Rattle.std.proofs.Common.{◌≡◌, ℕ, List, [], ◌∷◌, ◌++◌, set, refl, sym, ap, ◌∙◌, subst, ⊎_elim}
use mathlib.Core.Option.{some, none}
use lib.ListN.{get_elem?}
use Rattle.atomic_table.specs.Table.{step, keeps, Allows, Splits, Joins}
use Rattle.atomic_table.proofs.Lists.{at_snoc, set_again, set_else}
use Rattle.tk_clock.proofs.Lists.{each_after}
use Rattle.tk_latch.specs.declared.rule.History.{History}
use Rattle.tk_latch.specs.declared.rule.View.{View}
use Rattle.tk_latch.specs.declared.rule.Role.{Role}
use Rattle.tk_latch.specs.declared.rule.Role.TheVariants.{Noting}
use Rattle.tk_latch.specs.Publications.{IsBeginning}
use Rattle.tk_latch.specs.Rule.{Latched}
use Rattle.tk_latch.specs.Steps.{Seated, compared}
use Rattle.tk_latch.specs.Views.{resting, copying, noting, spent}
use Rattle.tk_latch.proofs.Publications.{begins_self}
use Rattle.tk_latch.proofs.Keeping.{IsKnown, history_of, known_of, unmoved, with_views}

-- the writer's seat can be split into itself and a reader's seat
pub hands : (id : ℕ) (view : View) (history : History) → view ≡ copying history 10 →
    Splits Latched id view view (resting view.history [])
hands id view history is s r at =
    let known = known_of s r id view (copying history 10) at is in
    let same : view.history ≡ r.history = ap history_of is ∙ known.1 in
    let new = resting view.history [] in
    let mine = subst (λ h. IsBeginning h r.history) (sym same) (begins_self r.history) in
    with_views s r (set s.views id view ++ new ∷ []) (λ seat u e. ⊎_elim
    (λ h. r.each seat u (subst (λ l. get_elem? l seat ≡ some u) (set_again s.views id view at) h))
    (λ (t : new ≡ u). subst (λ x. IsKnown s r seat x) t mine)
    (at_snoc (set s.views id view) new u seat e))

-- the writer takes in a reader's knowledge
pub notes : (id : ℕ) (view : View) (other : ℕ) (reader : View) (history note : History)
    (found : List ℕ) → view ≡ copying history 10 →
    reader ≡ resting note found → Joins Latched id view other reader
    (noting view.history reader.history) spent
notes id view other reader history note found is there s r at apart from =
    let known = known_of s r id view (copying history 10) at is in
    let w = noting view.history reader.history in
    let here = sym (set_else s.views id other w apart) ∙ from in
    let begins = known_of s r other reader (resting note found) here there in
    let mine : IsKnown s r id w = (
      known.0,
      ap history_of is
          ∙ known.1,
      known.2,
      subst (λ h. IsBeginning h r.history)
          (sym (ap history_of there)) begins,
    ) in
    with_views s r (set (set s.views id w) other spent)
    (each_after (IsKnown s r) (set s.views id w) other spent tt
    (λ seat x _ e. each_after (IsKnown s r) s.views id w mine (λ i y _ e'. r.each i y e') seat x e))

abbrev note_by : Role → History
note_by (Noting note) = note
note_by _ = record { counter = record { bits = 0; mult = 0; shift = 0 }; list = [] }

-- the note is a beginning of the writer's history
pub compares : (slots id : ℕ) (me : Seated) (history note : History) → me.0 ≡ noting history note →
    Allows Latched slots id me 0 (λ n. n) (compared (step slots 0 0 0 none) me)
compares slots id me history note is s r _ at _ =
    let known = known_of s r id me.0 (noting history note) at is in
    let w = copying history 10 in
    let begins : IsBeginning note history =
    subst (λ h. IsBeginning note h) (sym known.1) known.3 in (
      w,
      keeps,
      tt,
      unmoved s r 0 id me.1 w (known.0, known.1, known.2),
      λ history' note' is'. let same = sym is ∙ is' in
          subst (λ (t : History × History). (w ≡ copying t.0 10) × IsBeginning t.1 t.0)
          (λ i. (ap history_of same i, ap (λ (v : View). note_by v.role) same i)) (refl, begins),
    )
