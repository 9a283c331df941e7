-- The views of the passes to a page, when one of them changes.
use Rattle.std.proofs.Common.{◌≡◌, ◌≢◌, ℕ, zero, suc, ◌<◌, List, [], ◌∷◌, ◌++◌, length, set, true, false, true≢false, sym, ap, ◌∙◌, subst, ⊎_elim, arith}
use mathlib.Core.Option.{some, some-ne-none, some-injective}
use lib.ListN.{get_elem?}
use Rattle.atomic_table.proofs.Lists.{at_set, at_snoc}
use Rattle.tk_clock.specs.declared.command.Entry.{Entry}
use Rattle.tk_clock.specs.Journal.{Journal, followed_by}
use Rattle.tk_page.specs.declared.view.View.{View}
use Rattle.tk_page.specs.declared.view.View.TheVariants.{Fresh, Spent, Viewing, Publishing, Comparing}
use Rattle.tk_page.specs.Views.{is_fresh, Shows, Fits, Kept}
use Rattle.tk_page.proofs.Beginnings.{begins-followed_by}

pub not_fresh : false ≡ true → ⊥
not_fresh e = true≢false (sym e)

in_range : (views : List View) (by : ℕ) (view : View) → get_elem? views by ≡ some view →
    by < length views
in_range [] by view at = absurd (some-ne-none view (sym at))
in_range (v ∷ views) zero view at = omega arith
in_range (v ∷ views) (suc by) view at = let low = in_range views by view at in omega arith

-- if there is one pass, any two are the same
pub only_one : (views : List View) (one other : ℕ) (v u : View) → length views ≡ 1 →
    get_elem? views one ≡ some v → get_elem? views other ≡ some u → one ≡ other
only_one views one other v u single at there =
    let low = in_range views one v at in
    let low' = in_range views other u there in
    omega arith

-- if one pass is not fresh, no pass is fresh
pub none_fresh : (words : List ℕ) (views : List View) (by : ℕ) (view : View) → Kept words views →
    get_elem? views by ≡ some view → is_fresh view ≡ false →
    (j : ℕ) (u : View) → get_elem? views j ≡ some u → is_fresh u ≡ true → ⊥
none_fresh words views by view kept at old j u there fresh =
    let same : by ≡ j = only_one views by j view u (kept.alone j u there fresh) at there in
    let here : some u ≡ some view = sym there ∙ ap (λ i. get_elem? views i) (sym same) ∙ at in
    not_fresh (sym (ap is_fresh (some-injective _ _ here) ∙ old) ∙ fresh)

-- a fact about every pass, after the view of one has changed
pub after_set : (P : ℕ → View → Type 0) (views : List View) (by : ℕ) (view : View) →
    ((j : ℕ) (u : View) → j ≢ by → get_elem? views j ≡ some u → P j u) → P by view →
    (j : ℕ) (u : View) → get_elem? (set views by view) j ≡ some u → P j u
after_set P views by view others mine j u there =
    ⊎_elim
    (λ (x : (j ≡ by) × (view ≡ u)). subst (λ (y : ℕ × View). P y.0 y.1) (λ i. (sym x.0 i, x.1 i))
    mine)
    (λ (x : (j ≢ by) × (get_elem? views j ≡ some u)). others j u x.0 x.1)
    (at_set views by j view u there)

-- a view that fits a journal fits it with one more entry, except the publisher's
pub fits_longer : (journal : Journal) (entry : Entry) (seat by : ℕ) (view : View) → by ≢ seat →
    Fits journal seat by view → Fits (followed_by journal entry) seat by view
fits_longer journal entry seat by Fresh apart fits = tt
fits_longer journal entry seat by Spent apart fits = tt
fits_longer journal entry seat by (Viewing count seen) apart fits =
    begins-followed_by seen journal entry fits
fits_longer journal entry seat by (Publishing own) apart fits = absurd (apart fits.0)
fits_longer journal entry seat by (Comparing own noted) apart fits = absurd (apart fits.0)

-- one view changes, and the words become those of a journal that all views fit
pub changed : (words new : List ℕ) (views : List View) (by : ℕ) (view view' : View)
    (journal : Journal) (seat : ℕ) →
    Kept words views → get_elem? views by ≡ some view → is_fresh view ≡ false →
    is_fresh view' ≡ false → Shows new journal →
    ((j : ℕ) (u : View) → j ≢ by → get_elem? views j ≡ some u → Fits journal seat j u) →
    Fits journal seat by view' →
    Kept new (set views by view')
changed words new views by view view' journal seat kept at old old' shown others mine = record {
  published = journal;
  seat = seat;
  shown = shown;
  each = after_set (Fits journal seat) views by view' others mine;
  alone = after_set (λ j u. is_fresh u ≡ true → length (set views by view') ≡ 1) views by view'
      (λ j u apart there fresh. absurd (none_fresh words views by view kept at old j u there fresh))
      (λ fresh. absurd (not_fresh (sym old' ∙ fresh)));
}

-- one view is split in two, and both halves fit
pub cut : (words : List ℕ) (views : List View) (by : ℕ) (view left right : View) →
    Kept words views → get_elem? views by ≡ some view → is_fresh view ≡ false →
    is_fresh left ≡ false → is_fresh right ≡ false →
    ((journal : Journal) (seat : ℕ) → Fits journal seat by view → Fits journal seat by left) →
    ((journal : Journal) (seat j : ℕ) → Fits journal seat by view → Fits journal seat j right) →
    Kept words (set views by left ++ right ∷ [])
cut words views by view left right kept at old old_left old_right lefts rights =
    let mine = kept.each by view at in
    let fits = after_set (Fits kept.published kept.seat) views by left
    (λ j u apart there. kept.each j u there) (lefts kept.published kept.seat mine) in
    let none = after_set (λ j u. is_fresh u ≡ true → ⊥) views by left
    (λ j u apart there. none_fresh words views by view kept at old j u there)
    (λ fresh. not_fresh (sym old_left ∙ fresh)) in
    record {
      published = kept.published;
      seat = kept.seat;
      shown = kept.shown;
      each = λ j u at'.
          ⊎_elim (fits j u) (λ (same : right ≡ u). subst (Fits kept.published kept.seat j) same
          (rights kept.published kept.seat j mine))
          (at_snoc (set views by left) right u j at');
      alone = λ j u at' fresh. absurd
          (⊎_elim (λ there. none j u there fresh)
          (λ (same : right ≡ u). not_fresh (sym old_right ∙ ap is_fresh same ∙ fresh))
          (at_snoc (set views by left) right u j at'));
    }

-- one view takes over the knowledge of another, which is spent
pub merged : (words : List ℕ) (views : List View) (by : ℕ) (view : View) (other : ℕ)
    (view' both : View) →
    Kept words views → get_elem? views by ≡ some view → other ≢ by →
    get_elem? (set views by both) other ≡ some view' →
    is_fresh view ≡ false → is_fresh both ≡ false →
    ((journal : Journal) (seat : ℕ) → Fits journal seat by view → Fits journal seat other view' →
    Fits journal seat by both) →
    Kept words (set (set views by both) other Spent)
merged words views by view other view' both kept at apart there old old_both fits =
    let from = ⊎_elim (λ (t : (other ≡ by) × (both ≡ view')). absurd (apart t.0))
    (λ (t : (other ≢ by) × (get_elem? views other ≡ some view')). t.1)
    (at_set views by other both view' there) in
    let mine = fits kept.published kept.seat (kept.each by view at) (kept.each other view' from) in
    let each = after_set (Fits kept.published kept.seat) views by both
    (λ j u _ at'. kept.each j u at') mine in
    let none = after_set (λ j u. is_fresh u ≡ true → ⊥) views by both
    (λ j u _ at'. none_fresh words views by view kept at old j u at')
    (λ fresh. not_fresh (sym old_both ∙ fresh)) in
    let none' = after_set (λ j u. is_fresh u ≡ true → ⊥) (set views by both) other Spent
    (λ j u _ at'. none j u at') not_fresh in
    record {
      published = kept.published;
      seat = kept.seat;
      shown = kept.shown;
      each = after_set (Fits kept.published kept.seat) (set views by both) other Spent
          (λ j u _ at'. each j u at') tt;
      alone = λ j u at' fresh. absurd (none' j u at' fresh);
    }
