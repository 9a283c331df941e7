-- The steps keep the rule of the page.
use Rattle.std.proofs.Common.{◌≡◌, ◌≢◌, ℕ, zero, suc, ◌+◌, List, [], ◌∷◌, length, set, true, refl, sym, subst}
use mathlib.Core.Option.{some, some-ne-none, some-injective}
use lib.ListN.{get_elem?}
use Rattle.crossbeam_utils.specs.Register.{Turns, Forks, Merges}
use Rattle.tk_clock.specs.declared.command.Entry.{Entry}
use Rattle.tk_clock.specs.Journal.{Journal, followed_by}
use Rattle.tk_page.specs.declared.view.View.{View}
use Rattle.tk_page.specs.declared.view.View.TheVariants.{Fresh, Spent, Viewing, Publishing, Comparing}
use Rattle.tk_page.specs.History.{Begins, longer}
use Rattle.tk_page.specs.Views.{journal_of, noted_of, reads_of, is_fresh, Shows, Fits, Kept, Opened, Published, Seen, Compared, copy_of, longer_of, with_note}
use Rattle.tk_page.proofs.Beginnings.{begins-self, longer-begins}
use Rattle.tk_page.proofs.Views.{not_fresh, only_one, after_set, fits_longer, changed, cut, merged}

-- step 1: the cell is made, and its first pass is fresh
pub makes : (journal : Journal) (words : List ℕ) → Shows words journal → Kept words (Fresh ∷ [])
makes journal words shown = record {
  published = journal;
  seat = 0;
  shown = shown;
  each = one;
  alone = λ by view at fresh. refl;
}
  where
    one : (by : ℕ) (view : View) → get_elem? (Fresh ∷ []) by ≡ some view → Fits journal 0 by view
    one zero view at = subst (Fits journal 0 0) (some-injective _ _ at) tt
    one (suc by) view at = absurd (some-ne-none view (sym at))

-- step 1: the first pass becomes the publisher's
opens : (by : ℕ) (journal : Journal) (new : List ℕ) → Shows new journal →
    Turns Kept by Fresh (λ _. new) (Opened journal)
opens by journal new shown words views kept at =
    let view = Publishing journal in
    let single = kept.alone by Fresh at refl in
    let none : (P : ℕ → View → Type 0) (j : ℕ) (u : View) → j ≢ by → get_elem? views j ≡ some u →
    P j u =
    λ P j u apart there. absurd (apart (only_one views j by u Fresh single there at)) in (
      view,
      record {
        published = journal;
        seat = by;
        shown = shown;
        each = after_set (Fits journal by) views by view (none (Fits journal by)) (refl, refl);
        alone = after_set (λ j u. is_fresh u ≡ true → length (set views by view) ≡ 1) views by view
            (none (λ j u. is_fresh u ≡ true → length (set views by view) ≡ 1))
            (λ fresh. absurd (not_fresh fresh));
      },
      refl,
    )

-- step 2: the publisher publishes one more entry
publishes : (by : ℕ) (own noted : Journal) (entry : Entry) (new : List ℕ) →
    Shows new (followed_by own entry) →
    Turns Kept by (Comparing own noted) (λ _. new) (Published entry)
publishes by own noted entry new shown words views kept at =
    let view = Publishing (followed_by own entry) in
    let mine = kept.each by (Comparing own noted) at in
    let each = subst (λ (t : Journal × ℕ). (j : ℕ) (u : View) → get_elem? views j ≡ some u →
    Fits t.0 t.1 j u) (λ i. (sym mine.1 i, sym mine.0 i)) kept.each in (
      view,
      changed words new views by (Comparing own noted) view (followed_by own entry) by kept at refl
          refl shown (λ j u apart there. fits_longer own entry by j u apart (each j u there))
          (refl, refl),
      (refl, subst (Begins noted) (sym mine.1) mine.2),
    )

-- steps 3 and 4, of a viewer
reads : (by count : ℕ) (seen : Journal) → Turns Kept by (Viewing count seen) (λ x. x) Seen
reads by count seen words views kept at =
    let view = Viewing (count + 1) kept.published in (
      view,
      changed words words views by (Viewing count seen) view kept.published kept.seat kept at refl refl
          kept.shown (λ j u apart there. kept.each j u there) (begins-self kept.published),
      (refl, kept.each by (Viewing count seen) at, kept.shown),
    )

-- step 7: the publisher reads
compares : (by : ℕ) (own noted : Journal) → Turns Kept by (Comparing own noted) (λ x. x) Compared
compares by own noted words views kept at =
    let mine = kept.each by (Comparing own noted) at in
    let whole : kept.published ≡ own = sym mine.1 in (
      Publishing own,
      changed words words views by (Comparing own noted) (Publishing own) kept.published kept.seat
          kept at refl refl kept.shown (λ j u apart there. kept.each j u there) (mine.0, mine.1),
      (refl, subst (Begins noted) whole mine.2, subst (Shows words) whole kept.shown),
    )

-- step 5: a pass that knows a journal makes a viewer with the same knowledge
publisher_copies : (by : ℕ) (own : Journal) →
    Forks Kept by (Publishing own) (Publishing own) (Viewing 0 own)
publisher_copies by own words views kept at =
    cut words views by (Publishing own) (Publishing own) (Viewing 0 own) kept at refl refl refl
    (λ _ _ fits. fits)
    (λ journal seat j fits. subst (Begins own) fits.1 (begins-self own))

viewer_copies : (by count : ℕ) (seen : Journal) →
    Forks Kept by (Viewing count seen) (Viewing count seen) (Viewing 0 seen)
viewer_copies by count seen words views kept at =
    cut words views by (Viewing count seen) (Viewing count seen) (Viewing 0 seen) kept at refl refl refl
    (λ _ _ fits. fits) (λ _ _ _ fits. fits)

-- step 5: a viewer's knowledge goes to a new pass
viewer_leaves : (by count : ℕ) (seen : Journal) →
    Forks Kept by (Viewing count seen) Spent (Viewing count seen)
viewer_leaves by count seen words views kept at =
    cut words views by (Viewing count seen) Spent (Viewing count seen) kept at refl refl refl (λ _ _ _. tt)
    (λ _ _ _ fits. fits)

-- step 6: of two viewers
keeps_longer : (by count : ℕ) (one : Journal) (other more : ℕ) (two : Journal) →
    Merges Kept by (Viewing count one) other (Viewing more two)
    (Viewing (count + more) (longer one two)) Spent
keeps_longer by count one other more two words views kept at apart there =
    merged words views by (Viewing count one) other (Viewing more two)
    (Viewing (count + more) (longer one two)) kept at apart there refl refl
    (λ journal seat mine theirs. longer-begins one two journal mine theirs)

-- step 6: of a viewer by the publisher
notes : (by : ℕ) (own : Journal) (other count : ℕ) (seen : Journal) →
    Merges Kept by (Publishing own) other (Viewing count seen) (Comparing own seen) Spent
notes by own other count seen words views kept at apart there =
    merged words views by (Publishing own) other (Viewing count seen) (Comparing own seen) kept at apart
    there refl refl
    (λ journal seat mine theirs. (mine.0, mine.1, theirs))

-- the same steps for a pass whose view is known by an equation
pub opens_as : (by : ℕ) (view : View) (journal : Journal) (new : List ℕ) → view ≡ Fresh →
    Shows new journal →
    Turns Kept by view (λ _. new) (Opened journal)
opens_as by view journal new is shown =
    subst (λ (v : View). Turns Kept by v (λ _. new) (Opened journal)) (sym is)
    (opens by journal new shown)

pub publishes_as : (by : ℕ) (view : View) (entry : Entry) (new : List ℕ) →
    view ≡ Comparing (journal_of view) (noted_of view) →
    Shows new (followed_by (journal_of view) entry) →
    Turns Kept by view (λ _. new) (Published entry)
publishes_as by view entry new is shown =
    subst (λ (v : View). Turns Kept by v (λ _. new) (Published entry)) (sym is)
    (publishes by (journal_of view) (noted_of view) entry new shown)

pub reads_as : (by : ℕ) (view : View) → view ≡ Viewing (reads_of view) (journal_of view) →
    Turns Kept by view (λ x. x) Seen
reads_as by view is =
    subst (λ (v : View). Turns Kept by v (λ x. x) Seen) (sym is)
    (reads by (reads_of view) (journal_of view))

pub compares_as : (by : ℕ) (view : View) (own noted : Journal) → view ≡ Comparing own noted →
    Turns Kept by view (λ x. x) Compared
compares_as by view own noted is =
    subst (λ (v : View). Turns Kept by v (λ x. x) Compared) (sym is) (compares by own noted)

pub publisher_copies_as : (by : ℕ) (view : View) (own : Journal) → view ≡ Publishing own →
    Forks Kept by view view (copy_of view)
publisher_copies_as by view own is =
    subst (λ (v : View). Forks Kept by v v (copy_of v)) (sym is) (publisher_copies by own)

pub viewer_copies_as : (by : ℕ) (view : View) (count : ℕ) (seen : Journal) →
    view ≡ Viewing count seen → Forks Kept by view view (copy_of view)
viewer_copies_as by view count seen is =
    subst (λ (v : View). Forks Kept by v v (copy_of v)) (sym is) (viewer_copies by count seen)

pub viewer_leaves_as : (by : ℕ) (view : View) (count : ℕ) (seen : Journal) →
    view ≡ Viewing count seen → Forks Kept by view Spent view
viewer_leaves_as by view count seen is =
    subst (λ (v : View). Forks Kept by v Spent v) (sym is) (viewer_leaves by count seen)

pub keeps_longer_as : (by : ℕ) (view : View) (other : ℕ) (view' : View) (count more : ℕ)
    (one two : Journal) → view ≡ Viewing count one → view' ≡ Viewing more two →
    Merges Kept by view other view' (longer_of view view') Spent
keeps_longer_as by view other view' count more one two is is' =
    subst (λ (t : View × View). Merges Kept by t.0 other t.1 (longer_of t.0 t.1) Spent)
    (λ i. (sym is i, sym is' i)) (keeps_longer by count one other more two)

pub notes_as : (by : ℕ) (view : View) (other : ℕ) (view' : View) (count : ℕ)
    (own seen : Journal) → view ≡ Publishing own → view' ≡ Viewing count seen →
    Merges Kept by view other view' (with_note view view') Spent
notes_as by view other view' count own seen is is' =
    subst (λ (t : View × View). Merges Kept by t.0 other t.1 (with_note t.0 t.1) Spent)
    (λ i. (sym is i, sym is' i)) (notes by own other count seen)
