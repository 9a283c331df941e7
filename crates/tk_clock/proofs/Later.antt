-- Entries after a journal: the state after them depends only on the journal's state.
use Rattle.std.proofs.Common.{◌≡◌, ℕ, zero, suc, List, [], ◌∷◌, ◌++◌, length, take, refl, sym, ◌∙◌, ap, subst, append_assoc}
use Rattle.std.specs.Prelude.{Some, None, slice_get}
use Rattle.std.proofs.lemmas.List.{append-nil}
use Rattle.std.proofs.Math.Seq.{take-append_seam}
use Rattle.tk_clock.specs.declared.command.Entry.{Entry}
use Rattle.tk_clock.specs.Journal.{Journal, prefix, followed_by}
use Rattle.tk_clock.specs.Legal.{IsAccepted}
use Rattle.tk_clock.specs.Refusal.{clock_refusal}
use Rattle.tk_clock.specs.State.{state_of}
use Rattle.tk_clock.proofs.Alike.{clock_refusal-alike, state_of-next}
use Rattle.tk_clock.proofs.Legal.{IsAccepted-followed_by}

-- the journal with more entries
abbrev pub extended_by : Journal → List Entry → Journal
extended_by journal entries = record journal { entries = journal.entries ++ entries }

-- each of the entries is accepted after the journal and the entries before it
abbrev pub Follows : Journal → List Entry → Type 0
Follows journal [] = Unit {0}
Follows journal (entry ∷ entries) = (clock_refusal journal entry ≡ None)
    × Follows (followed_by journal entry) entries

-- appending entries equals appending the first one, and then the others
regroup : (journal : Journal) (entry : Entry) (entries : List Entry) →
    extended_by journal (entry ∷ entries) ≡ extended_by (followed_by journal entry) entries
regroup journal entry entries =
    ap (λ (es : List Entry). record journal { entries = es })
    (sym (append_assoc journal.entries (entry ∷ []) entries))

slice_get-seam : {X : Type 0} (xs : List X) (y : X) (ys : List X) →
    slice_get (xs ++ y ∷ ys) (length xs) ≡ Some y
slice_get-seam [] y ys = refl
slice_get-seam (x ∷ xs) y ys = slice_get-seam xs y ys

-- the later entries of a journal whose entries were all accepted
pub Follows-accepted : (journal : Journal) (entries : List Entry) →
    IsAccepted (extended_by journal entries) → Follows journal entries
Follows-accepted journal [] all = tt
Follows-accepted journal (entry ∷ entries) all =
    let here : prefix (length journal.entries) (extended_by journal (entry ∷ entries)) ≡ journal =
    ap (λ (es : List Entry). record journal { entries = es })
    (take-append_seam journal.entries (entry ∷ entries)) in (
      ap (λ (j : Journal). clock_refusal j entry) (sym here)
          ∙ all (length journal.entries) entry (slice_get-seam journal.entries entry entries),
      Follows-accepted (followed_by journal entry) entries
          (subst IsAccepted (regroup journal entry entries) all),
    )

pub IsAccepted-extended : (journal : Journal) (entries : List Entry) → IsAccepted journal →
    Follows journal entries →
    IsAccepted (extended_by journal entries)
IsAccepted-extended journal [] all later =
    subst (λ (es : List Entry). IsAccepted (record journal { entries = es }))
    (sym (append-nil journal.entries)) all
IsAccepted-extended journal (entry ∷ entries) all later =
    subst IsAccepted (sym (regroup journal entry entries))
    (IsAccepted-extended (followed_by journal entry) entries
    (IsAccepted-followed_by journal entry all later.0) later.1)

pub Follows-take : (journal : Journal) (n : ℕ) (entries : List Entry) → Follows journal entries →
    Follows journal (take n entries)
Follows-take journal zero entries later = tt
Follows-take journal (suc n) [] later = tt
Follows-take journal (suc n) (entry ∷ entries) later =
    (later.0, Follows-take (followed_by journal entry) n entries later.1)

pub Follows-alike : (before other : Journal) (entries : List Entry) →
    state_of before ≡ state_of other → Follows before entries →
    Follows other entries
Follows-alike before other [] same later = tt
Follows-alike before other (entry ∷ entries) same later = (
  sym (clock_refusal-alike before other same entry) ∙ later.0,
  Follows-alike (followed_by before entry) (followed_by other entry) entries
      (state_of-next before other same entry later.0) later.1,
)

pub state_of-alike : (before other : Journal) (entries : List Entry) →
    state_of before ≡ state_of other → Follows before entries →
    state_of (extended_by before entries) ≡ state_of (extended_by other entries)
state_of-alike before other [] same later =
    ap (λ (es : List Entry). state_of (record before { entries = es })) (append-nil before.entries)
    ∙ same
    ∙ sym (ap (λ (es : List Entry). state_of (record other { entries = es }))
    (append-nil other.entries))
state_of-alike before other (entry ∷ entries) same later =
    ap state_of (regroup before entry entries)
    ∙ state_of-alike (followed_by before entry) (followed_by other entry) entries
    (state_of-next before other same entry later.0) later.1
    ∙ sym (ap state_of (regroup other entry entries))
