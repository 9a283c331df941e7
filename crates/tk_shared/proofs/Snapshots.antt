-- Publications that are snapshots of one history.
use Rattle.std.proofs.Common.{◌≡◌, ℕ, ◌+◌, ◌<◌, ◌≤◌, List, [], ◌∷◌, ◌++◌, length, sym, ap, ◌∙◌, arith, inl, inr}
use Rattle.std.specs.Prelude.{Some, slice_get}
use Rattle.std.proofs.lemmas.Bool.{cases_lt}
use Rattle.std.proofs.lemmas.List.{take_all, length_push}
use mathlib.Core.List.{IsPrefix}
use Rattle.tk_clock.specs.declared.command.Entry.{Entry}
use Rattle.tk_clock.specs.Journal.{Journal, prefix, followed_by}
use Rattle.tk_clock.specs.Snapshot.{Snapshot, snapshot_of}
use Rattle.tk_shared.specs.History.{AreSnapshots}
use Rattle.tk_clock.proofs.Append.{slice_get-append, slice_get-push, prefix-followed_by}
use Rattle.tk_clock.proofs.Lists.{prefix_length}

prefix-whole : (history : Journal) (k : ℕ) → length history.entries ≤ k → prefix k history ≡ history
prefix-whole history k within =
    ap (λ (es : List Entry). record history { entries = es }) (take_all k history.entries within)

-- one publication more
pub snapshots_followed_by : (history : Journal) (publications : List Snapshot) (entry : Entry) →
    AreSnapshots history publications → length publications ≡ length history.entries + 1 →
    AreSnapshots (followed_by history entry)
    (publications ++ snapshot_of (followed_by history entry) ∷ [])
snapshots_followed_by history publications entry are whole =
    let next = snapshot_of (followed_by history entry) in
    let pushed = length_push publications next in
    let longer = length_push history.entries entry in
    let earlier : (k : ℕ) → k < length publications →
    slice_get (publications ++ next ∷ []) k
    ≡ Some (snapshot_of (prefix k (followed_by history entry))) =
    λ k low. slice_get-append publications (next ∷ []) k low ∙ are.each k low
    ∙ sym (ap (λ (j : Journal). Some (snapshot_of j))
    (prefix-followed_by history entry k (omega (arith, low, whole)))) in
    let last : (k : ℕ) → k < length (publications ++ next ∷ []) → length publications ≤ k →
    slice_get (publications ++ next ∷ []) k
    ≡ Some (snapshot_of (prefix k (followed_by history entry))) =
    λ k low high.
    let here : k ≡ length publications = omega (arith, low, high, pushed) in
    ap (slice_get (publications ++ next ∷ [])) here ∙ slice_get-push publications next
    ∙ sym (ap (λ (j : Journal). Some (snapshot_of j))
    (prefix-whole (followed_by history entry) k (omega (arith, here, whole, longer)))) in
    record {
      within = omega (arith, pushed, longer, whole);
      each = λ k low. elim (cases_lt k (length publications)) [
        | inl before ↦ earlier k before
        | inr after ↦ last k low after
      ];
    }

-- the first of them
pub snapshots_prefix : (history : Journal) (some all : List Snapshot) → AreSnapshots history all →
    IsPrefix some all → AreSnapshots history some
snapshots_prefix history some all are begins =
    let few = prefix_length some all begins in
    record {
      within = let low = are.within in omega (arith, few, low);
      each = λ k low.
          sym (slice_get-append some begins.0 k low)
          ∙ ap (λ (l : List Snapshot). slice_get l k) begins.1
          ∙ are.each k (omega (arith, low, few));
    }
