-- The kept clocks of a journal, entry by entry.
use Rattle.std.proofs.Common.{◌≡◌, ◌≢◌, ℕ, ◌+◌, ◌-◌, ◌*◌, ◌/◌, ◌%◌, ◌<◌, ◌≤◌, List, [], ◌∷◌, ◌++◌, length, drop, length-drop, refl, sym, ◌∙◌, ap, subst, arith, inl, inr}
use Rattle.std.specs.Prelude.{IsTrue, Some, slice_get}
use Rattle.std.proofs.lemmas.List.{take_all, length_push}
use Rattle.std.proofs.lemmas.Bool.{cases_lt}
use Rattle.std.proofs.lemmas.Option.{slice_get_within}
use Rattle.tk_clock.specs.declared.command.Entry.{Entry}
use Rattle.tk_clock.specs.Journal.{Journal, prefix, followed_by, accepted_count}
use Rattle.tk_clock.specs.Legal.{IsAccepted}
use Rattle.tk_clock.specs.State.{State, state_of}
use Rattle.tk_keeper.specs.declared.timekeeper.Kept.{Kept}
use Rattle.tk_keeper.specs.Keeper.{HasKept}
use Rattle.tk_keeper.specs.Runs.{AreRuns, IsKeptAt}
use Rattle.tk_keeper.proofs.Runs.{AreRuns-followed_by, AreRuns-folded, slice_get-drop}
use Rattle.tk_clock.proofs.Append.{slice_get-append, slice_get-push, prefix-followed_by}
use Rattle.tk_clock.proofs.Folding.{state_of-folded}
use Rattle.tk_clock.specs.Folding.{folded_by}

-- the place of a kept state is within the journal
within : (kept count listed i place : ℕ) → kept + count / 256 ≡ (count + listed) / 256 → i < kept →
    count + place ≡ 256 * (count / 256 + 1 + i) → place ≤ listed
within kept count listed i place all low here = omega arith

-- earlier kept clocks are kept clocks of the longer journal too
earlier : (journal : Journal) (entry : Entry) (start : State) (kept : List Kept) (i place : ℕ)
    (there : Kept) →
    HasKept journal start kept → slice_get kept i ≡ Some there →
    journal.opening.count + place ≡ 256 * (journal.opening.count / 256 + 1 + i) →
    IsKeptAt (followed_by journal entry) place there
earlier journal entry start kept i place there held found here =
    let inside = within (length kept) journal.opening.count (length journal.entries) i place
    held.all (slice_get_within kept i there found) here in
    let same = prefix-followed_by journal entry place inside in
    let stated = held.stated i place there found here in
    record {
      clock = stated.clock ∙ ap state_of (sym same);
      run = λ long marked. AreRuns-followed_by journal entry (place - 256) (place - 1) (omega arith)
          (stated.run long marked);
    }

-- an entry whose number is not a multiple of 256 leaves the kept states unchanged
pub HasKept-same : (journal : Journal) (entry : Entry) (start : State) (kept : List Kept) →
    HasKept journal start kept →
    accepted_count (followed_by journal entry) % 256 ≢ 0 →
    HasKept (followed_by journal entry) start kept
HasKept-same journal entry start kept held odd = record {
  first = held.first;
  all = omega (arith, held.all, length_push journal.entries entry);
  stated = λ i place there found here. earlier journal entry start kept i place there held found here;
}

-- the place of the last state that is kept
last_place : (kept count listed i place : ℕ) → kept + count / 256 ≡ (count + listed) / 256 →
    (count + (listed + 1)) % 256 ≡ 0 → i ≡ kept →
    count + place ≡ 256 * (count / 256 + 1 + i) → place ≡ listed + 1
last_place kept count listed i place all even last here = omega arith

-- the mark of clocks that are kept next: the last 255 entries are a run
abbrev pub EndsWithRun : Journal → Kept → Type 0
EndsWithRun journal next =
    let count = length journal.entries in
    IsTrue next.after_run → (255 ≤ count) × AreRuns journal (count - 255) count

newest : (journal : Journal) (entry : Entry) (start : State) (kept : List Kept) (next : Kept)
    (i place : ℕ) →
    HasKept journal start kept → next.clock ≡ state_of (followed_by journal entry) →
    EndsWithRun journal next →
    (journal.opening.count + (length journal.entries + 1)) % 256 ≡ 0 → i ≡ length kept →
    journal.opening.count + place ≡ 256 * (journal.opening.count / 256 + 1 + i) →
    IsKeptAt (followed_by journal entry) place next
newest journal entry start kept next i place held now marked even last here =
    let count = length journal.entries in
    let end = last_place (length kept) journal.opening.count count i place held.all even last here
    in
    let whole : prefix place (followed_by journal entry) ≡ followed_by journal entry =
    ap (λ (es : List Entry). record journal { entries = es })
    (take_all place (journal.entries ++ entry
    ∷ []) (omega (arith, end, length_push journal.entries entry))) in
    let first : place - 256 ≡ count - 255 = omega arith in
    let final : place - 1 ≡ count = omega arith in
    record {
      clock = now ∙ ap state_of (sym whole);
      run = λ long mark.
          AreRuns-followed_by journal entry (place - 256) (place - 1) (omega arith)
          (subst (λ n. AreRuns journal (place - 256) n) (sym final)
          (subst (λ n. AreRuns journal n count) (sym first) (marked mark).1));
    }

-- an entry whose number is a multiple of 256 adds its clocks
pub HasKept-more : (journal : Journal) (entry : Entry) (start : State) (kept : List Kept)
    (next : Kept) →
    HasKept journal start kept → next.clock ≡ state_of (followed_by journal entry) →
    EndsWithRun journal next →
    accepted_count (followed_by journal entry) % 256 ≡ 0 →
    HasKept (followed_by journal entry) start (kept ++ next ∷ [])
HasKept-more journal entry start kept next held now marked even =
    let longer = length_push journal.entries entry in
    let there : (journal.opening.count + (length journal.entries + 1)) % 256 ≡ 0 =
    ap (λ n. (journal.opening.count + n) % 256) (sym longer) ∙ even in
    record {
      first = held.first;
      all = omega (arith, held.all, there, longer, length_push kept next);
      stated = λ i place any found here.
          elim (cases_lt i (length kept)) [
            | inl earlier_one ↦ earlier journal entry start kept i place any held
                (sym (slice_get-append kept (next ∷ []) i earlier_one) ∙ found) here
            | inr high ↦
                let within = slice_get_within (kept ++ next ∷ []) i any found in
                let last : i ≡ length kept = omega (arith, length_push kept next) in
                let same : next ≡ any = cc (sym (slice_get-push kept next)
                ∙ ap (slice_get (kept ++ next ∷ [])) (sym last) ∙ found) in
                subst (λ (k : Kept). IsKeptAt (followed_by journal entry) place k) same
                (newest journal entry start kept next i place held now marked there last here)
          ];
    }

-- a kept state of the folded journal is a kept state of the journal before the fold
kept_place : (count n i place dropped : ℕ) → dropped + count / 256 ≡ (count + n) / 256 →
    count + n + place ≡ 256 * ((count + n) / 256 + 1 + i) →
    count + (n + place) ≡ 256 * (count / 256 + 1 + (dropped + i))
kept_place count n i place dropped e here = omega arith

kept_left : (count n listed kept dropped : ℕ) → dropped + count / 256 ≡ (count + n) / 256 →
    n ≤ listed →
    kept + count / 256 ≡ (count + listed) / 256 →
    kept - dropped + (count + n) / 256 ≡ (count + n + (listed - n)) / 256
kept_left count n listed kept dropped e within all = omega arith

-- folding drops the kept states up to the new opening, and keeps the later ones
pub HasKept-folded : (journal : Journal) (n dropped : ℕ) (start : State) (kept : List Kept) →
    n ≤ length journal.entries →
    IsAccepted journal → dropped + journal.opening.count / 256 ≡ (journal.opening.count + n) / 256 →
    HasKept journal start kept →
    HasKept (folded_by n journal) (state_of (prefix n journal)) (drop dropped kept)
HasKept-folded journal n dropped start kept inside accepted e held =
    let count = journal.opening.count in
    let after = folded_by n journal in
    let whole : n + 0 ≡ n = omega arith in
    record {
      first = sym (state_of-folded journal n 0 accepted
          ∙ ap (λ k. state_of (prefix k journal)) whole);
      all =
          ap (λ k. k + (count + n) / 256) (length-drop dropped kept)
          ∙ kept_left count n (length journal.entries) (length kept) dropped e inside held.all
          ∙ ap (λ k. (count + n + k) / 256) (sym (length-drop n journal.entries));
      stated = λ i place any found here.
          let older = sym (slice_get-drop dropped kept i (dropped + i) refl) ∙ found in
          let there = kept_place count n i place dropped e here in
          let stated = held.stated (dropped + i) (n + place) any older there in
          record {
            clock = stated.clock ∙ sym (state_of-folded journal n place accepted);
            run = λ long marked.
                let first : n + place - 256 ≡ n + (place - 256) = omega arith in
                let final : n + place - 1 ≡ n + (place - 1) = omega arith in
                let runs = stated.run (omega arith) marked in
                AreRuns-folded journal n (place - 256) (place - 1) accepted
                (rw (← first, ← final) runs);
          };
    }
