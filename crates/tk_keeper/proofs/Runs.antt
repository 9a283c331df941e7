-- Runs of a journal, in the journal with one more entry and in the folded journal.
use Rattle.std.proofs.Common.{◌≡◌, ℕ, zero, suc, ◌+◌, ◌-◌, ◌≤◌, List, [], ◌∷◌, length, drop, refl, sym, ◌∙◌, ap, subst, arith}
use Rattle.std.specs.Prelude.{slice_get}
use Rattle.tk_clock.specs.declared.command.Entry.{Entry}
use Rattle.tk_clock.specs.Folding.{folded_by}
use Rattle.tk_clock.specs.Journal.{Journal, followed_by}
use Rattle.tk_clock.specs.Legal.{IsAccepted}
use Rattle.tk_clock.specs.State.{State, state_of}
use Rattle.tk_clock.proofs.Append.{slice_get-append, prefix-followed_by}
use Rattle.tk_clock.proofs.Folding.{state_of-folded}
use Rattle.tk_keeper.specs.Runs.{Leads, AreRuns}

pub slice_get-drop : {X : Type 0} (m : ℕ) (xs : List X) (i j : ℕ) → j ≡ m + i →
    slice_get (drop m xs) i ≡ slice_get xs j
slice_get-drop zero xs i j e = let same : i ≡ j = omega arith in ap (slice_get xs) same
slice_get-drop (suc m) [] i j e = refl
slice_get-drop (suc m) (x ∷ xs) i zero e = absurd (omega arith)
slice_get-drop (suc m) (x ∷ xs) i (suc j) e = slice_get-drop m xs i j (omega arith)

leads_same : (before after before' after' : State) (entry : Entry) → before ≡ before' →
    after ≡ after' → Leads before entry after → Leads before' entry after'
leads_same before after before' after' entry e e' led =
    subst (λ (s : State). Leads s entry after') e (subst (λ (s : State). Leads before entry s) e' led)

-- runs of a journal are runs of the longer journal too
pub AreRuns-followed_by : (journal : Journal) (entry : Entry) (from end : ℕ) →
    end ≤ length journal.entries → AreRuns journal from end →
    AreRuns (followed_by journal entry) from end
AreRuns-followed_by journal entry from end inside runs place later low last here =
    let before = ap state_of (prefix-followed_by journal entry from (omega arith)) in
    let after = ap state_of (prefix-followed_by journal entry place (omega arith)) in
    let listed = sym (slice_get-append journal.entries (entry ∷ []) (place - 1) (omega arith))
    ∙ here in
    leads_same _ _ _ _ last (sym before) (sym after) (runs place later low last listed)

-- so are the runs of the folded journal, without the folded entries
pub AreRuns-folded : (journal : Journal) (n from end : ℕ) → IsAccepted journal →
    AreRuns journal (n + from) (n + end) → AreRuns (folded_by n journal) from end
AreRuns-folded journal n from end accepted runs place later low last here =
    let before = state_of-folded journal n from accepted in
    let after = state_of-folded journal n place accepted in
    let moved : n + place - 1 ≡ n + (place - 1) = omega arith in
    let listed = ap (slice_get journal.entries) moved
    ∙ sym (slice_get-drop n journal.entries (place - 1) (n + (place - 1)) refl) ∙ here in
    leads_same _ _ _ _ last (sym before) (sym after)
    (runs (n + place) (omega arith) (omega arith) last listed)
