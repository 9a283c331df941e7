-- A change of counter after a legal journal begins a legal journal over the new counter.
use Rattle.std.proofs.Common.{◌≡◌, ℕ, ◌+◌, List, [], length, sym, ◌∙◌, ap, subst, arith}
use Rattle.std.specs.Prelude.{Some, None, slice_get}
use Rattle.std.proofs.lemmas.List.{take_all}
use Rattle.tk_counter.specs.Counter.{Counter, IsCounter, multiplier}
use Rattle.tk_clock.specs.declared.command.Entry.{Entry}
use Rattle.tk_clock.specs.Folding.{journal_from}
use Rattle.tk_clock.specs.Journal.{Opening, Journal, prefix, accepted_count}
use Rattle.tk_clock.specs.Legal.{IsLegal, IsAccepted, Beginning, IsStart, AtChange, folded_opening}
use Rattle.tk_clock.specs.State.{State, state_of}
use Rattle.tk_clock.specs.ChangeCounter.{changed, change_refusal}
use Rattle.tk_clock.proofs.Folding.{IsLegal-folded}
use Rattle.tk_clock.proofs.Start.{state_of-begun, state_of-started}

none_listed : (k : ℕ) (entry : Entry) → slice_get [] k ≡ Some entry → ⊥
none_listed k entry e = cc e

-- the clocks begin to run over the counter to which they are changed
pub IsStart-changed : (began : Beginning) (journal : Journal) (reading : ℕ) (counter : Counter)
    (first : ℕ) → IsLegal began journal → IsCounter counter →
    change_refusal (state_of journal) reading counter first ≡ None →
    IsStart began (folded_opening (accepted_count journal + 1)
    (changed (state_of journal) reading counter first))
IsStart-changed began journal reading counter first legal described accepted =
    let n = length journal.entries in
    let folded = IsLegal-folded began journal n (omega arith) legal in
    let unfolded = folded.past.0 in
    let count = journal.opening.count + n in
    let whole : prefix n journal ≡ journal =
    ap (λ (es : List Entry). record journal { entries = es })
    (take_all n journal.entries (omega arith)) in
    let same : state_of journal ≡ state_of unfolded =
    sym (ap state_of whole) ∙ sym (state_of-started count (prefix n journal))
    ∙ ap (λ (o : Opening). let j : Journal = record { opening = o; entries = [] }
    in state_of j) folded.past.2
    ∙ state_of-started (accepted_count unfolded) unfolded in
    let number : accepted_count journal ≡ accepted_count unfolded =
    ap (λ (o : Opening). o.count) folded.past.2 in
    let Begins : ℕ → State → Type 0 =
    λ k s. IsStart began (folded_opening (k + 1) (changed s reading counter first)) in
    let passes : change_refusal (state_of unfolded) reading counter first ≡ None =
    sym (ap (λ (s : State). change_refusal s reading counter first) same) ∙ accepted in
    subst (λ k. Begins k (state_of journal)) (sym number)
    (subst (λ (s : State). Begins (accepted_count unfolded) s) (sym same)
    (AtChange began unfolded reading counter first folded.past.1.starts folded.past.1.accepted described
    passes))

-- a journal without entries is legal if the clocks begin there to run over its counter
pub IsLegal-begun : (began : Beginning) (count : ℕ) (state : State) →
    IsStart began (folded_opening count state) →
    state.base.mult ≡ multiplier state.base.counter state.frequency state.tick →
    IsLegal began (journal_from count state [])
IsLegal-begun began count state starts steered =
    let journal = journal_from count state [] in
    let none : IsAccepted journal = λ k entry e. absurd (none_listed k entry e) in
    let number : count ≡ accepted_count journal = omega arith in
    record {
      past = (
        journal,
        record { starts = starts; accepted = none },
        ap (λ k. folded_opening k state) number
            ∙ ap (folded_opening (accepted_count journal))
            (sym (state_of-begun count state steered)),
      );
      accepted = none;
    }
