-- Folding keeps a journal legal and keeps its state; two folds equal one fold of both parts.
use Rattle.std.proofs.Common.{◌≡◌, ℕ, ◌+◌, ◌≤◌, List, [], ◌∷◌, ◌++◌, length, take, drop, sym, ◌∙◌, ap, subst, arith, length-append, length-drop, drop-drop}
use Rattle.std.specs.Prelude.{Some, slice_get}
use Rattle.std.proofs.lemmas.List.{take-append-drop, length-take-le, take_all, take-append-le, drop-append-le}
use Rattle.std.proofs.Math.Seq.{take-add}
use Rattle.tk_clock.specs.declared.command.Entry.{Entry}
use Rattle.tk_clock.specs.Folding.{IsAlike, journal_from, folded_by}
use Rattle.tk_clock.specs.Journal.{Opening, Journal, prefix, followed_by, accepted_count}
use Rattle.tk_clock.specs.Legal.{IsLegal, IsAccepted, Beginning, folded_opening}
use Rattle.tk_clock.specs.Monotonic.{current_frequency, current_tick}
use Rattle.tk_clock.specs.Refusal.{clock_refusal}
use Rattle.tk_clock.specs.Snapshot.{snapshot_of}
use Rattle.tk_clock.specs.State.{State, state_of}
use Rattle.tk_clock.proofs.Alike.{clock_refusal-alike, snapshot_of-alike}
use Rattle.tk_clock.proofs.Later.{extended_by, Follows, Follows-accepted, Follows-take, Follows-alike, IsAccepted-extended, state_of-alike}
use Rattle.tk_clock.proofs.Start.{state_of-started}

-- the remaining entries are accepted after the folded ones
left : (journal : Journal) (n : ℕ) → IsAccepted journal →
    Follows (prefix n journal) (drop n journal.entries)
left journal n all =
    Follows-accepted (prefix n journal) (drop n journal.entries)
    (subst (λ (es : List Entry). IsAccepted (record journal { entries = es }))
    (sym (take-append-drop n journal.entries)) all)

-- a prefix of a folded journal has the state of the matching prefix before the fold
pub state_of-folded : (journal : Journal) (n p : ℕ) → IsAccepted journal →
    state_of (prefix p (folded_by n journal)) ≡ state_of (prefix (n + p) journal)
state_of-folded journal n p all =
    let before = prefix n journal in
    let start = journal_from (journal.opening.count + n) (state_of before) [] in
    let rest = take p (drop n journal.entries) in
    sym (state_of-alike before start rest
    (sym (state_of-started (journal.opening.count + n) before))
    (Follows-take before p (drop n journal.entries) (left journal n all)))
    ∙ ap (λ (es : List Entry). state_of (record journal { entries = es }))
    (sym (take-add n p journal.entries))

none_listed : (k : ℕ) (entry : Entry) → slice_get [] k ≡ Some entry → ⊥
none_listed k entry e = cc e

-- the remaining entries are accepted as before
accepted-folded : (journal : Journal) (n : ℕ) → IsAccepted journal →
    IsAccepted (folded_by n journal)
accepted-folded journal n all =
    let before = prefix n journal in
    let start = journal_from (journal.opening.count + n) (state_of before) [] in
    IsAccepted-extended start (drop n journal.entries) (λ k entry e. absurd (none_listed k entry e))
    (Follows-alike before start (drop n journal.entries)
    (sym (state_of-started (journal.opening.count + n) before)) (left journal n all))

-- a legal journal stays legal when it is folded
pub IsLegal-folded : (began : Beginning) (journal : Journal) (n : ℕ) → n ≤ length journal.entries →
    IsLegal began journal → IsLegal began (folded_by n journal)
IsLegal-folded began journal n within legal =
    let unfolded = legal.past.0 in
    let past = legal.past.1 in
    let start = prefix 0 journal in
    let gone = take n journal.entries in
    let longer = extended_by unfolded gone in
    let begins : state_of start ≡ state_of unfolded =
    ap (λ (o : Opening). let j : Journal = record { opening = o; entries = [] }
    in state_of j) legal.past.2
    ∙ state_of-started (accepted_count unfolded) unfolded in
    let later : Follows start gone =
    Follows-take start n journal.entries (Follows-accepted start journal.entries legal.accepted)
    in
    let same : state_of (prefix n journal) ≡ state_of longer =
    state_of-alike start unfolded gone begins later in
    let number : journal.opening.count + n ≡ accepted_count longer =
    omega (
      arith,
      ap (λ (o : Opening). o.count) legal.past.2,
      length-append unfolded.entries gone,
      length-take-le n journal.entries within,
    ) in
    record {
      past = (
        longer,
        record {
          starts = past.starts;
          accepted = IsAccepted-extended unfolded gone past.accepted
              (Follows-alike start unfolded gone begins later);
        },
        ap (λ k. folded_opening k (state_of (prefix n journal))) number
            ∙ ap (folded_opening (accepted_count longer)) same,
      );
      accepted = accepted-folded journal n legal.accepted;
    }

-- folding keeps the state after all entries
pub state_of-whole : (journal : Journal) (n : ℕ) → n ≤ length journal.entries → IsAccepted journal →
    state_of (folded_by n journal) ≡ state_of journal
state_of-whole journal n within all =
    let rest = drop n journal.entries in
    let fewer = length-drop n journal.entries in
    let after : prefix (length rest) (folded_by n journal) ≡ folded_by n journal =
    ap (λ (es : List Entry). record (folded_by n journal) { entries = es })
    (take_all (length rest) rest (omega arith)) in
    let before : prefix (n + length rest) journal ≡ journal =
    ap (λ (es : List Entry). record journal { entries = es })
    (take_all (n + length rest) journal.entries (omega arith)) in
    sym (ap state_of after) ∙ state_of-folded journal n (length rest) all ∙ ap state_of before

-- a folded journal agrees with the journal before the fold
pub IsAlike-folded : (journal : Journal) (n : ℕ) → n ≤ length journal.entries → IsAccepted journal →
    IsAlike (folded_by n journal) journal
IsAlike-folded journal n within all = record {
  state = state_of-whole journal n within all;
  count = omega (arith, length-drop n journal.entries);
}

-- so both refuse an entry for the same reason, except for a full journal
pub clock_refusal-folded : (journal : Journal) (n : ℕ) → n ≤ length journal.entries →
    IsAccepted journal →
    (entry : Entry) → clock_refusal (folded_by n journal) entry ≡ clock_refusal journal entry
clock_refusal-folded journal n within all entry =
    clock_refusal-alike (folded_by n journal) journal (state_of-whole journal n within all) entry

-- both have the same snapshot
pub snapshot_of-folded : (journal : Journal) (n : ℕ) → n ≤ length journal.entries →
    IsAccepted journal →
    snapshot_of (folded_by n journal) ≡ snapshot_of journal
snapshot_of-folded journal n within all =
    snapshot_of-alike (folded_by n journal) journal (IsAlike-folded journal n within all)

-- both have the same frequency and tick in force
pub frequency-folded : (journal : Journal) (n : ℕ) → n ≤ length journal.entries →
    IsAccepted journal →
    current_frequency (folded_by n journal) ≡ current_frequency journal
frequency-folded journal n within all =
    ap (λ (s : State). s.frequency) (state_of-whole journal n within all)

pub tick-folded : (journal : Journal) (n : ℕ) → n ≤ length journal.entries → IsAccepted journal →
    current_tick (folded_by n journal) ≡ current_tick journal
tick-folded journal n within all = ap (λ (s : State). s.tick) (state_of-whole journal n within all)

-- folding no entry doesn't change a legal journal
pub folded_by-nothing : (began : Beginning) (journal : Journal) → IsLegal began journal →
    folded_by 0 journal ≡ journal
folded_by-nothing began journal legal =
    let unfolded = legal.past.0 in
    let start = prefix 0 journal in
    let begins : state_of start ≡ state_of unfolded =
    ap (λ (o : Opening). let j : Journal = record { opening = o; entries = [] }
    in state_of j) legal.past.2
    ∙ state_of-started (accepted_count unfolded) unfolded in
    let count : journal.opening.count + 0 ≡ accepted_count unfolded =
    omega (arith, ap (λ (o : Opening). o.count) legal.past.2) in
    let opening : (folded_by 0 journal).opening ≡ journal.opening =
    ap (λ k. folded_opening k (state_of start)) count
    ∙ ap (folded_opening (accepted_count unfolded)) begins
    ∙ sym legal.past.2 in
    ap (λ (o : Opening). let j : Journal = record { opening = o; entries = journal.entries }
    in j) opening

-- an entry may be appended before the fold or after it
pub followed_by-folded : (journal : Journal) (n : ℕ) → n ≤ length journal.entries →
    (entry : Entry) →
    followed_by (folded_by n journal) entry ≡ folded_by n (followed_by journal entry)
followed_by-folded journal n within entry =
    let from : State → List Entry → Journal = journal_from (journal.opening.count + n) in
    ap (λ (es : List Entry). from (state_of (record journal { entries = es }))
    (drop n journal.entries ++ entry ∷ []))
    (sym (take-append-le n journal.entries (entry ∷ []) within))
    ∙ ap (from (state_of (prefix n (followed_by journal entry))))
    (sym (drop-append-le n journal.entries (entry ∷ []) within))

sum_of_three : (a b c : ℕ) → a + b + c ≡ a + (b + c)
sum_of_three a b c = omega arith

-- folding n entries and then m more is folding n + m entries
pub folded_by-folded : (journal : Journal) (n m : ℕ) → IsAccepted journal →
    folded_by m (folded_by n journal) ≡ folded_by (n + m) journal
folded_by-folded journal n m all =
    let count = journal.opening.count in
    ap (λ k. journal_from k (state_of (prefix m (folded_by n journal)))
    (drop m (drop n journal.entries)))
    (sum_of_three count n m)
    ∙ ap (λ (s : State). journal_from (count + (n + m)) s (drop m (drop n journal.entries)))
    (state_of-folded journal n m all)
    ∙ ap (journal_from (count + (n + m)) (state_of (prefix (n + m) journal)))
    (drop-drop m n journal.entries)
