-- A legal journal of opened clocks is whole if no command was accepted before its first entry. One
-- of given clocks begins with them if nothing was folded.
use Rattle.std.proofs.Common.{◌≡◌, ℕ, ◌+◌, ◌≤◌, List, [], length, refl, sym, ◌∙◌, ap, subst, arith}
use Rattle.std.specs.Prelude.{None}
use Rattle.std.proofs.lemmas.List.{take_all}
use Rattle.tk_counter.specs.Counter.{Counter, IsCounter}
use Rattle.tk_clock.specs.declared.command.Entry.{Entry}
use Rattle.tk_clock.specs.declared.timespec.Timespec.{Timespec}
use Rattle.tk_clock.specs.Journal.{Opening, Journal, opened, prefix}
use Rattle.tk_clock.specs.Legal.{Beginning, Opened, Given, IsLegal, IsWhole, IsStart, AtOpening, AtChange, AtClocks, folded_opening}
use Rattle.tk_clock.specs.Refusal.{opening_refusal}
use Rattle.tk_clock.specs.State.{State, state_of}
use Rattle.tk_clock.proofs.Legal.{opened-folded}

nothing_before : (journal : Journal) → length journal.entries ≡ 0 → prefix 0 journal ≡ journal
nothing_before journal none =
    ap (λ (es : List Entry). record journal { entries = es })
    (take_all 0 journal.entries (omega arith))

-- an opening before which no command was accepted is that of newly opened clocks
pub record IsOpened (opening : Opening) : Type 0 where
  pub counter : Counter
  pub reading : ℕ
  pub real : Timespec
  pub described : IsCounter counter
  pub opens : opening_refusal counter reading real ≡ None
  pub stated : opening ≡ (opened counter reading real).opening

start-opened : (began : Beginning) (opening : Opening) → IsStart began opening → began ≡ Opened →
    opening.count ≡ 0 → IsOpened opening
start-opened began opening (AtOpening counter reading real described opens) same none = record {
  counter = counter;
  reading = reading;
  real = real;
  described = described;
  opens = opens;
  stated = refl;
}
start-opened began opening (AtClocks front state few clocks) same none = absurd (cc same)
start-opened began opening (AtChange how before reading counter first starts accepted described changes)
    same none = absurd (omega (arith, none))

-- a legal journal of opened clocks is whole if no command was accepted before its first entry
pub IsWhole-legal : (journal : Journal) → IsLegal Opened journal → journal.opening.count ≡ 0 →
    IsWhole journal
IsWhole-legal journal legal none =
    let past = legal.past.0 in
    let count : past.opening.count + length past.entries ≡ 0 =
    sym (ap (λ (o : Opening). o.count) legal.past.2) ∙ none in
    let few : length past.entries ≡ 0 = omega (arith, count) in
    let start = start-opened Opened past.opening legal.past.1.starts refl (omega (arith, count)) in
    let counter = start.counter in
    let reading = start.reading in
    let real = start.real in
    let begin = opened counter reading real in
    let empty : past ≡ begin =
    sym (nothing_before past few)
    ∙ ap (λ (o : Opening). let j : Journal = record { opening = o; entries = [] }
    in j) start.stated in
    let opening : journal.opening ≡ begin.opening =
    legal.past.2 ∙ ap (λ k. folded_opening k (state_of past)) count
    ∙ ap (λ (j : Journal). folded_opening 0 (state_of j)) empty
    ∙ sym (opened-folded counter reading real) in
    let same : journal.opening.counter ≡ counter = ap (λ (o : Opening). o.counter) opening in
    record {
      described = subst IsCounter (sym same) start.described;
      opens = subst
          (λ (k : Counter). (r : ℕ) × (t : Timespec) × (opening_refusal k r t ≡ None)
          × (journal.opening ≡ (opened k r t).opening))
          (sym same) (reading, real, start.opens, opening);
      accepted = legal.accepted;
    }

-- clocks over a counter count at least the commands with which they were given
front-counted : (began : Beginning) (opening : Opening) → IsStart began opening →
    (front : ℕ) (state : State) → began ≡ Given front state → front ≤ opening.count
front-counted began opening (AtOpening counter reading real described opens) front state same =
    absurd (cc same)
front-counted began opening (AtClocks given clocks few runs) front state same =
    let number : given ≡ front = cc same in omega (arith, number)
front-counted began opening
    (AtChange how before reading counter first starts accepted described changes) front state same =
    let earlier = front-counted how before.opening starts front state same in omega (arith, earlier)

-- the opening of given clocks, as long as no command was folded into it
start-given : (began : Beginning) (opening : Opening) → IsStart began opening →
    (front : ℕ) (state : State) → began ≡ Given front state → opening.count ≡ front →
    opening ≡ folded_opening front state
start-given began opening (AtOpening counter reading real described opens) front state same none =
    absurd (cc same)
start-given began opening (AtClocks given clocks few runs) front state same none =
    let number : given ≡ front = cc same in
    let all : clocks ≡ state = cc same in
    ap (λ k. folded_opening k clocks) number ∙ ap (folded_opening front) all
start-given began opening (AtChange how before reading counter first starts accepted described changes)
    front state same none =
    let earlier = front-counted how before.opening starts front state same in
    absurd (omega (arith, earlier, none))
