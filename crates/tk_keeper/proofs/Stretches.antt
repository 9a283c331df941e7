-- A trace that is converted up to a place, and a stretch of items with one more front.
use Rattle.std.proofs.Common.{◌≡◌, ℕ, ◌+◌, ◌-◌, ◌<◌, ◌≤◌, List, ◌++◌, length, get_or, take, drop, Ok, Err, Result, refl, sym, ap, ◌∙◌, subst, arith, rules, inl, inr}
use Rattle.std.specs.Prelude.{ℤ, ⊤, pos, IsOk}
use Rattle.std.proofs.lemmas.Bool.{cases_lt}
use Rattle.std.proofs.lemmas.List.{get_or-take, get_or-drop, length-take-le, length-drop, places}
use borrow.Rule.Slice.PartMut.{put_mid}
use Rattle.tk_clock.specs.declared.clock_id.ClockId.{ClockId}
use Rattle.tk_clock.specs.declared.refusal.ReadError.{ReadError}
use Rattle.tk_clock.specs.Journal.{Journal}
use Rattle.tk_clock.specs.State.{ReadBase}
use Rattle.tk_clock.specs.Read.{read_of}
use Rattle.tk_lanes.specs.Batch.{IsFilled, IsRefusedAt, IsBatch}
use Rattle.tk_lanes.specs.declared.batch_error.BatchError.{BatchError}
use Rattle.tk_lanes.specs.declared.batch_error.BatchError.TheVariants as batch
use Rattle.tk_keeper.specs.declared.trace_error.TraceError.{TraceError}
use Rattle.tk_keeper.specs.declared.trace_error.TraceError.TheVariants as errors
use Rattle.tk_keeper.specs.Item.{item, fault_of_stamp}
use Rattle.tk_keeper.specs.Trace.{item_of, AreValues, IsWritten, IsFirstFault, IsFault, stated, ConvertsItems, place_of, fault_of_batch}

mid_below : (a n : ℕ) (xs ys : List ℕ) (i : ℕ) → a ≤ length xs → i < a →
    get_or (put_mid a n xs ys) i 0 ≡ get_or xs i 0
mid_below a n xs ys i inside low = search (rules, places)

mid_at : (a n : ℕ) (xs ys : List ℕ) (i : ℕ) → a ≤ length xs → a ≤ i → i < a + length ys →
    get_or (put_mid a n xs ys) i 0 ≡ get_or ys (i - a) 0
mid_at a n xs ys i inside low high = search (rules, places)

mid_above : (a n : ℕ) (xs ys : List ℕ) (i : ℕ) → a + n ≤ length xs → length ys ≡ n → a + n ≤ i →
    get_or (put_mid a n xs ys) i 0 ≡ get_or xs i 0
mid_above a n xs ys i inside long high = search (rules, places)

-- an item of a part, by its place in the whole list
pub part_at : (from n i : ℕ) (xs : List ℕ) → from ≤ i → i - from < n →
    get_or (take n (drop from xs)) (i - from) 0 ≡ get_or xs i 0
part_at from n i xs low high =
    let e : from + (i - from) ≡ i = omega arith in
    get_or-take n (drop from xs) (i - from) 0 high
    ∙ get_or-drop from xs (i - from) 0 ∙ ap (λ j. get_or xs j 0) e

part_long : (from n : ℕ) (xs : List ℕ) → from + n ≤ length xs →
    length (take n (drop from xs)) ≡ n
part_long from n xs inside =
    length-take-le n (drop from xs) (omega (arith, length-drop from xs))

ok_is : {v : ℤ} (r : Result ℤ TraceError) → r ≡ Ok v → IsOk r
ok_is r e = subst IsOk (sym e) refl

-- the first fault of a trace, if the items before it have values
pub first_fault : (journal : Journal) (clock : ClockId) (fronts stamps values : List ℕ)
    (index : ℕ) (error : TraceError) → index < length stamps →
    AreValues journal clock fronts stamps index values →
    item_of journal clock fronts stamps index ≡ Err error →
    IsFirstFault journal clock fronts stamps index error
first_fault journal clock fronts stamps values index error low so_far fault = record {
  within = low;
  fault = fault;
  before = λ k early. ok_is (item_of journal clock fronts stamps k) (so_far k early);
}

pub fault_at : (journal : Journal) (clock : ClockId) (fronts stamps values : List ℕ)
    (index : ℕ) (error : TraceError) → index < length stamps →
    AreValues journal clock fronts stamps index values →
    item_of journal clock fronts stamps index ≡ Err error →
    IsFault journal clock fronts stamps error
fault_at journal clock fronts stamps values index errors.Memory low so_far fault = omega arith
fault_at journal clock fronts stamps values index (errors.Unknown place) low so_far fault =
    (index, first_fault journal clock fronts stamps values index _ low so_far fault)
fault_at journal clock fronts stamps values index (errors.Folded place) low so_far fault =
    (index, first_fault journal clock fronts stamps values index _ low so_far fault)
fault_at journal clock fronts stamps values index (errors.Invalid place) low so_far fault =
    (index, first_fault journal clock fronts stamps values index _ low so_far fault)
fault_at journal clock fronts stamps values index (errors.Range place) low so_far fault =
    (index, first_fault journal clock fronts stamps values index _ low so_far fault)

-- items that are written after others
pub written_after : (journal : Journal) (clock : ClockId) (fronts stamps : List ℕ) (first end : ℕ)
    (start old new : List ℕ) → first ≤ end → IsWritten journal clock fronts stamps first start old →
    IsWritten journal clock fronts stamps end old new →
    IsWritten journal clock fronts stamps end start new
written_after journal clock fronts stamps first end start old new low before after = record {
  values = after.values;
  others = λ k above. after.others k above ∙ before.others k (omega (arith, low, above));
}

-- the items of a list that were all lent, after they are given back
pub taken_back : (n k : ℕ) (xs ys : List ℕ) → length xs ≡ n → k < n →
    get_or (take n (xs ++ ys)) k 0 ≡ get_or xs k 0
taken_back n k xs ys long low = search (rules, places)

-- the first fault is at a place or after it, and all items before the fault are written
abbrev pub StopsFrom : Journal → ClockId → List ℕ → List ℕ → ℕ → List ℕ → List ℕ → TraceError →
    Type 0
StopsFrom journal clock fronts stamps first old new error =
    (index : ℕ) × (first ≤ index) × IsFirstFault journal clock fronts stamps index error
    × IsWritten journal clock fronts stamps index old new

-- a batch traces the items from `first` up to `end`: all are written, or the trace stops at the
-- first one that the batch refuses
abbrev pub IsStretchTraced : Journal → ClockId → List ℕ → List ℕ → ℕ → ℕ → List ℕ → List ℕ →
    Result ⊤ BatchError → Type 0
IsStretchTraced journal clock fronts stamps first end old new (Ok done) =
    IsWritten journal clock fronts stamps end old new
IsStretchTraced journal clock fronts stamps first end old new (Err error) =
    StopsFrom journal clock fronts stamps first old new (fault_of_batch first error)

pub place_low : (base : ReadBase) (clock : ClockId) (stamps old new : List ℕ)
    (error : BatchError) → IsBatch base clock stamps old new (Err error) →
    place_of error < length stamps
place_low base clock stamps old new (batch.Invalid index) back = back.high
place_low base clock stamps old new (batch.Range index) back = back.high

-- a stretch of `n` items starting at `first`, with one front, whose snapshot has this base
module _ (journal : Journal) (clock : ClockId) (fronts stamps out : List ℕ) (first n : ℕ)
    (base : ReadBase)
    (so_far : AreValues journal clock fronts stamps first out)
    (inside : first + n ≤ length stamps)
    (room : first + n ≤ length out)
    (same : (k : ℕ) → first ≤ k → k < first + n → get_or fronts k 0 ≡ get_or fronts first 0)
    (tells : ConvertsItems journal (get_or fronts first 0) base) where
  abbrev stretch : List ℕ
  stretch = take n (drop first stamps)

  -- all items of the stretch have the clock's values at their stamps
  item_stated : (k : ℕ) → first ≤ k → k < first + n →
      item_of journal clock fronts stamps k
      ≡ stated k (read_of base clock (get_or stretch (k - first) 0))
  item_stated k low high =
      ap (λ f. item journal clock k f (get_or stamps k 0)) (same k low high)
      ∙ tells clock k (get_or stamps k 0)
      ∙ ap (λ s. stated k (read_of base clock s)) (sym (part_at first n k stamps low (omega arith)))

  -- the items of the stretch up to a place of it
  pub more_written : (m : ℕ) (part new : List ℕ) → m ≤ n → length new ≡ n →
      part ≡ take n (drop first out) → IsFilled base clock stretch 0 m part new →
      IsWritten journal clock fronts stamps (first + m) out (put_mid first n out new)
  more_written m part new few long is_part filled = record {
    values = λ k low. elim (cases_lt k first) [
      | inl early ↦
          so_far k early
          ∙ ap (λ v. Ok (pos v)) (sym (mid_below first n out new k (omega arith) early))
      | inr late ↦
          let j : k - first < m = omega arith in
          item_stated k late (omega arith)
          ∙ ap (stated k) (filled.converted (k - first) (omega arith) j)
          ∙ ap (λ v. Ok (pos v))
          (sym (mid_at first n out new k (omega arith) late (omega arith)))
    ];
    others = λ k late. elim (cases_lt k (first + n)) [
      | inl within ↦
          mid_at first n out new k (omega arith) (omega arith) (omega arith)
          ∙ filled.after (k - first) (omega arith)
          ∙ ap (λ xs. get_or xs (k - first) 0) is_part
          ∙ part_at first n k out (omega arith) (omega arith)
      | inr after ↦
          mid_above first n out new k (omega arith) long after
    ];
  }

  refused_at : (part new : List ℕ) (index : ℕ) (refusal : ReadError) (error : TraceError) →
      length new ≡ n → part ≡ take n (drop first out) →
      IsRefusedAt base clock stretch 0 (length stretch) part new index refusal →
      fault_of_stamp (first + index) refusal ≡ error →
      StopsFrom journal clock fronts stamps first out (put_mid first n out new) error
  refused_at part new index refusal error long is_part back is_stated =
      let here : index < n = omega (arith, back.high, part_long first n stamps inside) in
      let more = more_written index part new (omega arith) long is_part back.filled in
      let e : first + index - first ≡ index = omega arith in
      let fault : item_of journal clock fronts stamps (first + index) ≡ Err error =
      item_stated (first + index) (omega arith) (omega arith)
      ∙ ap (λ j. stated (first + index) (read_of base clock (get_or stretch j 0))) e
      ∙ ap (stated (first + index)) back.refused
      ∙ ap Err is_stated in (
        first + index,
        omega arith,
        first_fault journal clock fronts stamps (put_mid first n out new) (first + index) error
            (omega arith) more.values fault,
        more,
      )

  -- a batch of the stretch traces it
  batch_traced : (part new : List ℕ) (answer : Result ⊤ BatchError) →
      length new ≡ n → part ≡ take n (drop first out) →
      IsBatch base clock stretch part new answer →
      IsStretchTraced journal clock fronts stamps first (first + n) out (put_mid first n out new)
      answer
  batch_traced part new (Ok done) long is_part filled =
      more_written n part new (omega arith) long is_part
      (subst (λ m. IsFilled base clock stretch 0 m part new) (part_long first n stamps inside)
      filled)
  batch_traced part new (Err (batch.Invalid index)) long is_part back =
      refused_at part new index _ _ long is_part back refl
  batch_traced part new (Err (batch.Range index)) long is_part back =
      refused_at part new index _ _ long is_part back refl

-- a batch of the items from `first` up to `end` traces them, if they have one front, whose snapshot
-- has this base
pub stretch_traced : (journal : Journal) (clock : ClockId) (fronts stamps out : List ℕ)
    {first end : ℕ} (base : ReadBase) (new : List ℕ) (answer : Result ⊤ BatchError) →
    AreValues journal clock fronts stamps first out →
    ConvertsItems journal (get_or fronts first 0) base →
    first < end → end ≤ length out → length out ≤ length stamps →
    ((k : ℕ) → first ≤ k → k < end → get_or fronts k 0 ≡ get_or fronts first 0) →
    length new ≡ length (take (end - first) (drop first out)) →
    IsBatch base clock (take (end - first) (drop first stamps))
    (take (end - first) (drop first out)) new answer →
    IsStretchTraced journal clock fronts stamps first end out
    (put_mid first (end - first) out new) answer
stretch_traced journal clock fronts stamps out {first} {end} base new answer so_far tells
    further inside within same long is_batch =
    let n = end - first in
    let e : first + n ≡ end = omega arith in
    subst (λ m. IsStretchTraced journal clock fronts stamps first m out
    (put_mid first n out new) answer) e
    (batch_traced journal clock fronts stamps out first n base so_far (omega arith) (omega arith)
    (λ k low high. same k low (omega arith)) tells _ new answer
    (long ∙ part_long first n out (omega arith)) refl is_batch)
