-- A snapshot of a front gives the result of each of the front's items.
use Rattle.std.proofs.Common.{◌≡◌, ℕ, Some, None, Ok, refl, sym, ap, ap₂, ◌∙◌, arith}
use Rattle.std.specs.Prelude.{ℤ, pos, negsuc, ◌≤ℤ◌, unsigned_abs, Option, nat_lt, int_lt, not, if◌then◌else◌}
use Rattle.std.proofs.lemmas.Int.{ints}
use Rattle.tk_counter.specs.Counter.{mask}
use Rattle.tk_clock.specs.declared.clock_id.ClockId.{ClockId}
use Rattle.tk_clock.specs.declared.refusal.ReadError.{ReadError}
use Rattle.tk_clock.specs.declared.refusal.ReadError.TheVariants.{Invalid, Range}
use Rattle.tk_clock.specs.Clocks.{clock_value}
use Rattle.tk_clock.specs.Journal.{Journal}
use Rattle.tk_clock.specs.Limits.{limit}
use Rattle.tk_clock.specs.Read.{read_of, unless_refused}
use Rattle.tk_clock.specs.State.{ReadBase, base_value}
use Rattle.tk_keeper.specs.Item.{item_at, item_unless}
use Rattle.tk_keeper.specs.Keeper.{ReadsAs}
use Rattle.tk_keeper.specs.Past.{at_front, front_refusal}
use Rattle.tk_keeper.specs.Trace.{stated, ConvertsItems}

whole_again : (value : ℤ) → pos 0 ≤ℤ value → value ≡ pos (unsigned_abs value)
whole_again (pos n) since = refl
whole_again (negsuc n) since = absurd (omega (arith, ints))

-- the result of a value, if its stamp has a fault and if it has none
stated_unless : (index : ℕ) (value : ℤ) (fault : Option ReadError) → pos 0 ≤ℤ value →
    item_at index value fault ≡ stated index (unless_refused fault value)
stated_unless index value None since = ap Ok (whole_again value since)
stated_unless index value (Some error) since = refl

-- the fault of a stamp, by the greatest reading and the clock's value and limit
abbrev fault_by : ℕ → ℕ → ℤ → ℤ → Option ReadError
fault_by greatest stamp end value =
    if nat_lt greatest stamp then Some Invalid
    else if not (int_lt value end) then Some Range
    else None

-- it does if its clocks have the journal's values, and these are never below zero
pub tells_items : (journal : Journal) (front : ℕ) (base : ReadBase) →
    front_refusal journal front ≡ None → ReadsAs (at_front front journal) base →
    base.counter ≡ journal.opening.counter →
    ((clock : ClockId) (reading : ℕ) → pos 0 ≤ℤ base_value base clock reading) →
    ConvertsItems journal front base
unfolding read_of
tells_items journal front base there reads counter since clock index stamp =
    let value = base_value base clock stamp in
    let own = clock_value (at_front front journal) clock stamp in
    let greatest = mask journal.opening.counter in
    let end = limit clock in
    let known = ap (item_unless index (item_at index own (fault_by greatest stamp end own))) there
    in
    let same = ap₂ (λ m v. item_at index v (fault_by m stamp end v)) (ap mask (sym counter))
    (sym (reads clock stamp)) in
    known ∙ same ∙ stated_unless index value (fault_by (mask base.counter) stamp end value)
    (since clock stamp)
