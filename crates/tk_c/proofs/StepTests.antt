-- The tests of a step by the values of the clocks.
use Rattle.std.proofs.Common.{◌≡◌, ◌⊎◌, ℕ, ◌+◌, ◌*◌, ◌^◌, refl, arith, Bool, true, false, inl, inr}
use Rattle.std.specs.Prelude.{◌≤◌, Ok, Err, unsigned_abs, ℤ, pos, ◌+ℤ◌, ◌<ℤ◌, ◌≤ℤ◌, int_lt, not, ◌||◌, nat_lt, Option, Some, None, if◌then◌else◌}
use Rattle.std.proofs.lemmas.Int.{ints}
use Rattle.std.proofs.lemmas.Grind.{common_steps}
use Rattle.tk_clock.specs.declared.clock_id.ClockId.{ClockId}
use Rattle.tk_clock.specs.declared.clock_id.ClockId.TheVariants.{Realtime, Monotonic, Boottime}
use Rattle.tk_clock.specs.declared.command.Command.TheVariants.{Step}
use Rattle.tk_clock.specs.declared.refusal.Refusal.{Refusal}
use Rattle.tk_clock.specs.declared.refusal.Refusal.TheVariants.{Invalid, Range}
use Rattle.tk_clock.specs.declared.refusal.ReadError.{ReadError}
use Rattle.tk_clock.specs.declared.refusal.ReadError.TheVariants.{Invalid as InvalidReading, Range as PastLimit}
use Rattle.tk_clock.specs.declared.timespec.Timespec.{Timespec}
use Rattle.tk_clock.specs.Limits.{limit, is_past_limit, is_bad_setting, is_well_formed, settable_end}
use Rattle.std.proofs.lemmas.Bool.{le-ltb}
use Rattle.tk_counter.specs.Counter.{mask}
use Rattle.tk_clock.specs.Read.{read_of, unless_refused}
use Rattle.tk_clock.specs.Refusal.{early_refusal, value_refusal}
use Rattle.tk_clock.specs.State.{ReadBase, base_value}
use Rattle.tk_clock.specs.Time.{nanoseconds}
use Rattle.tk_c.specs.Steps.{step_refusal}

-- the test of a step's number
pub formed : (by : Timespec) → is_well_formed (Step by) ≡ nat_lt by.nsec (10 ^ 9)
unfolding is_well_formed
formed by = refl

is_below : (x y : ℤ) → x <ℤ y → int_lt x y ≡ true
is_below x y low = grind (arith, common_steps, ints)

not_below : (x y : ℤ) → y ≤ℤ x → int_lt x y ≡ false
not_below x y high = grind (arith, common_steps, ints)

-- a read says whether the clock is below its limit
by_error : (above low : Bool) (value : ℤ) (error : ReadError) → above ≡ false →
    unless_refused (if above then Some InvalidReading else if not low then Some PastLimit else None)
    value ≡ Err error → low ≡ false
by_error true low value error a e = absurd cc
by_error false false value error a e = refl
by_error false true value error a e = absurd cc

at_limit : (x y : ℤ) → int_lt x y ≡ false → y ≤ℤ x
at_limit x y e = grind (arith, common_steps, ints)

pub read_past : (base : ReadBase) (clock : ClockId) (reading : ℕ) (error : ReadError) →
    reading ≤ mask base.counter → read_of base clock reading ≡ Err error →
    limit clock ≤ℤ base_value base clock reading
unfolding read_of
read_past base clock reading error low e =
    at_limit _ _
    (by_error (nat_lt (mask base.counter) reading)
    (int_lt (base_value base clock reading) (limit clock)) (base_value base clock reading) error
    (le-ltb _ _ low) e)

by_value : (above low : Bool) (value : ℤ) (nanos : ℕ) →
    unless_refused (if above then Some InvalidReading else if not low then Some PastLimit else None)
    value ≡ Ok nanos → (low ≡ true) × (unsigned_abs value ≡ nanos)
by_value true low value nanos e = absurd cc
by_value false false value nanos e = absurd cc
by_value false true value nanos e = (refl, cc)

below_limit : (x y : ℤ) → int_lt x y ≡ true → x <ℤ y
below_limit x y e = grind (arith, common_steps, ints)

pub read_low : (base : ReadBase) (clock : ClockId) (reading nanos : ℕ) →
    read_of base clock reading ≡ Ok nanos →
    (base_value base clock reading <ℤ limit clock)
    × (unsigned_abs (base_value base clock reading) ≡ nanos)
unfolding read_of
read_low base clock reading nanos e =
    let found = by_value (nat_lt (mask base.counter) reading)
    (int_lt (base_value base clock reading) (limit clock)) (base_value base clock reading) nanos e in
    (below_limit _ _ found.0, found.1)

-- the first test that fails, by the results of the tests
past : (m b more bad : Bool) → (m ≡ false) ⊎ (b ≡ false) →
    (if not m || not b || more then Some Range else if bad then Some Invalid else None) ≡ Some Range
past false b more bad e = refl
past true false more bad e = refl
past true true more bad (inl e) = absurd cc
past true true more bad (inr e) = absurd cc

outside : (m b low high : Bool) → m ≡ true → b ≡ true → (low ≡ true) ⊎ (high ≡ false) →
    (if not m || not b || false then Some Range
    else if low || not high then Some Invalid
    else None) ≡ Some Invalid
outside true true true high m b e = refl
outside true true false false m b e = refl
outside true true false true m b (inl e) = absurd cc
outside true true false true m b (inr e) = absurd cc
outside true false low high m b e = absurd cc
outside false b' low high m b e = absurd cc

inside : (m b low high : Bool) → m ≡ true → b ≡ true → low ≡ false → high ≡ true →
    (if not m || not b || false then Some Range
    else if low || not high then Some Invalid
    else None) ≡ None
inside true true false true m b l h = refl
inside true true false false m b l h = absurd cc
inside true true true high m b l h = absurd cc
inside true false low high m b l h = absurd cc
inside false b' low high m b l h = absurd cc

-- the code after the early tests, by the values
after_early : (base : ReadBase) (reading : ℕ) (by : Timespec) (later : Option Refusal) →
    early_refusal base.counter base.asleep base.last reading (Step by) ≡ None →
    value_refusal (λ clock. base_value base clock reading) (λ clock. base_value base clock reading)
    (Step by) ≡ later →
    step_refusal base reading by ≡ later
after_early base reading by later early e =
    rw early e

pub step_past : (base : ReadBase) (reading : ℕ) (by : Timespec) →
    early_refusal base.counter base.asleep base.last reading (Step by) ≡ None →
    (limit Monotonic ≤ℤ base_value base Monotonic reading)
    ⊎ (limit Boottime ≤ℤ base_value base Boottime reading) →
    step_refusal base reading by ≡ Some Range
unfolding is_past_limit
step_past base reading by early (inl e) =
    after_early base reading by (Some Range) early
    (past _ _ _ _ (inl (not_below _ _ e)))
step_past base reading by early (inr e) =
    after_early base reading by (Some Range) early
    (past _ _ _ _ (inr (not_below _ _ e)))

pub step_outside : (base : ReadBase) (reading : ℕ) (by : Timespec) →
    early_refusal base.counter base.asleep base.last reading (Step by) ≡ None →
    base_value base Monotonic reading <ℤ limit Monotonic →
    base_value base Boottime reading <ℤ limit Boottime →
    ((base_value base Realtime reading +ℤ nanoseconds by) <ℤ base_value base Monotonic reading)
    ⊎ (pos (settable_end * 10 ^ 9) ≤ℤ (base_value base Realtime reading +ℤ nanoseconds by)) →
    step_refusal base reading by ≡ Some Invalid
unfolding is_past_limit is_bad_setting
step_outside base reading by early m b (inl e) =
    after_early base reading by (Some Invalid) early
    (outside _ _ _ _ (is_below _ _ m) (is_below _ _ b) (inl (is_below _ _ e)))
step_outside base reading by early m b (inr e) =
    after_early base reading by (Some Invalid) early
    (outside _ _ _ _ (is_below _ _ m) (is_below _ _ b) (inr (not_below _ _ e)))

pub step_inside : (base : ReadBase) (reading : ℕ) (by : Timespec) →
    early_refusal base.counter base.asleep base.last reading (Step by) ≡ None →
    base_value base Monotonic reading <ℤ limit Monotonic →
    base_value base Boottime reading <ℤ limit Boottime →
    base_value base Monotonic reading ≤ℤ (base_value base Realtime reading +ℤ nanoseconds by) →
    (base_value base Realtime reading +ℤ nanoseconds by) <ℤ pos (settable_end * 10 ^ 9) →
    step_refusal base reading by ≡ None
unfolding is_past_limit is_bad_setting
step_inside base reading by early m b above below =
    after_early base reading by None early
    (inside _ _ _ _ (is_below _ _ m) (is_below _ _ b) (not_below _ _ above) (is_below _ _ below))

-- REALTIME, from MONOTONIC and the offset
pub real_is : (base : ReadBase) (reading monotonic offset : ℕ) →
    pos monotonic ≡ base_value base Monotonic reading → pos offset ≡ base.real_offset →
    pos (monotonic + offset) ≡ base_value base Realtime reading
real_is base reading monotonic offset value start = omega (arith, ints, value, start)

-- the same tests by the numbers that a step is computed with
pub refused : (base : ReadBase) (reading : ℕ) (by : Timespec) (monotonic real : ℕ) →
    early_refusal base.counter base.asleep base.last reading (Step by) ≡ None →
    pos monotonic ≡ base_value base Monotonic reading →
    pos real ≡ base_value base Realtime reading →
    base_value base Monotonic reading <ℤ limit Monotonic →
    base_value base Boottime reading <ℤ limit Boottime →
    ((pos real +ℤ nanoseconds by) <ℤ pos monotonic)
    ⊎ (pos (settable_end * 10 ^ 9) ≤ℤ (pos real +ℤ nanoseconds by)) →
    step_refusal base reading by ≡ Some Invalid
refused base reading by monotonic real early value start m b out =
    step_outside base reading by early m b (rw (value, start) at out)

pub accepted : (base : ReadBase) (reading : ℕ) (by : Timespec) (monotonic real : ℕ) →
    early_refusal base.counter base.asleep base.last reading (Step by) ≡ None →
    pos monotonic ≡ base_value base Monotonic reading →
    pos real ≡ base_value base Realtime reading →
    base_value base Monotonic reading <ℤ limit Monotonic →
    base_value base Boottime reading <ℤ limit Boottime →
    pos monotonic ≤ℤ (pos real +ℤ nanoseconds by) →
    (pos real +ℤ nanoseconds by) <ℤ pos (settable_end * 10 ^ 9) →
    step_refusal base reading by ≡ None
accepted base reading by monotonic real early value start m b above below =
    step_inside base reading by early m b (rw (value, start) at above) (rw start at below)
