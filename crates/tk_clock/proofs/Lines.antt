-- The value of a clock after the last reading, by its amount there.
use Rattle.std.proofs.Common.{◌≡◌, ap₂, ℕ, ◌+◌, ◌*◌, ◌/◌, ◌^◌, ◌≤◌, Bool, true, false, refl, sym, ap, ◌∙◌, arith}
use Rattle.std.specs.Prelude.{ℤ, pos, ◌+ℤ◌, ◌≤ℤ◌, ◌||◌, if◌then◌else◌}
use Rattle.std.proofs.lemmas.Bool.{le-ltb}
use Rattle.std.proofs.lemmas.Int.{ints}
use Rattle.std.proofs.Math.Nat.{mul-le-mul_right}
use Rattle.tk_counter.specs.Counter.{Counter, half, gap}
use Rattle.tk_clock.specs.declared.clock_id.ClockId.{ClockId}
use Rattle.tk_clock.specs.declared.clock_id.ClockId.TheVariants.{Realtime, Monotonic, Boottime, Tai, RealtimeCoarse, MonotonicCoarse, MonotonicRaw}
use Rattle.tk_clock.specs.Monotonic.{cycles_since}
use Rattle.tk_clock.specs.State.{ReadBase, base_cycles, base_value}
use Rattle.tk_clock.specs.declared.origin.Origin.{Origin}
use Rattle.tk_clock.specs.Origin.{is_coarse, units_at_last, running_mult, mult_of, offset_of, value_after, line_after, IsOrigin, awake}
use Rattle.tk_clock.specs.Reach.{distance}
use Rattle.tk_clock.proofs.Offsets.{cycles_since-self}
use Rattle.tk_clock.proofs.Reaching.{nanos-rise}

-- a clock that doesn't run gains no units in a cycle
pub same_units : (asleep coarse : Bool) (counter : Counter) (last stamp u : ℕ) →
    cycles_since counter false last stamp * (if asleep || coarse then 0 else u)
    ≡ cycles_since counter asleep last (if coarse then last else stamp) * u
same_units true coarse counter last stamp u = omega arith
same_units false true counter last stamp u =
    let none = cycles_since-self counter false last in rw none (omega arith)
same_units false false counter last stamp u = refl

-- the amount of a clock at a stamp, in nanoseconds, without its offset
abbrev pub counted : ReadBase → ClockId → ℕ → ℕ
counted base clock stamp =
    (units_at_last base clock
    + cycles_since base.counter base.asleep base.last
    (if is_coarse clock then base.last else stamp) * running_mult base clock)
    / 2 ^ base.counter.shift

pub value_is : (base : ReadBase) (clock : ClockId) (stamp : ℕ) →
    base_value base clock stamp ≡ pos (counted base clock stamp) +ℤ offset_of base clock
value_is base Monotonic stamp = omega (arith, ints)
value_is base Realtime stamp = refl
value_is base Boottime stamp = refl
value_is base Tai stamp = omega (arith, ints)
value_is base RealtimeCoarse stamp = refl
value_is base MonotonicCoarse stamp = omega (arith, ints)
value_is base MonotonicRaw stamp = omega (arith, ints)

-- a coarse clock gains no units
coarse_units : (asleep coarse : Bool) (counter : Counter) (last stamp u : ℕ) →
    cycles_since counter asleep last stamp * (if coarse then 0 else u)
    ≡ cycles_since counter asleep last (if coarse then last else stamp) * u
coarse_units asleep true counter last stamp u =
    let none = cycles_since-self counter asleep last in rw none (omega arith)
coarse_units asleep false counter last stamp u = refl

-- the value of a clock, by its line while awake
pub line_reads : (base : ReadBase) (clock : ClockId) (line : Origin) (reading : ℕ) →
    IsOrigin (awake base) clock line →
    base_value base clock reading
    ≡ pos (line_after base.counter line (base_cycles base reading))
line_reads base clock line reading given =
    let gained = ap (λ m. base_cycles base reading * m) given.slope
    ∙ coarse_units base.asleep (is_coarse clock) base.counter base.last reading
    (running_mult base clock) in
    let counted_is = ap₂ (λ u n. (u + n) / 2 ^ base.counter.shift) given.units gained in
    value_is base clock reading
    ∙ ap (λ n. pos n +ℤ offset_of base clock) (sym counted_is)
    ∙ on_line _ line.offset (offset_of base clock) given.start
  where
    on_line : (n o : ℕ) (z : ℤ) → pos o ≡ z → pos n +ℤ z ≡ pos (n + o)
    on_line n o z e = ap (λ i. pos n +ℤ i) (sym e)

-- up to half the range, all cycles count
all_cycles : (counter : Counter) (last reading : ℕ) → gap counter last reading ≤ half counter →
    cycles_since counter false last reading ≡ gap counter last reading
all_cycles counter last reading near =
    ap (λ b. if b then 0 else gap counter last reading) (le-ltb _ _ near)

-- the clock's value at a reading ahead
pub value_ahead : (base : ReadBase) (clock : ClockId) (reading : ℕ) →
    distance base reading ≤ half base.counter →
    base_value base clock reading ≡ value_after base clock (distance base reading)
value_ahead base clock reading near =
    let units = units_at_last base clock in
    let same = sym (same_units base.asleep (is_coarse clock) base.counter base.last reading
    (running_mult base clock))
    ∙ ap (λ k. k * mult_of base clock) (all_cycles base.counter base.last reading near) in
    value_is base clock reading
    ∙ ap (λ n. pos ((units + n) / 2 ^ base.counter.shift) +ℤ offset_of base clock) same

-- the value does not fall with more cycles
pub value_rises : (base : ReadBase) (clock : ClockId) (fewer cycles : ℕ) → fewer ≤ cycles →
    value_after base clock fewer ≤ℤ value_after base clock cycles
value_rises base clock fewer cycles more =
    let units = units_at_last base clock in
    let mult = mult_of base clock in
    let grown = mul-le-mul_right mult more in
    let rise = nanos-rise (units + fewer * mult) (units + cycles * mult) base.counter.shift
    (omega (arith, grown)) in
    omega (arith, ints, rise)
