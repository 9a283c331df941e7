-- A change of counter keeps the time of every clock, and MONOTONIC never falls over it.
use Rattle.std.proofs.Common.{◌≡◌, ℕ, ◌+◌, ◌*◌, ◌/◌, ◌^◌, ◌≤◌, refl, sym, ◌∙◌, ap, subst, arith, Bool, true, false}
use Rattle.std.specs.Prelude.{ℤ, pos, ◌+ℤ◌, ◌*ℤ◌, ◌<ℤ◌, Option, Some, None, ◌||◌, nat_lt, if◌then◌else◌}
use Rattle.std.proofs.lemmas.Bool.{le-leb}
use Rattle.std.proofs.Math.Nat.{mul-le-mul_right}
use Rattle.std.proofs.Math.Pow.{shr_mono}
use Rattle.tk_counter.specs.Counter.{Counter, gap, half, multiplier}
use Rattle.tk_clock.specs.declared.clock_id.ClockId.{ClockId}
use Rattle.tk_clock.specs.declared.clock_id.ClockId.TheVariants.{Realtime, Monotonic, Boottime, Tai, RealtimeCoarse, MonotonicCoarse, MonotonicRaw}
use Rattle.tk_clock.specs.declared.command.Command.TheVariants.{Update}
use Rattle.tk_clock.specs.State.{ReadBase, State, base_cycles, base_monotonic, base_raw, base_value, forwarded}
use Rattle.tk_clock.specs.Origin.{is_coarse}
use Rattle.tk_clock.specs.declared.refusal.Refusal.{Refusal}
use Rattle.tk_clock.specs.declared.refusal.Refusal.TheVariants.{Range}
use Rattle.tk_clock.specs.Refusal.{first_of, state_refusal}
use Rattle.tk_clock.specs.Limits.{limit}
use Rattle.tk_clock.specs.Running.{IsRunning, IsRated, slowest}
use Rattle.tk_clock.specs.Effect.{IsEarly}
use Rattle.tk_clock.specs.ChangeCounter.{rescaled, brought_forward, base_over, changed, reading_refusal, forward_refusal, rate_refusal, change_refusal, KeepsTimes, NeverFallsOver, IsKeptAmount, KeepsAmounts, KeepsSettings}
use Rattle.tk_clock.proofs.Offsets.{cycles_since-self, plus_nothing}
use Rattle.tk_clock.proofs.Forwarding.{base_monotonic-last}
use Rattle.tk_clock.proofs.Monotone.{since_low}
use Rattle.tk_clock.proofs.Effects.{ready, cycles-ahead}
use Rattle.tk_clock.proofs.Rescaling.{rescaled-nanos, IsKeptAmount-rescaled}

-- MONOTONIC_RAW at the last reading
base_raw-last : (base : ReadBase) →
    base_raw base base.last ≡ base.raw_amount / 2 ^ base.counter.shift
base_raw-last base =
    ap (λ k. (base.raw_amount + k * base.counter.mult) / 2 ^ base.counter.shift)
    (cycles_since-self base.counter base.asleep base.last)
    ∙ ap (λ n. n / 2 ^ base.counter.shift) (plus_nothing base.raw_amount base.counter.mult)

-- both running clocks have the time of the last reading at the first reading of another counter
monotonic-over : (base : ReadBase) (counter : Counter) (first mult : ℕ) →
    base_monotonic (base_over base counter first mult) first ≡ base_monotonic base base.last
monotonic-over base counter first mult =
    base_monotonic-last (base_over base counter first mult)
    ∙ rescaled-nanos base.counter.shift counter.shift base.amount
    ∙ sym (base_monotonic-last base)

raw-over : (base : ReadBase) (counter : Counter) (first mult : ℕ) →
    base_raw (base_over base counter first mult) first ≡ base_raw base base.last
raw-over base counter first mult =
    base_raw-last (base_over base counter first mult)
    ∙ rescaled-nanos base.counter.shift counter.shift base.raw_amount
    ∙ sym (base_raw-last base)

-- so has every clock
pub value-over : (base : ReadBase) (counter : Counter) (first mult : ℕ) (clock : ClockId) →
    base_value (base_over base counter first mult) clock first ≡ base_value base clock base.last
value-over base counter first mult Monotonic = ap pos (monotonic-over base counter first mult)
value-over base counter first mult Realtime =
    ap (λ n. pos n +ℤ base.real_offset) (monotonic-over base counter first mult)
value-over base counter first mult Boottime =
    ap (λ n. pos n +ℤ base.boot_offset) (monotonic-over base counter first mult)
value-over base counter first mult Tai =
    ap (λ n. pos n +ℤ base.real_offset +ℤ base.tai *ℤ pos (10 ^ 9))
    (monotonic-over base counter first mult)
value-over base counter first mult RealtimeCoarse =
    ap (λ n. pos n +ℤ base.real_offset) (monotonic-over base counter first mult)
value-over base counter first mult MonotonicCoarse = ap pos (monotonic-over base counter first mult)
value-over base counter first mult MonotonicRaw = ap pos (raw-over base counter first mult)

-- a base has the same times at readings with the same cycles
value-cycles : (base : ReadBase) (reading other : ℕ) →
    base_cycles base reading ≡ base_cycles base other → (clock : ClockId) →
    base_value base clock reading ≡ base_value base clock other
value-cycles base reading other e Monotonic =
    ap (λ k. pos ((base.amount + k * base.mult) / 2 ^ base.counter.shift)) e
value-cycles base reading other e Realtime =
    ap (λ k. pos ((base.amount + k * base.mult) / 2 ^ base.counter.shift) +ℤ base.real_offset) e
value-cycles base reading other e Boottime =
    ap (λ k. pos ((base.amount + k * base.mult) / 2 ^ base.counter.shift) +ℤ base.boot_offset) e
value-cycles base reading other e Tai =
    ap (λ k. pos ((base.amount + k * base.mult) / 2 ^ base.counter.shift) +ℤ base.real_offset
    +ℤ base.tai *ℤ pos (10 ^ 9)) e
value-cycles base reading other e RealtimeCoarse = refl
value-cycles base reading other e MonotonicCoarse = refl
value-cycles base reading other e MonotonicRaw =
    ap (λ k. pos ((base.raw_amount + k * base.counter.mult) / 2 ^ base.counter.shift)) e

-- while the clocks are asleep, no reading counts cycles
asleep-cycles : (base : ReadBase) (reading : ℕ) → base.asleep ≡ true → base_cycles base reading ≡ 0
asleep-cycles base reading e =
    ap (λ b. if b || nat_lt (half base.counter) (gap base.counter base.last reading) then 0
    else gap base.counter base.last reading) e

-- the base brought forward, for clocks that are asleep or awake
abbrev brought : Bool → ReadBase → ℕ → ReadBase
brought asleep base reading = if asleep then base else forwarded base reading

-- it has the time of its last reading at the reading itself
brought-last : (asleep : Bool) (base : ReadBase) (reading : ℕ) (clock : ClockId) →
    base.asleep ≡ asleep →
    base_value (brought asleep base reading) clock (brought asleep base reading).last
    ≡ base_value (brought asleep base reading) clock reading
brought-last true base reading clock e =
    value-cycles base base.last reading
    (asleep-cycles base base.last e ∙ sym (asleep-cycles base reading e)) clock
brought-last false base reading clock e = refl

-- the two amounts of an awake base at a reading that isn't behind
forwarded-monotonic : (base : ReadBase) (reading : ℕ) →
    base_cycles base reading ≡ gap base.counter base.last reading →
    base_monotonic (forwarded base reading) reading ≡ base_monotonic base reading
forwarded-monotonic base reading e =
    base_monotonic-last (forwarded base reading)
    ∙ sym (ap (λ k. (base.amount + k * base.mult) / 2 ^ base.counter.shift) e)

forwarded-raw : (base : ReadBase) (reading : ℕ) →
    base_cycles base reading ≡ gap base.counter base.last reading →
    base_raw (forwarded base reading) reading ≡ base_raw base reading
forwarded-raw base reading e =
    base_raw-last (forwarded base reading)
    ∙ sym (ap (λ k. (base.raw_amount + k * base.counter.mult) / 2 ^ base.counter.shift) e)

-- bringing such a base forward changes no clock's time, except for the coarse clocks
forwarded-value : (base : ReadBase) (reading : ℕ) →
    base_cycles base reading ≡ gap base.counter base.last reading → (clock : ClockId) →
    is_coarse clock ≡ false →
    base_value (forwarded base reading) clock reading ≡ base_value base clock reading
forwarded-value base reading e Monotonic fine = ap pos (forwarded-monotonic base reading e)
forwarded-value base reading e Realtime fine =
    ap (λ n. pos n +ℤ base.real_offset) (forwarded-monotonic base reading e)
forwarded-value base reading e Boottime fine =
    ap (λ n. pos n +ℤ base.boot_offset) (forwarded-monotonic base reading e)
forwarded-value base reading e Tai fine =
    ap (λ n. pos n +ℤ base.real_offset +ℤ base.tai *ℤ pos (10 ^ 9))
    (forwarded-monotonic base reading e)
forwarded-value base reading e RealtimeCoarse fine = absurd cc
forwarded-value base reading e MonotonicCoarse fine = absurd cc
forwarded-value base reading e MonotonicRaw fine = ap pos (forwarded-raw base reading e)

-- each of two tests passes if the first of their refusals is none
first_none : (a b : Option Refusal) → first_of a b ≡ None → (a ≡ None) × (b ≡ None)
first_none None b e = (refl, e)
first_none (Some refusal) b e = absurd (cc e)

-- while awake, clocks are brought forward by the tests of an update
forward-awake : (state : State) (reading : ℕ) (stated : Option Refusal) →
    state.base.asleep ≡ false → state_refusal state reading Update ≡ stated →
    forward_refusal state reading ≡ stated
forward-awake state reading stated awake e =
    ap (λ (b : Bool). if b then reading_refusal state.base.counter reading
    else state_refusal state reading Update) awake
    ∙ e

-- awake clocks that can be brought forward count the whole gap up to the reading
ahead-cycles : (state : State) (reading : ℕ) → state.base.asleep ≡ false →
    forward_refusal state reading ≡ None →
    base_cycles state.base reading ≡ gap state.base.counter state.base.last reading
ahead-cycles state reading awake accepted =
    let base = state.base in
    let passes : state_refusal state reading Update ≡ None =
    sym (forward-awake state reading (state_refusal state reading Update) awake refl) ∙ accepted in
    let early : IsEarly state reading Update = (first_none _ _ passes).0 in
    let parts = ready state reading Update early in
    cycles-ahead base.counter base.asleep base.last reading (parts.awake refl) (parts.ahead refl)

brought-value : (asleep : Bool) (state : State) (reading : ℕ) → state.base.asleep ≡ asleep →
    forward_refusal state reading ≡ None → (clock : ClockId) → is_coarse clock ≡ false →
    base_value (brought asleep state.base reading) clock reading ≡ base_value state.base clock reading
brought-value true state reading e accepted clock fine = refl
brought-value false state reading e accepted clock fine =
    forwarded-value state.base reading (ahead-cycles state reading e accepted) clock fine

-- an accepted change keeps the times of all clocks
pub KeepsTimes-changed : (state : State) (reading : ℕ) (counter : Counter) (first : ℕ) →
    change_refusal state reading counter first ≡ None →
    KeepsTimes state.base reading (changed state reading counter first).base first
KeepsTimes-changed state reading counter first accepted =
    let base = state.base in
    let mult = multiplier counter state.frequency state.tick in
    let forward : forward_refusal state reading ≡ None =
    (first_none _ _ (first_none _ _ accepted).1).0 in
    let kept : (clock : ClockId) →
    base_value (changed state reading counter first).base clock first
    ≡ base_value (brought_forward base reading) clock reading =
    λ clock.
    value-over (brought_forward base reading) counter first mult clock
    ∙ brought-last base.asleep base reading clock refl in
    record {
      read = λ clock fine.
          kept clock ∙ brought-value base.asleep state reading refl forward clock fine;
      forward = kept;
    }

-- what bringing forward leaves as it is
brought-stays : {X : Type 0} (asleep : Bool) (base : ReadBase) (reading : ℕ) (part : ReadBase → X) →
    part (forwarded base reading) ≡ part base → part (brought asleep base reading) ≡ part base
brought-stays true base reading part e = refl
brought-stays false base reading part e = e

-- up to the change, MONOTONIC has at most the units to which it is brought forward
units-up_to : (asleep : Bool) (base : ReadBase) (change reading : ℕ) →
    base_cycles base reading ≤ (if asleep then 0 else gap base.counter base.last change) →
    base.amount + base_cycles base reading * base.mult ≤ (brought asleep base change).amount
units-up_to true base change reading low =
    let units = mul-le-mul_right base.mult low in omega (arith, units)
units-up_to false base change reading low =
    let units = mul-le-mul_right base.mult low in omega (arith, units)

pub NeverFallsOver-changed : (state : State) (change : ℕ) (counter : Counter) (first : ℕ) →
    NeverFallsOver state.base change (changed state change counter first).base
NeverFallsOver-changed state change counter first reading reading' up_to =
    let base = state.base in
    let now = brought_forward base change in
    let after = (changed state change counter first).base in
    let units = units-up_to base.asleep base change reading
    (since_low base.counter base.asleep base.last reading change up_to) in
    let before : base_monotonic base reading ≤ now.amount / 2 ^ base.counter.shift =
    shr_mono base.counter.shift units in
    let same : now.amount / 2 ^ now.counter.shift ≡ now.amount / 2 ^ base.counter.shift =
    ap (λ (k : Counter). now.amount / 2 ^ k.shift)
    (brought-stays base.asleep base change (λ (b : ReadBase). b.counter) refl) in
    let kept : after.amount / 2 ^ counter.shift ≡ now.amount / 2 ^ now.counter.shift =
    rescaled-nanos now.counter.shift counter.shift now.amount in
    let later : after.amount / 2 ^ counter.shift ≤ base_monotonic after reading' =
    shr_mono counter.shift (omega arith) in
    omega (arith, before, same, kept, later)

pub KeepsAmounts-changed : (state : State) (reading : ℕ) (counter : Counter) (first : ℕ) →
    KeepsAmounts state.base reading (changed state reading counter first).base
KeepsAmounts-changed state reading counter first =
    let base = state.base in
    let now = brought_forward base reading in
    let same : now.counter ≡ base.counter =
    brought-stays base.asleep base reading (λ (b : ReadBase). b.counter) refl in
    let kept : (units : ℕ) →
    IsKeptAmount base.counter.shift counter.shift units
    (rescaled now.counter.shift counter.shift units) =
    λ units.
    subst (λ (k : Counter). IsKeptAmount k.shift counter.shift units
    (rescaled now.counter.shift counter.shift units)) same
    (IsKeptAmount-rescaled now.counter.shift counter.shift units) in
    record { monotonic = kept now.amount; raw = kept now.raw_amount }

pub KeepsSettings-changed : (state : State) (reading : ℕ) (counter : Counter) (first : ℕ) →
    KeepsSettings state (changed state reading counter first)
KeepsSettings-changed state reading counter first =
    let base = state.base in
    record {
      frequency = refl;
      tick = refl;
      real_offset = brought-stays base.asleep base reading (λ (b : ReadBase). b.real_offset) refl;
      boot_offset = brought-stays base.asleep base reading (λ (b : ReadBase). b.boot_offset) refl;
      tai = brought-stays base.asleep base reading (λ (b : ReadBase). b.tai) refl;
      asleep = brought-stays base.asleep base reading (λ (b : ReadBase). b.asleep) refl;
    }

-- clocks still run over another counter, if MONOTONIC_RAW is not too far ahead for it
pub IsRunning-over : (base : ReadBase) (frequency tick : ℤ) (counter : Counter) (first mult : ℕ) →
    IsRunning base frequency tick → mult ≡ multiplier counter frequency tick →
    IsRated (base_over base counter first mult) →
    IsRunning (base_over base counter first mult) frequency tick
IsRunning-over base frequency tick counter first mult held steered rated =
    record {
      steered = steered;
      frequency_low = held.frequency_low;
      frequency_high = held.frequency_high;
      tick_low = held.tick_low;
      tick_high = held.tick_high;
      rated = rated;
      within = record {
        real_low = subst (λ (v : ℤ). v <ℤ limit Realtime)
            (sym (value-over base counter first mult Realtime)) held.within.real_low;
        boot_low = subst (λ (v : ℤ). v <ℤ limit Boottime)
            (sym (value-over base counter first mult Boottime)) held.within.boot_low;
        tai_low = subst (λ (v : ℤ). v <ℤ limit Tai)
            (sym (value-over base counter first mult Tai)) held.within.tai_low;
      };
    }

-- clocks pass the test of MONOTONIC_RAW
pub passes-rate : (base : ReadBase) → IsRated base → rate_refusal base ≡ None
passes-rate base rated =
    ap (λ (b : Bool). if b then None else Some Range)
    (le-leb (base.raw_amount * slowest base.counter) (base.amount * base.counter.mult) rated)
