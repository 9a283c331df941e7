-- The clocks of a read base at its own last reading.
use Rattle.std.proofs.Common.{◌≡◌, ℕ, ◌+◌, ◌*◌, ◌/◌, ◌^◌, ◌<◌, ap, arith, w64, false}
use Rattle.std.specs.Prelude.{ℤ, pos, ◌<ℤ◌, ◌+ℤ◌, ◌*ℤ◌}
use Rattle.std.proofs.lemmas.Int.{ints}
use mir.Val.{to_z, of_z}
use Rattle.std.proofs.lemmas.Nat.{pow_pos, div_below}
use Rattle.tk_counter.specs.Counter.{Counter, second, multiplier, usual_tick}
use Rattle.tk_clock.specs.declared.clock_id.ClockId.TheVariants.{Realtime, Monotonic, Boottime, Tai as TaiClock}
use Rattle.tk_clock.specs.State.{ReadBase, base_value}
use Rattle.tk_clock.specs.Limits.{limit, clock_end, settable_end}
use Rattle.tk_clock.specs.Running.{IsRunning}
use Rattle.tk_clock.proofs.Forwarding.{base_monotonic-last}

-- MONOTONIC at the last reading, in nanoseconds
abbrev pub now_of : ReadBase → ℕ
now_of base = base.amount / 2 ^ base.counter.shift

pub monotonic-last : (base : ReadBase) → base_value base Monotonic base.last ≡ pos (now_of base)
monotonic-last base = ap pos (base_monotonic-last base)

pub real-last : (base : ReadBase) →
    base_value base Realtime base.last ≡ pos (now_of base) +ℤ base.real_offset
real-last base = ap (λ n. pos n +ℤ base.real_offset) (base_monotonic-last base)

pub boot-last : (base : ReadBase) →
    base_value base Boottime base.last ≡ pos (now_of base) +ℤ base.boot_offset
boot-last base = ap (λ n. pos n +ℤ base.boot_offset) (base_monotonic-last base)

pub tai-last : (base : ReadBase) →
    base_value base TaiClock base.last
    ≡ pos (now_of base) +ℤ base.real_offset +ℤ base.tai *ℤ pos (10 ^ 9)
tai-last base = ap (λ n. pos n +ℤ base.real_offset +ℤ base.tai *ℤ pos (10 ^ 9))
    (base_monotonic-last base)

-- the usual rate leaves the mult as it is
pub usual_rate : (counter : Counter) (mult : ℕ) → mult ≡ counter.mult →
    mult ≡ multiplier counter (pos 0) usual_tick
usual_rate counter mult e = omega (arith, e)

-- an amount of 0 has 0 nanoseconds
nothing-nanos : (second shift : ℕ) → (0 * second + 0) / 2 ^ shift ≡ 0
nothing-nanos second shift =
    let low : (0 * second + 0) / 2 ^ shift < 1 =
    div_below (0 * second + 0) (2 ^ shift) 1 (pow_pos shift) (omega (arith, pow_pos shift)) in
    omega arith

-- the read base of newly opened clocks
abbrev opened_base : Counter → ℕ → ℕ → ℕ → ReadBase
opened_base counter reading mult real =
    record {
      counter = counter;
      last = reading;
      mult = mult;
      amount = 0 * second counter + 0;
      raw_amount = 0 * second counter + 0;
      real_offset = pos real;
      boot_offset = pos 0;
      tai = pos 0;
      asleep = false;
    }

-- newly opened clocks run
pub IsRunning-opened : (counter : Counter) (reading mult real : ℕ) → mult ≡ counter.mult →
    real < settable_end * 10 ^ 9 →
    IsRunning (opened_base counter reading mult real) (pos 0) usual_tick
IsRunning-opened counter reading mult real same low =
    let base = opened_base counter reading mult real in
    let none = nothing-nanos (second counter) counter.shift in
    record {
      steered = usual_rate counter mult same;
      frequency_low = omega (arith, ints);
      frequency_high = omega (arith, ints);
      tick_low = omega (arith, ints);
      tick_high = omega (arith, ints);
      rated = omega arith;
      within = record {
        real_low = rw (real-last base, none) (omega (arith, ints));
        boot_low = rw (boot-last base, none) (omega (arith, ints));
        tai_low = rw (tai-last base, none) (omega (arith, ints));
      };
    }

-- the frequency and the tick of running clocks fit in 64-bit words
pub running_words : {base : ReadBase} {frequency tick : ℤ} → IsRunning base frequency tick →
    (to_z w64 (of_z w64 frequency) ≡ frequency) × (to_z w64 (of_z w64 tick) ≡ tick)
running_words held = (
  omega (arith, ints, held.frequency_low, held.frequency_high),
  omega (arith, ints, held.tick_low, held.tick_high),
)

-- if REALTIME is below its limit, its offset from MONOTONIC is below that limit too
pub real_offset_low : (base : ReadBase) (offset : ℕ) → base.real_offset ≡ pos offset →
    base_value base Realtime base.last <ℤ limit Realtime →
    offset < clock_end * 10 ^ 9
real_offset_low base offset e low =
    let stated = rw (real-last base) at low in
    omega (arith, ints, stated, e)
