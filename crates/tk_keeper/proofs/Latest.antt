-- MONOTONIC at a base's own reading, as whole seconds and nanoseconds.
use Rattle.std.proofs.Common.{◌≡◌, ◌∙◌, ℕ, ◌+◌, ◌*◌, ◌/◌, ◌%◌, ◌^◌, ◌<◌, ap, arith, sym}
use Rattle.std.specs.Prelude.{ℤ, pos, ◌+ℤ◌, ◌*ℤ◌, ◌<ℤ◌}
use Rattle.std.proofs.lemmas.Int.{ints}
use Rattle.std.proofs.lemmas.Nat.{div_below, pow_pos}
use Rattle.std.proofs.Math.Nat.{div-add-mod, mod-lt}
use Rattle.tk_counter.specs.Counter.{second}
use Rattle.tk_clock.specs.declared.clock_id.ClockId.TheVariants.{Boottime, Monotonic}
use Rattle.tk_clock.specs.Limits.{clock_end, limit}
use Rattle.tk_clock.specs.State.{ReadBase, base_value}
use Rattle.tk_clock.proofs.Units.{nanos-parts, second_pos}
use Rattle.tk_clock.proofs.Values.{boot-last, monotonic-last, now_of}
use Rattle.tk_keeper.specs.Read.{IsTimeOf}

swapped : (q s r a : ℕ) → s * q + r ≡ a → q * s + r ≡ a
swapped q s r a e = omega (arith, e)

-- the nanoseconds of the whole seconds and of the rest
in_parts : (amount shift : ℕ) →
    amount / (10 ^ 9 * 2 ^ shift) * 10 ^ 9 + amount % (10 ^ 9 * 2 ^ shift) / 2 ^ shift
    ≡ amount / 2 ^ shift
in_parts amount shift =
    let second = 10 ^ 9 * 2 ^ shift in
    nanos-parts (amount / second) (amount % second) shift
    ∙ ap (λ n. n / 2 ^ shift)
    (swapped (amount / second) second (amount % second) amount (div-add-mod amount second))

-- the rest is below a second
rest_low : (amount shift : ℕ) → amount % (10 ^ 9 * 2 ^ shift) / 2 ^ shift < 10 ^ 9
rest_low amount shift = div_below _ _ _ (pow_pos shift) (mod-lt amount (second_pos shift))

-- MONOTONIC isn't ahead of BOOTTIME, which is below its limit
pub seconds_low : (base : ReadBase) (boot : ℕ) → pos boot ≡ base.boot_offset →
    base_value base Boottime base.last <ℤ limit Boottime →
    base.amount / second base.counter < clock_end
seconds_low base boot same low =
    let below : now_of base < clock_end * 10 ^ 9 =
    omega (arith, ints, same, boot-last base, low) in
    omega (arith, below, in_parts base.amount base.counter.shift)

whole : (sec nsec nanos : ℕ) → sec * 10 ^ 9 + nsec ≡ nanos →
    pos sec *ℤ pos (10 ^ 9) +ℤ pos nsec ≡ pos nanos
whole sec nsec nanos e = omega (arith, ints, e)

-- the time of the whole seconds and of the rest is MONOTONIC
pub IsTimeOf-parts : (base : ReadBase) (nanos : ℤ) → base_value base Monotonic base.last ≡ nanos →
    IsTimeOf nanos
    (record {
      sec = pos (base.amount / second base.counter);
      nsec = base.amount % second base.counter / 2 ^ base.counter.shift;
    })
IsTimeOf-parts base nanos value =
    let shift = base.counter.shift in (
      whole (base.amount / (10 ^ 9 * 2 ^ shift)) (base.amount % (10 ^ 9 * 2 ^ shift) / 2 ^ shift)
          (now_of base) (in_parts base.amount shift)
          ∙ sym (monotonic-last base)
          ∙ value,
      rest_low base.amount shift,
      omega (arith, ints),
    )
