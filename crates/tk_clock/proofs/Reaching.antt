-- When a clock reaches a time: the missing units, the cycles that add them, the reading.
use Rattle.std.proofs.Common.{◌≡◌, ℕ, ◌+◌, ◌-◌, ◌*◌, ◌/◌, ◌%◌, ◌^◌, ◌<◌, ◌≤◌, bit_and, sym, ◌∙◌, ap, subst, arith}
use Rattle.std.specs.Prelude.{ℤ, pos, ◌+ℤ◌, ◌<ℤ◌, ◌≤ℤ◌}
use Rattle.std.specs.Int.{◌∣◌, int_max}
use Rattle.std.proofs.lemmas.Int.{ints, clamps}
use Rattle.std.proofs.lemmas.Nat.{pow_pos, div_below, le-div, and_mask}
use Rattle.std.proofs.Math.Nat.{mod-mod, mod-mod_of_dvd, dvd-mul_right, div-mul-le_self}
use Rattle.tk_counter.proofs.Gaps.{counted_gap, word_split}

-- a clock that gains the missing units is at the time or later
pub enough_units : (nanos offset counted missing units shift : ℕ) (time from : ℤ) →
    pos nanos ≡ int_max (pos 0) time → pos offset ≡ from →
    missing ≡ (nanos - offset) * 2 ^ shift - counted → missing ≤ units →
    time ≤ℤ (pos ((counted + units) / 2 ^ shift) +ℤ from)
enough_units nanos offset counted missing units shift time from e f stated enough =
    let reached = le-div (nanos - offset) (counted + units) (2 ^ shift) (pow_pos shift)
    (omega (arith, stated, enough)) in
    omega (arith, ints, clamps, e, f, reached)

-- with fewer units it is before the time
pub needed_units : (nanos offset counted missing units shift : ℕ) (time from : ℤ) →
    pos nanos ≡ int_max (pos 0) time → pos offset ≡ from →
    missing ≡ (nanos - offset) * 2 ^ shift - counted → units < missing →
    (pos ((counted + units) / 2 ^ shift) +ℤ from) <ℤ time
needed_units nanos offset counted missing units shift time from e f stated few =
    let early = div_below (counted + units) (2 ^ shift) (nanos - offset) (pow_pos shift)
    (omega (arith, stated, few)) in
    omega (arith, ints, clamps, e, f, early)

-- a reading a number of cycles after another
pub masked_sum : (b last cycles : ℕ) → b ≤ 64 →
    bit_and ((last + cycles) % 18446744073709551616) (2 ^ b - 1) ≡ (last + cycles) % 2 ^ b
masked_sum b last cycles small =
    let split : 2 ^ b * 2 ^ (64 - b) ≡ 18446744073709551616 = word_split b small in
    let divides : 2 ^ b ∣ 18446744073709551616 = let P : ℕ → Type 0 = λ n. 2 ^ b ∣ n
    in subst P split (dvd-mul_right (2 ^ b) (2 ^ (64 - b))) in
    and_mask ((last + cycles) % 18446744073709551616) b
    ∙ mod-mod_of_dvd (2 ^ b) (last + cycles) divides

-- it is that many cycles away
pub sum_gap : (d last cycles : ℕ) → 0 < d → cycles < d →
    ((last + cycles) % d + (d - last % d)) % d ≡ cycles
sum_gap d last cycles some near =
    let more : last + cycles - last ≡ cycles = omega arith in
    ap (λ n. ((last + cycles) % d + (d - n)) % d) (sym (mod-mod last d))
    ∙ counted_gap d last (last + cycles) some (omega arith) (omega (arith, near))
    ∙ more

-- a greater amount has at least the same number of nanoseconds
pub nanos-rise : (a b shift : ℕ) → a ≤ b → a / 2 ^ shift ≤ b / 2 ^ shift
nanos-rise a b shift more =
    le-div (a / 2 ^ shift) b (2 ^ shift) (pow_pos shift)
    (omega (arith, more, div-mul-le_self a (2 ^ shift)))
