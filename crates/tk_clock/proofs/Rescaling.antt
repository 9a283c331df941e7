-- Amounts in the units of another counter.
use Rattle.std.proofs.Common.{◌≡◌, ℕ, ◌+◌, ◌-◌, ◌*◌, ◌/◌, ◌%◌, ◌^◌, ◌<◌, ◌≤◌, sym, ◌∙◌, ap, arith, pow_mono}
use Rattle.std.proofs.lemmas.Nat.{pow_pos, pow-add, div_below}
use Rattle.std.proofs.Math.Nat.{div-div-eq-div-mul, mul-div-mul_right, mul-div_cancel, mul-add-div, div-mul-le_self, lt-div-mul-add, mul-lt-mul_of_pos_right, mod-eq_of_lt}
use Rattle.tk_clock.specs.ChangeCounter.{rescaled, IsKeptAmount}

-- no whole nanosecond is lost
pub rescaled-nanos : (from to units : ℕ) → rescaled from to units / 2 ^ to ≡ units / 2 ^ from
rescaled-nanos from to units =
    div-div-eq-div-mul (units * 2 ^ to) (2 ^ from) (2 ^ to)
    ∙ mul-div-mul_right units (2 ^ from) (pow_pos to)

-- a power of two is the power of a lower exponent, times the power of the difference
split : (low high : ℕ) → low ≤ high → 2 ^ (high - low) * 2 ^ low ≡ 2 ^ high
split low high below =
    let e : high - low + low ≡ high = omega arith in
    sym (pow-add 2 (high - low) low) ∙ ap (λ n. 2 ^ n) e

assoc : (a b c : ℕ) → a * (b * c) ≡ a * b * c
assoc a b c = omega arith

-- units of the longer unit, in the shorter one
finer : (from to units : ℕ) → from ≤ to → units * 2 ^ to ≡ units * 2 ^ (to - from) * 2 ^ from
finer from to units up =
    ap (λ n. units * n) (sym (split from to up)) ∙ assoc units (2 ^ (to - from)) (2 ^ from)

rescaled-finer : (from to units : ℕ) → from ≤ to → rescaled from to units ≡ units * 2 ^ (to - from)
rescaled-finer from to units up =
    ap (λ n. n / 2 ^ from) (finer from to units up)
    ∙ mul-div_cancel (units * 2 ^ (to - from)) (pow_pos from)

-- the shift to the right
pub shifted_right : (from to frac : ℕ) → to ≤ from → frac / 2 ^ (from - to) ≡ rescaled from to frac
shifted_right from to frac down =
    sym (ap (λ n. frac * 2 ^ to / n) (sym (split to from down))
    ∙ mul-div-mul_right frac (2 ^ (from - to)) (pow_pos to))

swapped : (frac n from to : ℕ) → frac * to < n * from * to → frac * to < n * to * from
swapped frac n from to low = omega (arith, low)

-- the part below a second stays below a second
pub rescaled-low : (from to frac : ℕ) → frac < 10 ^ 9 * 2 ^ from →
    rescaled from to frac < 10 ^ 9 * 2 ^ to
rescaled-low from to frac low =
    div_below (frac * 2 ^ to) (2 ^ from) (10 ^ 9 * 2 ^ to) (pow_pos from)
    (swapped frac (10 ^ 9) (2 ^ from) (2 ^ to) (mul-lt-mul_of_pos_right low (pow_pos to)))

-- the shift to the left fits in 64 bits
pub shifted_left : (from to frac : ℕ) → from ≤ to → to ≤ 32 → frac < 10 ^ 9 * 2 ^ from →
    frac * 2 ^ (to - from) % 18446744073709551616 ≡ rescaled from to frac
shifted_left from to frac up high low =
    let same = rescaled-finer from to frac up in
    let below = rescaled-low from to frac low in
    let most : 2 ^ to ≤ 2 ^ 32 = pow_mono high in
    let fits : frac * 2 ^ (to - from) < 18446744073709551616 = omega (arith, same, below, most) in
    mod-eq_of_lt fits ∙ sym same

gathered : (sec frac n from to : ℕ) →
    (sec * (n * from) + frac) * to ≡ from * (sec * (n * to)) + frac * to
gathered sec frac n from to = omega arith

-- whole seconds stay, and the part below a second is converted
pub rescaled-parts : (from to sec frac : ℕ) →
    sec * (10 ^ 9 * 2 ^ to) + rescaled from to frac
    ≡ rescaled from to (sec * (10 ^ 9 * 2 ^ from) + frac)
rescaled-parts from to sec frac =
    sym (ap (λ n. n / 2 ^ from) (gathered sec frac (10 ^ 9) (2 ^ from) (2 ^ to))
    ∙ mul-add-div (pow_pos from) (sec * (10 ^ 9 * 2 ^ to)) (frac * 2 ^ to))

next : (q d n : ℕ) → n < q * d + d → n < (q + 1) * d
next q d n low = omega (arith, low)

-- what is kept of an amount, and what is lost
pub IsKeptAmount-rescaled : (from to units : ℕ) → IsKeptAmount from to units (rescaled from to units)
IsKeptAmount-rescaled from to units =
    record {
      nanos = rescaled-nanos from to units;
      exact = λ up.
          ap (λ n. n * 2 ^ from) (rescaled-finer from to units up)
          ∙ sym (finer from to units up);
      most = div-mul-le_self (units * 2 ^ to) (2 ^ from);
      lost = next (rescaled from to units) (2 ^ from) (units * 2 ^ to)
          (lt-div-mul-add (pow_pos from));
    }
