-- A lag in the units of another counter.
use Rattle.std.proofs.Common.{◌≡◌, ◌∙◌, ap, ℕ, ◌+◌, ◌-◌, ◌*◌, ◌%◌, ◌^◌, ◌≤◌, arith, ℤ, pos, ◌*ℤ◌, ◌/◌, unsigned_abs, to_z, of_z, FitsSigned}
use Rattle.std.proofs.lemmas.Nat.{pow-add}
use Rattle.std.proofs.Math.Pow.{pow_mono}
use Rattle.std.proofs.Math.Nat.{mod-eq_of_lt, mul-le-mul_right}
use Rattle.std.proofs.lemmas.Int.{to_z-of_z, to_z_pos, unsigned_abs-mul, fits_signed_from_abs}
use Rattle.std.specs.Int.{w128}
use Rattle.tk_ntp.specs.Rate.{nominal}

pub joined : (from to : ℕ) → from ≤ to → 2 ^ from * 2 ^ (to - from) ≡ 2 ^ to
joined from to less =
    let whole : from + (to - from) ≡ to = omega (arith, less) in
    rw (← pow-add 2 from (to - from)) (ap (λ (n : ℕ). 2 ^ n) whole)

unit_low : (from to : ℕ) → to ≤ 32 → 2 ^ (to - from) ≤ 4294967296
unit_low from to low = pow_mono {i = to - from} {j = 32} (omega (arith, low))

-- the unit of the finer counter
pub unit : (from to : ℕ) → to ≤ 32 →
    1 * 2 ^ (to - from) % 340282366920938463463374607431768211456 ≡ 2 ^ (to - from)
unit from to low =
    let small = unit_low from to low in
    mod-eq_of_lt {n = 1 * 2 ^ (to - from)} {m = 340282366920938463463374607431768211456}
    (omega (arith, small))
    ∙ omega arith

-- half a second is less than 2^123 units of any counter
pub wide : (from to : ℕ) (lag : ℤ) → from ≤ to → to ≤ 32 →
    unsigned_abs lag ≤ 10 ^ 9 * 2 ^ from * (nominal / 2) →
    unsigned_abs (lag *ℤ pos (2 ^ (to - from))) ≤ 2 ^ 123
wide from to lag less low most =
    let times = mul-le-mul_right (2 ^ (to - from)) most in
    let units : 2 ^ to ≤ 2 ^ 32 = pow_mono {i = to} {j = 32} low in
    rw (unsigned_abs-mul lag (pos (2 ^ (to - from))))
    (omega (arith, times, joined from to less, units))

held : (from to : ℕ) (lag : ℤ) → from ≤ to → to ≤ 32 →
    unsigned_abs lag ≤ 10 ^ 9 * 2 ^ from * (nominal / 2) → FitsSigned w128 lag
held from to lag less low most =
    let units : 2 ^ from ≤ 2 ^ 32 = pow_mono {i = from} {j = 32} (omega (arith, less, low)) in
    fits_signed_from_abs w128 lag (omega (arith, most, units))

pub fits : (from to : ℕ) (lag : ℤ) → from ≤ to → to ≤ 32 →
    unsigned_abs lag ≤ 10 ^ 9 * 2 ^ from * (nominal / 2) →
    FitsSigned w128 (to_z w128 (of_z w128 lag)
    *ℤ to_z w128 (1 * 2 ^ (to - from) % 340282366920938463463374607431768211456))
fits from to lag less low most =
    let fit = held from to lag less low most in
    let small = unit_low from to low in
    let bound = wide from to lag less low most in
    rw (
      to_z-of_z w128 lag fit,
      unit from to low,
      to_z_pos w128 (2 ^ (to - from))
          (omega (arith, small)),
    )
    (fits_signed_from_abs w128 (lag *ℤ pos (2 ^ (to - from))) (omega (arith, bound)))

pub is : (from to : ℕ) (lag : ℤ) → from ≤ to → to ≤ 32 →
    unsigned_abs lag ≤ 10 ^ 9 * 2 ^ from * (nominal / 2) →
    to_z w128 (of_z w128 (to_z w128 (of_z w128 lag)
    *ℤ to_z w128 (1 * 2 ^ (to - from) % 340282366920938463463374607431768211456)))
    ≡ lag *ℤ pos (2 ^ (to - from))
is from to lag less low most =
    let fit = held from to lag less low most in
    let small = unit_low from to low in
    let bound = wide from to lag less low most in
    rw (
      to_z-of_z w128 lag fit,
      unit from to low,
      to_z_pos w128 (2 ^ (to - from))
          (omega (arith, small)),
    )
    (to_z-of_z w128 (lag *ℤ pos (2 ^ (to - from)))
    (fits_signed_from_abs w128 (lag *ℤ pos (2 ^ (to - from))) (omega (arith, bound))))
