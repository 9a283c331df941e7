-- Bounds of what an offset in nanoseconds changes the frequency by.
use Rattle.std.proofs.Common.{◌≡◌, ℕ, ◌+◌, ◌-◌, ◌*◌, ◌^◌, ◌≤◌, arith, ℤ, pos, ◌*ℤ◌, unsigned_abs, w64, to_z, of_z, FitsSigned}
use Rattle.std.proofs.lemmas.Nat.{pow-add}
use Rattle.std.proofs.Math.Nat.{mul-le-mul_right, mul-le-mul, pow-le-pow_right}
use Rattle.std.proofs.lemmas.Int.{to_z-of_z, to_z_pos, unsigned_abs-mul, fits_signed_from_abs}

powers : (c : ℕ) → c ≤ 10 → 2 ^ c * 2 ^ (24 - 2 * c) ≤ 2 ^ 24
powers c h =
    let less : c + (24 - 2 * c) ≤ 24 = omega arith in
    rw (← pow-add 2 c (24 - 2 * c)) (pow-le-pow_right {n = 2} (omega arith) less)

pub gain_most : (m c : ℕ) → c ≤ 10 → m ≤ 8 * 2 ^ c → m * 2 ^ (24 - 2 * c) ≤ 2 ^ 27
gain_most m c h few =
    let wide : m * 2 ^ (24 - 2 * c) ≤ 8 * 2 ^ c * 2 ^ (24 - 2 * c) = mul-le-mul_right (2 ^ (24 - 2 * c)) few in
    omega (arith, powers c h)

-- an offset times a gain
pub product_most : (z : ℤ) (n : ℕ) → unsigned_abs z ≤ 500000000 → n ≤ 2 ^ 27 →
    unsigned_abs (z *ℤ pos n) ≤ 67108864000000000
product_most z n h k = rw (unsigned_abs-mul z (pos n)) (mul-le-mul h k)

pub product_is : (z : ℤ) (n : ℕ) → FitsSigned w64 z → unsigned_abs z ≤ 500000000 → n ≤ 2 ^ 27 →
    to_z w64 (of_z w64 (to_z w64 (of_z w64 z) *ℤ to_z w64 n)) ≡ z *ℤ pos n
product_is z n fits h k =
    let most = product_most z n h k in
    rw (to_z-of_z w64 z fits, to_z_pos w64 n (omega arith)) (to_z-of_z w64 (z *ℤ pos n)
    (fits_signed_from_abs w64 (z *ℤ pos n) (omega arith)))
