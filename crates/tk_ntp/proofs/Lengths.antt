-- Quotients times their divisors.
use Rattle.std.proofs.Common.{◌≡◌, ℕ, ◌+◌, ◌*◌, ◌/◌, ◌^◌, ◌<◌, ◌≤◌, arith, ℤ, pos, ◌*ℤ◌, unsigned_abs, w64, to_z, of_z, FitsSigned}
use Rattle.std.proofs.Math.Nat.{div-mul-le_self, div-le_self, mul-le-mul_right}
use Rattle.std.proofs.lemmas.Nat.{le-div}
use Rattle.std.proofs.lemmas.Int.{ints, to_z-of_z, fits_signed_from_abs, unsigned_abs-mul}
use Rattle.tk_ntp.specs.Length.{longest_second, max_phase, max_frequency}

-- a share is no longer than the whole
pub share_less : (n m : ℕ) → n / m ≤ n
share_less n m = div-le_self n m

-- shares together are no longer than the whole
pub shares_less : (n m : ℕ) → n / m * m ≤ n
shares_less n m = div-mul-le_self n m

-- a number times a length is a share of a greater length
pub scaled : (r : ℤ) (k hz n : ℕ) → 0 < hz → unsigned_abs r * hz ≤ n →
    unsigned_abs (r *ℤ pos k) ≤ n * k / hz
scaled r k hz n some h =
    rw (unsigned_abs-mul r (pos k)) (le-div (unsigned_abs r * k) (n * k) hz some (let wide :
    unsigned_abs r * hz * k ≤ n * k = mul-le-mul_right k h in omega arith))

-- a second of held shares fits a word
pub second_held : (z : ℤ) (hz : ℕ) →
    unsigned_abs z ≤ longest_second / hz + (max_phase / hz + max_frequency / hz) →
    unsigned_abs (z *ℤ pos hz) < 2 ^ 63
second_held z hz h =
    rw (unsigned_abs-mul z (pos hz)) (let wide : unsigned_abs z * hz ≤ (longest_second / hz + (max_phase / hz + max_frequency / hz)) * hz =
    mul-le-mul_right hz h in omega (
      arith,
      div-mul-le_self longest_second hz,
      div-mul-le_self max_phase hz,
      div-mul-le_self max_frequency hz,
    ))

-- a share times hz fits a word
pub phase_held : (z : ℤ) (hz : ℕ) → unsigned_abs z ≤ max_phase / hz →
    unsigned_abs (z *ℤ pos hz) < 2 ^ 63
phase_held z hz h = second_held z hz (omega arith)

-- the code's product, where it fits
pub product_is : (z : ℤ) (n : ℕ) → FitsSigned w64 z → n < 2 ^ 32 → unsigned_abs (z *ℤ pos n) < 2 ^ 63 →
    to_z w64 (of_z w64 (to_z w64 (of_z w64 z) *ℤ to_z w64 (of_z w64 (pos n)))) ≡ z *ℤ pos n
product_is z n fits few h =
    let small : to_z w64 (of_z w64 (pos n)) ≡ pos n = omega (arith, ints) in
    rw (to_z-of_z w64 z fits, small)
    (to_z-of_z w64 (z *ℤ pos n) (fits_signed_from_abs w64 (z *ℤ pos n) h))

pub product_fits : (z : ℤ) (n : ℕ) → FitsSigned w64 z → n < 2 ^ 32 → unsigned_abs (z *ℤ pos n) < 2 ^ 63 →
    FitsSigned w64 (to_z w64 (of_z w64 z) *ℤ to_z w64 (of_z w64 (pos n)))
product_fits z n fits few h =
    let small : to_z w64 (of_z w64 (pos n)) ≡ pos n = omega (arith, ints) in
    rw (to_z-of_z w64 z fits, small) (fits_signed_from_abs w64 (z *ℤ pos n) h)
