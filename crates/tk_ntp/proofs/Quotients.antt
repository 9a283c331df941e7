-- A quotient of a number that is bounded by a multiple of the divisor.
use Rattle.std.proofs.Common.{◌≡◌, ℕ, ◌*◌, ◌+◌, ◌<◌, ◌≤◌, arith}
use Rattle.std.proofs.Math.Nat.{lt_of_mul-lt-mul_left}

pub quotient_most : (r s most : ℕ) → 0 < s → r * s ≤ most * s → r ≤ most
quotient_most r s most some h =
    let less : r < most + 1 = lt_of_mul-lt-mul_left s (let it : s * r < s * (most + 1) = omega (arith, h, some) in it) in
    omega arith
