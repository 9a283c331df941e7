-- The digits of numbers below 10^10.
use Rattle.std.proofs.Common.{◌≡◌, ℕ, ◌+◌, ◌*◌, ◌/◌, ◌%◌, ◌^◌, ◌<◌, ◌≤◌, ◌∷◌, get_or, refl, arith, decimal}
use Rattle.itoa.proofs.Decimal.{PAIRS_at, decimal_four, decimal_two}
use Rattle.tk_script.specs.Utc.{nine_digits}
use Rattle.tk_script.specs.declared.digits.TheConstants.{PAIRS}

-- the table has the two digits of each number
pub pair-at : (p : ℕ) → p < 100
    → (get_or PAIRS (p * 2) 0 ≡ 48 + p / 10) × (get_or PAIRS (p * 2 + 1) 0 ≡ 48 + p % 10)
pair-at p low = PAIRS_at p low

-- a number of ten digits
pub decimal-ten : (n : ℕ) → 10 ^ 9 ≤ n → n < 10 ^ 10 →
    decimal n ≡ (48 + n / 10 ^ 9) ∷ nine_digits (n % 10 ^ 9)
decimal-ten n high low =
    let last : n % 10000 ≡ n % 10 ^ 9 % 10000 = omega arith in
    let middle : n / 10000 % 10000 ≡ n % 10 ^ 9 / 10000 % 10000 = omega arith in
    let upper : n / 10000 / 10000 ≡ n / 100000000 = omega arith in
    let first : n / 100000000 / 10 ≡ n / 10 ^ 9 = omega arith in
    let second : n / 100000000 % 10 ≡ n % 10 ^ 9 / 100000000 = omega arith in
    rw (
      decimal_four n (omega arith) (omega arith),
      decimal_four (n / 10000) (omega arith) (omega arith),
      last,
      middle,
      upper,
      decimal_two (n / 100000000) (omega arith) (omega arith),
      first,
      second,
    ) refl
