-- The multiplier at the frequency and the tick of a rate.
use Rattle.std.proofs.Common.{◌≡◌, ◌∙◌, ap, ℕ, ◌+◌, ◌*◌, ◌/◌, ◌<◌, ◌≤◌, ℤ, pos, ◌-ℤ◌, ◌≤ℤ◌, unsigned_abs, arith}
use Rattle.std.proofs.Math.Nat.{mul-le-mul_left}
use Rattle.std.proofs.lemmas.Int.{ints, clamps}
use Rattle.tk_counter.specs.Counter.{Counter, rate, multiplier, least_tick, greatest_tick}
use Rattle.tk_ntp.specs.Rate.{rate_of, IsInRange, IsGiven, IsNearUsual}
use borrow.Author.Differences.{abs_is}

pub rate-steered : (r n : ℕ) → r ≤ n * 6553600 + 32768000 → n * 6553600 ≤ r + 32768000 →
    rate (pos r -ℤ pos (n * 6553600)) (pos n) ≡ r
rate-steered r n above below = omega (arith, ints, clamps, abs_is)

-- a length that is not negative
is_natural : (length : ℤ) → pos 0 ≤ℤ length → length ≡ pos (unsigned_abs length)
is_natural length since = omega (arith, ints, abs_is)

-- the rate of a length in range
rate_of-pos : (n : ℕ) → 58949632000 ≤ n / 65536000 → n / 65536000 ≤ 72122368000 →
    rate_of (pos n) ≡ n / 65536000
rate_of-pos n low high = omega (arith, ints, clamps, abs_is)

pub rate_of-in_range : (length : ℤ) → IsInRange length →
    rate_of length ≡ unsigned_abs length / 65536000
rate_of-in_range length range =
    let low = range.0 in
    let high = range.1 in
    let n = unsigned_abs length in
    let is : length ≡ pos n = is_natural length (omega (arith, ints)) in
    ap rate_of is
    ∙ rate_of-pos n (omega (arith, ints, abs_is)) (omega (arith, ints, abs_is))

pub is_given : (counter : Counter) (length : ℤ) (q m : ℕ) → m ≡ counter.mult * q / 65536000000 →
    q ≡ unsigned_abs length / 65536000 → IsGiven counter length m
is_given counter length q m is quotient =
    let k = counter.mult in
    let n = unsigned_abs length in
    let below : q * 65536000 ≤ n = omega (arith, quotient) in
    let above : n ≤ q * 65536000 + 65536000 = omega (arith, quotient) in
    let low : m * 65536000000 ≤ k * q = omega (arith, is) in
    let high : k * q < m * 65536000000 + 65536000000 = omega (arith, is) in
    record {
      at_most = omega (arith, mul-le-mul_left k below);
      at_least = omega (arith, mul-le-mul_left k above);
    }

pub near_usual : (counter : Counter) (q m : ℕ) → m ≡ counter.mult * q / 65536000000 →
    58949632000 ≤ q → q ≤ 72122368000 → IsNearUsual counter m
near_usual counter q m is low high =
    let k = counter.mult in
    let below : m * 65536000000 ≤ k * q = omega (arith, is) in
    let above : k * q < m * 65536000000 + 65536000000 = omega (arith, is) in
    record {
      at_most = omega (arith, mul-le-mul_left k high);
      at_least = omega (arith, mul-le-mul_left k low);
    }

rate_low : (frequency tick : ℤ) → least_tick ≤ℤ tick → 58949632000 ≤ rate frequency tick
rate_low frequency tick low = omega (arith, ints, clamps, abs_is)

rate_high : (frequency tick : ℤ) → least_tick ≤ℤ tick → tick ≤ℤ greatest_tick →
    rate frequency tick ≤ 72122368000
rate_high frequency tick low high = omega (arith, ints, clamps, abs_is)

-- a multiplier at any frequency and any tick that clocks may have
pub near_at_rate : (counter : Counter) (frequency tick : ℤ) (m : ℕ) →
    m ≡ multiplier counter frequency tick → least_tick ≤ℤ tick → tick ≤ℤ greatest_tick →
    IsNearUsual counter m
near_at_rate counter frequency tick m is low high =
    near_usual counter (rate frequency tick) m is (rate_low frequency tick low)
    (rate_high frequency tick low high)
