-- The multipliers that may be in force.
use Rattle.std.proofs.Common.{ℕ, ◌*◌, ◌/◌, ◌≤◌, arith}
use Rattle.std.specs.Prelude.{ℤ, neg_ℤ, ◌≤ℤ◌}
use Rattle.std.specs.Int.{int_max, int_min}
use Rattle.std.proofs.lemmas.Int.{ints, int_max_is}
use Rattle.std.proofs.Math.Nat.{mul-le-mul_left}
use Rattle.tk_counter.specs.Counter.{Counter, clamped, rate, multiplier, least_tick, greatest_frequency}
use Rattle.tk_clock.specs.Running.{slowest}

max_low : (a b : ℤ) → a ≤ℤ int_max a b
max_low a b = omega (arith, ints, int_max_is a b)

clamped_low : (frequency : ℤ) → neg_ℤ greatest_frequency ≤ℤ clamped frequency
clamped_low frequency = max_low (neg_ℤ greatest_frequency) (int_min frequency greatest_frequency)

-- at a tick that may be set, the rate is at least the slowest one
rate_low : (frequency tick : ℤ) → least_tick ≤ℤ tick → 58949632000 ≤ rate frequency tick
rate_low frequency tick low = let held = clamped_low frequency in omega (arith, ints, held)

by_rate : (mult slow fast : ℕ) → slow ≤ fast → mult * slow / 65536000000 ≤ mult * fast / 65536000000
by_rate mult slow fast low = omega (arith, mul-le-mul_left mult low)

pub slowest-≤ : (counter : Counter) (frequency tick : ℤ) → least_tick ≤ℤ tick →
    slowest counter ≤ multiplier counter frequency tick
slowest-≤ counter frequency tick low =
    by_rate counter.mult 58949632000 (rate frequency tick) (rate_low frequency tick low)

slowest_some : (mult : ℕ) → 256 ≤ mult → 1 ≤ mult * 58949632000 / 65536000000
slowest_some mult some = omega arith

pub multiplier_some : (counter : Counter) (frequency tick : ℤ) → 256 ≤ counter.mult →
    least_tick ≤ℤ tick → 1 ≤ multiplier counter frequency tick
multiplier_some counter frequency tick some low =
    let one = slowest_some counter.mult some in
    let most = slowest-≤ counter frequency tick low in
    omega arith
