-- MONOTONIC_RAW is never far ahead of MONOTONIC.
use Rattle.std.proofs.Common.{◌≡◌, ℕ, ◌+◌, ◌*◌, ◌/◌, ◌^◌, ◌<◌, ◌≤◌, refl, arith}
use Rattle.std.proofs.lemmas.Nat.{pow_pos}
use Rattle.std.proofs.Math.Nat.{mul-le-mul_left, mul-le-mul_right, lt_of_mul-lt-mul_left, mul-pos}
use Rattle.tk_counter.specs.Counter.{IsCounter, second, gap}
use Rattle.tk_clock.specs.State.{ReadBase, forwarded}
use Rattle.tk_clock.specs.Running.{slowest, IsRated}
use Rattle.tk_clock.specs.Limits.{monotonic_end, raw_end}

distribute : (raw amount cycles mult units slow : ℕ) → raw * slow ≤ amount * mult →
    cycles * mult * slow ≤ cycles * units * mult →
    (raw + cycles * mult) * slow ≤ (amount + cycles * units) * mult
distribute raw amount cycles mult units slow p q = omega (arith, p, q)

swapped : (cycles mult units slow : ℕ) → slow ≤ units → cycles * mult * slow ≤ cycles * units * mult
swapped cycles mult units slow low =
    let e : cycles * units * mult ≡ cycles * mult * units = omega arith in
    rw e (mul-le-mul_left (cycles * mult) low)

-- a base that is forwarded at the slowest multiplier or a faster one stays rated
pub IsRated-forwarded : (base : ReadBase) (reading : ℕ) → slowest base.counter ≤ base.mult →
    IsRated base → IsRated (forwarded base reading)
IsRated-forwarded base reading slow rated =
    let cycles = gap base.counter base.last reading in
    distribute base.raw_amount base.amount cycles base.counter.mult base.mult
    (slowest base.counter) rated
    (swapped cycles base.counter.mult base.mult (slowest base.counter) slow)

slow_enough : (mult slow : ℕ) → slow ≡ mult * 58949632000 / 65536000000 → 256 ≤ mult →
    mult * monotonic_end < slow * raw_end
slow_enough mult slow e some = omega (arith, e)

-- while MONOTONIC is below its limit, MONOTONIC_RAW is below 1,060,000,000 seconds
cancel : (raw amount slow mult second : ℕ) → raw * slow ≤ amount * mult →
    amount < monotonic_end * second →
    mult * monotonic_end < slow * raw_end → 0 < mult → 0 < second → raw < raw_end * second
cancel raw amount slow mult second rated low ratio some ticks =
    let one : amount * mult ≤ monotonic_end * second * mult =
    let below : amount ≤ monotonic_end * second = omega arith in mul-le-mul_right mult below in
    let next : mult * monotonic_end + 1 ≤ slow * raw_end = omega arith in
    let two : second * (mult * monotonic_end + 1) ≤ second * (slow * raw_end) =
    mul-le-mul_left second next in
    lt_of_mul-lt-mul_left slow (omega arith)

pub raw_low : (base : ReadBase) → IsCounter base.counter → IsRated base →
    base.amount < monotonic_end * second base.counter →
    base.raw_amount < raw_end * second base.counter
raw_low base described rated low =
    cancel base.raw_amount base.amount (slowest base.counter) base.counter.mult
    (second base.counter) rated low
    (slow_enough base.counter.mult (slowest base.counter) refl described.mult_low)
    (omega (arith, described.mult_low))
    (mul-pos {m = 10 ^ 9} (omega arith) (pow_pos base.counter.shift))

-- an amount below `end` seconds has fewer than `end` whole seconds
pub fewer_seconds : (sec frac end second : ℕ) → sec * second + frac < end * second → sec < end
fewer_seconds sec frac end second low =
    lt_of_mul-lt-mul_left second (omega arith)

-- an amount with fewer than `end` whole seconds, and a part below a second, is below `end` seconds
pub below_seconds : (sec frac end second : ℕ) → sec < end → frac < second →
    sec * second + frac < end * second
below_seconds sec frac end second few rest =
    let one : (sec + 1) * second ≤ end * second = let next : sec + 1 ≤ end = omega arith
    in mul-le-mul_right second next in
    omega arith

pub at_least_seconds : (sec frac end second : ℕ) → end ≤ sec → end * second ≤ sec * second + frac
at_least_seconds sec frac end second many = omega (arith, mul-le-mul_right second many)
