-- The shift of the finest mult: at 1 a gap of 600 s is exact, and at the greatest such shift the mult
-- is long enough.
use Rattle.std.proofs.Common.{◌≡◌, ◌≤◌, ◌<◌, ◌⊎◌, ⊎_elim, ℕ, ◌+◌, ◌*◌, ◌/◌, ◌^◌, arith, true, false, inl, inr}
use Rattle.std.proofs.lemmas.Bool.{cases_lt}
use Rattle.std.proofs.lemmas.Nat.{mul-le, le-div}
use Rattle.std.proofs.lemmas.Grind.{common_steps}
use Rattle.std.proofs.Math.Nat.{mul-div-le, pow-le-pow_right}
use Rattle.tk_counter.specs.Counter.{Counter, fastest, second}
use Rattle.tk_counter.specs.Frequency.{rounded_mult}
use Rattle.tk_counter.proofs.Frequency.{half_mult}
use Rattle.tk_c.specs.Finest.{counter_at, is_exact}

-- the test of a shift, and what follows from its result
pub is_exact-of : (counter : Counter) (cycles : ℕ) → fastest counter < 2 ^ 32 →
    second counter + cycles * fastest counter ≤ 2 ^ 64 → is_exact counter cycles ≡ true
unfolding is_exact
is_exact-of counter cycles short low = grind (arith, common_steps)

pub exact_short : (counter : Counter) (cycles : ℕ) → is_exact counter cycles ≡ true →
    fastest counter < 2 ^ 32
unfolding is_exact
exact_short counter cycles e = grind (arith, common_steps)

pub not_exact : (counter : Counter) (cycles : ℕ) → is_exact counter cycles ≡ false →
    (2 ^ 32 ≤ fastest counter) ⊎ (2 ^ 64 < second counter + cycles * fastest counter)
unfolding is_exact
not_exact counter cycles e =
    ⊎_elim {A = fastest counter < 2 ^ 32} {B = 2 ^ 32 ≤ fastest counter}
    (λ short.
    ⊎_elim {A = 2 ^ 64 < second counter + cycles * fastest counter}
    {B = second counter + cycles * fastest counter ≤ 2 ^ 64}
    (λ far. inr far)
    (λ near. absurd (grind (arith, common_steps)))
    (cases_lt (2 ^ 64) (second counter + cycles * fastest counter)))
    (λ long. inl long)
    (cases_lt (fastest counter) (2 ^ 32))

-- at the shift 1, a cycle of a counter of 1 Hz has 2 * 10^9 units, and the cycles of 600 s have few
pub low_mult : (hz : ℕ) → 0 < hz → rounded_mult (10 ^ 9) hz 1 ≤ 2000000000
low_mult hz runs =
    let whole : hz * rounded_mult (10 ^ 9) hz 1 ≤ 2000000000 + hz / 2 =
    omega (arith, mul-div-le (10 ^ 9 * 2 ^ 1 + hz / 2) hz) in
    ⊎_elim {A = 2000000000 < rounded_mult (10 ^ 9) hz 1}
    {B = rounded_mult (10 ^ 9) hz 1 ≤ 2000000000}
    (λ high. let least : 2000000001 ≤ rounded_mult (10 ^ 9) hz 1 = omega arith in
    let much : 1 ≤ hz = omega arith in
    absurd (omega (arith, mul-le hz 2000000001 hz (rounded_mult (10 ^ 9) hz 1) (omega arith) least)))
    (λ low. low)
    (cases_lt 2000000000 (rounded_mult (10 ^ 9) hz 1))

pub exact_at_1 : (hz cycles : ℕ) → 0 < hz → hz ≤ 10 ^ 12 → cycles ≤ 600 * hz →
    is_exact (counter_at 64 hz 1) cycles ≡ true
exact_at_1 hz cycles runs most short =
    let m = rounded_mult (10 ^ 9) hz 1 in
    let low : m ≤ 2000000000 = low_mult hz runs in
    let whole : hz * m ≤ 2000000000 + hz / 2 =
    omega (arith, mul-div-le (10 ^ 9 * 2 ^ 1 + hz / 2) hz) in
    let double : m + m * 11 / 100 ≤ 2 * m = omega arith in
    let much : cycles * (m + m * 11 / 100) ≤ (600 * hz) * (2 * m) =
    mul-le cycles (m + m * 11 / 100) (600 * hz) (2 * m) short double in
    let order : (600 * hz) * (2 * m) ≡ 1200 * (hz * m) = omega arith in
    is_exact-of (counter_at 64 hz 1) cycles (omega arith) (omega arith)

-- the mult at the shift 32 is long enough, and the one below a shift that isn't exact
ample_at_32 : (hz : ℕ) → 0 < hz → hz ≤ 10 ^ 12 → 256 ≤ rounded_mult (10 ^ 9) hz 32
ample_at_32 hz runs most = le-div 256 (10 ^ 9 * 2 ^ 32 + hz / 2) hz runs (omega arith)

long_mult : (m cycles second : ℕ) → cycles ≤ 600000000000000 → second ≤ 10 ^ 9 * 2 ^ 32 →
    (2 ^ 32 ≤ m + m * 11 / 100) ⊎ (2 ^ 64 < second + cycles * (m + m * 11 / 100)) → 4096 ≤ m
long_mult m cycles second few low reason =
    ⊎_elim {A = m < 4096} {B = 4096 ≤ m}
    (λ short.
    let fast : m + m * 11 / 100 ≤ 4545 = omega arith in
    let little : cycles * (m + m * 11 / 100) ≤ 600000000000000 * 4545 =
    mul-le cycles (m + m * 11 / 100) 600000000000000 4545 few fast in
    ⊎_elim {A = 2 ^ 32 ≤ m + m * 11 / 100}
    {B = 2 ^ 64 < second + cycles * (m + m * 11 / 100)}
    (λ long. absurd (omega arith)) (λ far. absurd (omega arith)) reason)
    (λ long. long)
    (cases_lt m 4096)

pub ample : (hz cycles shift above : ℕ) → above ≡ shift + 1 → 0 < hz → hz ≤ 10 ^ 12 →
    cycles ≤ 600 * hz → above ≤ 33 →
    (above ≤ 32 → is_exact (counter_at 64 hz above) cycles ≡ false) →
    256 ≤ rounded_mult (10 ^ 9) hz shift
ample hz cycles shift above next runs most short top fails =
    ⊎_elim {A = shift < 32} {B = 32 ≤ shift}
    (λ under.
    let low : above ≤ 32 = omega arith in
    let some : 0 < 2 = omega arith in
    let few : cycles ≤ 600000000000000 = omega arith in
    let power : 2 ^ above ≤ 2 ^ 32 = pow-le-pow_right some low in
    let long : 4096 ≤ rounded_mult (10 ^ 9) hz above =
    long_mult (rounded_mult (10 ^ 9) hz above) cycles (10 ^ 9 * 2 ^ above) few (omega arith)
    (not_exact (counter_at 64 hz above) cycles (fails low)) in
    omega (arith, half_mult (10 ^ 9) hz shift runs (rw next at long)))
    (λ over.
    let last : shift ≡ 32 = omega arith in rw last (ample_at_32 hz runs most))
    (cases_lt shift 32)
