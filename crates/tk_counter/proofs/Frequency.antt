-- The shift that is chosen for a rate: it exists, and its mult is neither too long nor too short.
use Rattle.std.proofs.Common.{◌≡◌, ℕ, zero, suc, ◌+◌, ◌*◌, ◌/◌, ◌^◌, ◌<◌, ◌≤◌, ◌⊎◌, ⊎_elim, min, List, [], ◌∷◌, cond, find, Option, Some, refl, ap, arith}
use Rattle.std.proofs.lemmas.Bool.{cases_lt, lt-ltb, le-ltb}
use Rattle.std.proofs.lemmas.Nat.{leading_top, leading_length, mul-le, mul-lt, pow-add, le-div}
use Rattle.std.proofs.Math.Nat.{mul-le-mul_left, mul-div-le, mul-pos, lt_of_not-le, min-eq_left, min-eq_right, min-le_right, pow-le-pow_right}
use Rattle.std.specs.Int.{leading_zeros, w64}
use Rattle.tk_counter.specs.Frequency.{rounded_mult, mult_bits, fits, shifts, chosen_shift}

-- the numbers from a number down to 1
down_from : ℕ → List ℕ
down_from zero = []
down_from (suc n) = suc n ∷ down_from n

-- the search for a shift, from a given shift downward
pub found_from : ℕ → ℕ → ℕ → ℕ → Option ℕ
found_from unit rate span shift = find (fits unit rate span) (down_from shift)

pub from_top : (unit rate span : ℕ) →
    chosen_shift unit rate span ≡ found_from unit rate span 32
unfolding shifts down_from found_from
from_top unit rate span = refl

-- the search ends at a shift whose mult is short enough
pub found : (unit rate span shift : ℕ) → 1 ≤ shift →
    rounded_mult unit rate shift < 2 ^ mult_bits rate span →
    found_from unit rate span shift ≡ Some shift
unfolding down_from found_from
found unit rate span zero least short = absurd (omega arith)
found unit rate span (suc n) least short =
    ap (λ b. cond b (Some (suc n)) (find (fits unit rate span) (down_from n))) (lt-ltb _ _ short)

-- the search continues below a shift whose mult is too long
passed_one : (unit rate span below : ℕ) →
    2 ^ mult_bits rate span ≤ rounded_mult unit rate (suc below) →
    found_from unit rate span (suc below) ≡ found_from unit rate span below
unfolding down_from found_from
passed_one unit rate span n long =
    ap (λ b. cond b (Some (suc n)) (find (fits unit rate span) (down_from n))) (le-ltb _ _ long)

pub passed : (unit rate span shift below : ℕ) → shift ≡ suc below →
    2 ^ mult_bits rate span ≤ rounded_mult unit rate shift →
    found_from unit rate span shift ≡ found_from unit rate span below
passed unit rate span shift below next long =
    rw next (passed_one unit rate span below (rw next at long))

-- the cycles of 600,000 units of time, 600 seconds in milliseconds, have no more than 52 bits
cycles_low : (rate span : ℕ) → rate < 2 ^ 32 → span ≤ 600000 → span * rate < 2 ^ 52
cycles_low rate span small short = let most : rate ≤ 4294967295 = omega arith
    in omega (arith, mul-le span rate 600000 4294967295 short most)

zeros_least : (z j p : ℕ) → z + suc j ≡ 64 → 2 ^ j ≤ p → p < 2 ^ 52 → 12 ≤ z
zeros_least z j p e low high =
    ⊎_elim {A = j < 52} {B = 52 ≤ j} (λ small. omega arith) (λ large. let some : 0 < 2 = omega arith
    in absurd (omega (arith, pow-le-pow_right some large))) (cases_lt j 52)

-- so a mult may have at least 12 bits
pub bits_least : (rate span : ℕ) → 0 < rate → rate < 2 ^ 32 → 0 < span → span ≤ 600000 →
    12 ≤ mult_bits rate span
bits_least rate span runs small lasts short =
    let low : span * rate < 2 ^ 52 = cycles_low rate span small short in
    let some : 0 < span * rate = mul-pos lasts runs in
    let top = leading_top 64 (span * rate) some (omega arith) in
    let many : 12 ≤ leading_zeros w64 (span * rate) =
    zeros_least (leading_zeros w64 (span * rate)) top.0 (span * rate) top.1 top.2 low in
    omega arith

-- the mult at a shift of 1 is short enough, whichever bound applies
last_wide : (rate m : ℕ) → 0 < rate → rate * m ≤ 4147483648 → m < 2 ^ 32
last_wide rate m runs low = lt_of_not-le (λ long. let P : ℕ → Type 0 = λ n. n ≤ 4147483648
    in absurd (omega (arith, mul-le 1 4294967296 rate m runs long)))

last_narrow : (rate span m z j : ℕ) → z + suc j ≡ 64 → 2 ^ j ≤ span * rate → span ≤ 600000 →
    rate * m ≤ 4147483648 → m < 2 ^ z
last_narrow rate span m z j e top short low =
    lt_of_not-le (λ long.
    let sum : z + j ≡ 63 = omega arith in
    let whole : 2 ^ z * 2 ^ j ≡ 2 ^ 63 = rw (← pow-add 2 z j) (ap (λ n. 2 ^ n) sum) in
    let much : 2 ^ z * 2 ^ j ≤ m * (span * rate) = mul-le (2 ^ z) (2 ^ j) m (span * rate) long top
    in
    let order : m * (span * rate) ≡ span * (rate * m) = omega arith in
    let little : span * (rate * m) ≤ 600000 * 4147483648 =
    mul-le span (rate * m) 600000 4147483648 short low in
    absurd (omega arith))

last_either : (rate span m z j : ℕ) → 0 < rate → z + suc j ≡ 64 → 2 ^ j ≤ span * rate →
    span ≤ 600000 → rate * m ≤ 4147483648 → m < 2 ^ min 32 z
last_either rate span m z j runs e top short low =
    ⊎_elim {A = z < 32} {B = 32 ≤ z}
    (λ narrow. let few : z ≤ 32 = omega arith
    in rw (min-eq_right few) (last_narrow rate span m z j e top short low))
    (λ wide. rw (min-eq_left wide) (last_wide rate m runs low))
    (cases_lt z 32)

pub last_fits : (unit rate span : ℕ) → unit ≤ 1000000000 → 0 < rate → rate < 2 ^ 32 → 0 < span →
    span ≤ 600000 → rounded_mult unit rate 1 < 2 ^ mult_bits rate span
last_fits unit rate span most runs small lasts short =
    let some : 0 < span * rate = mul-pos lasts runs in
    let fits : span * rate < 2 ^ 64 = omega (arith, cycles_low rate span small short) in
    let top = leading_top 64 (span * rate) some fits in
    let low : rate * rounded_mult unit rate 1 ≤ 4147483648 =
    omega (arith, mul-div-le (unit * 2 ^ 1 + rate / 2) rate) in
    last_either rate span (rounded_mult unit rate 1) _ top.0 runs top.1 top.2 short low

-- the mult at the next lower shift is about half as large
pub half_mult : (unit rate shift : ℕ) → 0 < rate → 4096 ≤ rounded_mult unit rate (shift + 1) →
    512 ≤ rounded_mult unit rate shift
half_mult unit rate shift runs long =
    let twice : unit * 2 ^ (shift + 1) ≡ unit * 2 ^ shift * 2 =
    omega (arith, ap (λ n. unit * n) (pow-add 2 shift 1)) in
    let whole : rate * rounded_mult unit rate (shift + 1) ≤ unit * 2 ^ (shift + 1) + rate / 2 =
    mul-div-le (unit * 2 ^ (shift + 1) + rate / 2) rate in
    let many : rate * 4096 ≤ rate * rounded_mult unit rate (shift + 1) = mul-le-mul_left rate long
    in
    le-div 512 (unit * 2 ^ shift + rate / 2) rate runs (omega arith)

-- the mult at a shift of 32 is long enough
pub top_mult : (unit rate : ℕ) → 1000000 ≤ unit → 0 < rate → rate < 2 ^ 32 →
    512 ≤ rounded_mult unit rate 32
top_mult unit rate least runs small =
    le-div 512 (unit * 2 ^ 32 + rate / 2) rate runs (omega arith)

-- so the mult of the shift at which the search ends is long enough
pub ample : (unit rate span shift above : ℕ) → above ≡ shift + 1 → 1000000 ≤ unit → 0 < rate →
    rate < 2 ^ 32 → 0 < span → span ≤ 600000 →
    (above ≡ 33) ⊎ (2 ^ mult_bits rate span ≤ rounded_mult unit rate above) →
    512 ≤ rounded_mult unit rate shift
ample unit rate span shift above next least runs small lasts short reason =
    ⊎_elim {A = above ≡ 33} {B = 2 ^ mult_bits rate span ≤ rounded_mult unit rate above}
    (λ top. let last : shift ≡ 32 = omega arith in rw last (top_mult unit rate least runs small))
    (λ long.
    let some : 0 < 2 = omega arith in
    let many : 2 ^ 12 ≤ 2 ^ mult_bits rate span =
    pow-le-pow_right some (bits_least rate span runs small lasts short) in
    let enough : 4096 ≤ rounded_mult unit rate above = omega arith in
    half_mult unit rate shift runs (rw next at enough))
    reason

-- with at most these bits, the cycles of the span convert within 64 bits
pub converts : (rate span mult : ℕ) → rate < 2 ^ 32 → span ≤ 600000 → mult < 2 ^ mult_bits rate span →
    span * rate * mult < 2 ^ 64
converts rate span mult small short few =
    let fits : span * rate < 2 ^ 64 = omega (arith, cycles_low rate span small short) in
    let zeros = leading_zeros w64 (span * rate) in
    let top = leading_length 64 (span * rate) fits in
    let some : 0 < 2 = omega arith in
    let lower : min 32 zeros ≤ zeros = min-le_right 32 zeros in
    let bound : 2 ^ min 32 zeros ≤ 2 ^ zeros = pow-le-pow_right some lower in
    let low : mult < 2 ^ zeros = omega arith in
    let sum : top.0 + zeros ≡ 64 = omega (arith, top.1) in
    let whole : 2 ^ top.0 * 2 ^ zeros ≡ 2 ^ 64 = rw (← pow-add 2 top.0 zeros) (ap (λ n. 2 ^ n) sum)
    in
    omega (arith, mul-lt (span * rate) mult (2 ^ top.0) (2 ^ zeros) top.2 low)
