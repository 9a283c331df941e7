-- Products of more than 128 bits, limited to a number that fits.
use Rattle.std.proofs.Common.{◌≡◌, ◌∙◌, sym, ap, ℕ, ◌+◌, ◌*◌, ◌/◌, ◌%◌, ◌^◌, ◌<◌, ◌≤◌, min, arith}
use Rattle.std.proofs.Common.{ℤ, pos, neg_ℤ, ◌+ℤ◌, ◌-ℤ◌, unsigned_abs, to_z, of_z, w64, FitsSigned}
use Rattle.std.specs.Int.{w128}
use Rattle.std.proofs.lemmas.Int.{ints, clamps, fits_signed_from_abs}
use Rattle.std.proofs.lemmas.Nat.{div-add-mod'}
use Rattle.std.proofs.Math.Nat.{mul-add, mul_assoc}
use Rattle.tk_ntp.specs.Loops.{clamped_by}
use borrow.Author.Differences.{abs_is}

-- a product by the halves of a factor
pub halves : (cycles short : ℕ) →
    cycles * short ≡ cycles * (short / 2 ^ 32) * 2 ^ 32 + cycles * (short % 2 ^ 32)
halves cycles short =
    ap (λ s. cycles * s) (sym (div-add-mod' short (2 ^ 32)))
    ∙ mul-add cycles (short / 2 ^ 32 * 2 ^ 32) (short % 2 ^ 32)
    ∙ ap (λ p. p + cycles * (short % 2 ^ 32)) (sym (mul_assoc cycles (short / 2 ^ 32) (2 ^ 32)))

limited : (product upper lower : ℕ) → product ≡ upper * 2 ^ 32 + lower → 2 ^ 94 ≤ upper →
    2 ^ 126 ≡ min product (2 ^ 126)
limited product upper lower is h = omega arith

-- the product is at its limit if its upper half is
pub beyond : (cycles short : ℕ) → 2 ^ 94 ≤ cycles * (short / 2 ^ 32) →
    2 ^ 126 ≡ min (cycles * short) (2 ^ 126)
beyond cycles short h =
    limited (cycles * short) (cycles * (short / 2 ^ 32)) (cycles * (short % 2 ^ 32))
    (halves cycles short) h

-- a sum with a limited number, clamped to less
pub clamped_sum : (a p : ℤ) (m : ℕ) → unsigned_abs a ≤ 2 ^ 123 → m ≤ 2 ^ 123 →
    clamped_by m (a +ℤ clamped_by (2 ^ 126) p) ≡ clamped_by m (a +ℤ p)
clamped_sum a p m h k = omega (arith, ints, clamps, abs_is)

negated : (n : ℕ) → n ≤ 2 ^ 123 → to_z w128 (of_z w128 (pos 0 -ℤ pos n)) ≡ neg_ℤ (pos n)
negated n k = omega (arith, ints)

-- the code's negative bound
pub negative_bound : (z : ℤ) (n : ℕ) → to_z w128 (of_z w128 z) ≡ pos n → n ≤ 2 ^ 123 →
    to_z w128 (of_z w128 (pos 0 -ℤ to_z w128 (of_z w128 z))) ≡ neg_ℤ (pos n)
negative_bound z n h k = rw h (negated n k)

-- a number that is clamped to a short bound fits 64 bits
pub clamped_fits : (m : ℕ) (q : ℤ) → m ≤ 2 ^ 56 → FitsSigned w64 (clamped_by m q)
clamped_fits m q h =
    let few : unsigned_abs (clamped_by m q) ≤ m = omega (arith, ints, clamps, abs_is) in
    fits_signed_from_abs w64 (clamped_by m q) (omega arith)

-- a lag and what some cycles add to it fit 128 bits
pub sum_fits : (lag growth : ℤ) → unsigned_abs lag ≤ 2 ^ 123 → unsigned_abs growth ≤ 2 ^ 126 →
    FitsSigned w128 (lag +ℤ growth)
sum_fits lag growth h k =
    let few : unsigned_abs (lag +ℤ growth) < 2 ^ 127 = omega (arith, ints, abs_is) in
    fits_signed_from_abs w128 (lag +ℤ growth) few
