-- Accounts for few cycles, while the lag is far from its greatest.
use Rattle.std.proofs.Common.{◌≡◌, ◌∙◌, sym, subst, ap, ℕ, zero, suc, ◌*◌, ◌^◌, ◌<◌, ◌≤◌, arith}
use Rattle.std.proofs.Common.{ℤ, pos, ◌+ℤ◌, ◌-ℤ◌, ◌*ℤ◌, unsigned_abs, to_z, of_z, w64, FitsSigned}
use Rattle.std.specs.Int.{w128}
use Rattle.std.proofs.lemmas.Int.{ints, fits_signed_from_abs, to_z-of_z, unsigned_abs-mul}
use Rattle.std.proofs.Math.IntN.{suc_ℤ-*ℤ, zero-*ℤ, pos-*ℤ-pos}
use Rattle.std.proofs.Math.Nat.{mul-le-mul}
use Rattle.tk_counter.specs.Counter.{Counter}
use Rattle.tk_ntp.specs.Lag.{greatest_lag, lag_after, short_of}
use Rattle.tk_ntp.specs.Loops.{clamped_by}
use Rattle.tk_ntp.specs.Rate.{nominal}
use Rattle.tk_ntp.proofs.MadeUp.{clamped_same}
use Rattle.tk_ntp.proofs.Scaled.{scaled_twice}
use borrow.Author.Differences.{abs_is}

-- a number of the code, in 128 bits
abbrev pub wide : ℤ → ℤ
wide z = to_z w128 (of_z w128 z)

wide_is : (z : ℤ) → unsigned_abs z ≤ 2 ^ 126 → wide z ≡ z
wide_is z h = to_z-of_z w128 z (fits_signed_from_abs w128 z (omega (arith, h)))

-- units times a length
product_short : (units : ℕ) (length : ℤ) → units < 2 ^ 59 → unsigned_abs length ≤ 2 ^ 63 →
    unsigned_abs (pos units *ℤ length) ≤ 2 ^ 122
product_short units length h k =
    let few : units ≤ 2 ^ 59 = omega (arith, h) in
    let product : units * unsigned_abs length ≤ 2 ^ 59 * 2 ^ 63 = mul-le-mul few k in
    subst (λ (n : ℕ). n ≤ 2 ^ 122) (sym (unsigned_abs-mul (pos units) length))
    (omega (arith, product))

pub length_short : (units : ℕ) (length a b : ℤ) → units < 2 ^ 59 → FitsSigned w64 length →
    a ≡ pos units → b ≡ to_z w64 (of_z w64 length) →
    unsigned_abs (wide (wide a *ℤ wide b)) ≤ 2 ^ 122
length_short units length a b h fits is is' =
    let narrow : unsigned_abs length ≤ 2 ^ 63 = omega (arith, ints, abs_is, fits) in
    let most = product_short units length h narrow in
    let first : wide a ≡ pos units = ap (λ z. wide z) is ∙ wide_is (pos units) (omega (arith, h)) in
    let second : wide b ≡ length =
    ap (λ z. wide z) (is' ∙ to_z-of_z w64 length fits) ∙ wide_is length (omega (arith, narrow)) in
    let whole : wide (wide a *ℤ wide b) ≡ pos units *ℤ length =
    ap (λ z. wide (z *ℤ wide b)) first ∙ ap (λ z. wide (pos units *ℤ z)) second
    ∙ wide_is (pos units *ℤ length) (omega (arith, most)) in
    subst (λ z. unsigned_abs z ≤ 2 ^ 122) (sym whole) most

regrouped : (x y a b : ℤ) → x -ℤ y +ℤ (a -ℤ b) ≡ x +ℤ a -ℤ (y +ℤ b)
regrouped x y a b = omega (arith, ints)

nothing : pos 0 ≡ pos 0 -ℤ pos 0
nothing = omega (arith, ints)

-- a natural times a difference
scaled_difference : (n : ℕ) (a b : ℤ) → pos n *ℤ (a -ℤ b) ≡ pos n *ℤ a -ℤ pos n *ℤ b
scaled_difference zero a b =
    zero-*ℤ (a -ℤ b) ∙ nothing
    ∙ sym (ap (λ z. z -ℤ pos 0 *ℤ b) (zero-*ℤ a) ∙ ap (λ z. pos 0 -ℤ z) (zero-*ℤ b))
scaled_difference (suc n) a b =
    suc_ℤ-*ℤ (pos n) (a -ℤ b)
    ∙ ap (λ z. z +ℤ (a -ℤ b)) (scaled_difference n a b)
    ∙ regrouped (pos n *ℤ a) (pos n *ℤ b) a b
    ∙ sym (ap (λ z. z -ℤ pos (suc n) *ℤ b) (suc_ℤ-*ℤ (pos n) a)
    ∙ ap (λ z. pos n *ℤ a +ℤ a -ℤ z) (suc_ℤ-*ℤ (pos n) b))

-- what some cycles add to the lag, by the lengths of all of them
growth_is : (counter : Counter) (length : ℤ) (mult cycles : ℕ) →
    pos (cycles * counter.mult) *ℤ length -ℤ pos (cycles * mult) *ℤ pos nominal
    ≡ pos cycles *ℤ short_of counter length mult
growth_is counter length mult cycles =
    sym (scaled_difference cycles (pos counter.mult *ℤ length) (pos mult *ℤ pos nominal)
    ∙ ap (λ z. z -ℤ pos cycles *ℤ (pos mult *ℤ pos nominal))
    (scaled_twice cycles counter.mult length)
    ∙ ap (λ z. pos (cycles * counter.mult) *ℤ length -ℤ z)
    (scaled_twice cycles mult (pos nominal)))

difference_short : (a b : ℤ) → unsigned_abs a ≤ 2 ^ 122 → unsigned_abs b ≤ 2 ^ 122 →
    unsigned_abs (a -ℤ b) ≤ 2 ^ 123
difference_short a b h k = omega (arith, ints, abs_is, h, k)

-- the growth of the code: the difference of the lengths
pub grown : (counter : Counter) (length x y : ℤ) (mult cycles own units units' : ℕ) →
    FitsSigned w64 length → own ≡ counter.mult → units ≡ cycles * own →
    units' ≡ cycles * mult → x ≡ pos units *ℤ to_z w64 (of_z w64 length) →
    y ≡ pos (units' * nominal) → unsigned_abs x ≤ 2 ^ 122 → unsigned_abs y ≤ 2 ^ 122 →
    wide (wide x -ℤ wide y) ≡ pos cycles *ℤ short_of counter length mult
grown counter length x y mult cycles own units units' fits owns is is' asked given h k =
    let few = difference_short x y h k in
    let first : x ≡ pos (cycles * counter.mult) *ℤ length =
    asked ∙ ap (λ z. pos units *ℤ z) (to_z-of_z w64 length fits)
    ∙ ap (λ (n : ℕ). pos n *ℤ length) (is ∙ ap (λ (n : ℕ). cycles * n) owns) in
    let second : y ≡ pos (cycles * mult) *ℤ pos nominal =
    given ∙ ap (λ (n : ℕ). pos (n * nominal)) is' ∙ sym (pos-*ℤ-pos (cycles * mult) nominal) in
    ap (λ z. wide (z -ℤ wide y)) (wide_is x (omega (arith, h)))
    ∙ ap (λ z. wide (x -ℤ z)) (wide_is y (omega (arith, k)))
    ∙ wide_is (x -ℤ y) (omega (arith, few))
    ∙ ap (λ z. z -ℤ y) first
    ∙ ap (λ z. pos (cycles * counter.mult) *ℤ length -ℤ z) second
    ∙ growth_is counter length mult cycles

sum_short : (a b : ℤ) → unsigned_abs a ≤ 2 ^ 123 → unsigned_abs b ≤ 2 ^ 123 →
    unsigned_abs (a +ℤ b) ≤ 2 ^ 124
sum_short a b h k = omega (arith, ints, abs_is, h, k)

-- the lag of the code, if it is small: it isn't clamped
pub accounted : (counter : Counter) (length lag a g : ℤ) (mult cycles : ℕ) →
    FitsSigned w64 length → a ≡ lag → unsigned_abs a ≤ 2 ^ 123 →
    g ≡ pos cycles *ℤ short_of counter (to_z w64 (of_z w64 length)) mult →
    unsigned_abs g ≤ 2 ^ 123 → unsigned_abs (wide (wide a +ℤ wide g)) ≤ greatest_lag counter →
    wide (wide a +ℤ wide g) ≡ lag_after counter length mult cycles lag
accounted counter length lag a g mult cycles fits is h is' k small =
    let few = sum_short a g h k in
    let sum : wide (wide a +ℤ wide g) ≡ lag +ℤ pos cycles *ℤ short_of counter length mult =
    ap (λ z. wide (z +ℤ wide g)) (wide_is a (omega (arith, h)))
    ∙ ap (λ z. wide (a +ℤ z)) (wide_is g (omega (arith, k)))
    ∙ wide_is (a +ℤ g) (omega (arith, few))
    ∙ ap (λ z. z +ℤ g) is
    ∙ ap (λ z. lag +ℤ z)
    (is' ∙ ap (λ z. pos cycles *ℤ short_of counter z mult) (to_z-of_z w64 length fits)) in
    sym (clamped_same (greatest_lag counter) (wide (wide a +ℤ wide g)) small)
    ∙ ap (λ z. clamped_by (greatest_lag counter) z) sum
