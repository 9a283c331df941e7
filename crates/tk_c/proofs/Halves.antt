-- The nanoseconds of cycles, from two products of 64 bits.
use Rattle.std.proofs.Common.{◌≡◌, ℕ, ◌+◌, ◌-◌, ◌*◌, ◌/◌, ◌%◌, ◌^◌, ◌≤◌, sym, ◌∙◌, ap, arith, pow_mono, bit_and}
use Rattle.std.specs.Prelude.{min}
use Rattle.std.proofs.lemmas.Nat.{pow_pos, pow-add, div-add-mod', and_mask}
use Rattle.std.proofs.Math.Nat.{mul-add-div_right, mod-eq_of_lt}

powers : (shift : ℕ) → shift ≤ 32 → 2 ^ (32 - shift) * 2 ^ shift ≡ 4294967296
powers shift few =
    let e : 32 - shift + shift ≡ 32 = omega arith in
    sym (pow-add 2 (32 - shift) shift) ∙ ap (λ n. 2 ^ n) e

spread : (cycles upper lower mult power rest : ℕ) → upper * 4294967296 + lower ≡ cycles →
    rest * power ≡ 4294967296 → cycles * mult ≡ upper * mult * rest * power + lower * mult
spread cycles upper lower mult power rest e f =
    let swapped : upper * mult * rest * power ≡ upper * mult * (rest * power) = omega arith in
    rw (swapped, f, ← e) (omega arith)

-- the upper and the lower half of the cycles, each in whole nanoseconds
pub halves : (cycles mult shift : ℕ) → shift ≤ 32 →
    cycles / 4294967296 * mult * 2 ^ (32 - shift) + cycles % 4294967296 * mult / 2 ^ shift
    ≡ cycles * mult / 2 ^ shift
halves cycles mult shift few =
    let units = spread cycles (cycles / 4294967296) (cycles % 4294967296) mult (2 ^ shift)
    (2 ^ (32 - shift)) (div-add-mod' cycles 4294967296) (powers shift few) in
    sym (ap (λ n. n / 2 ^ shift) units
    ∙ mul-add-div_right (pow_pos shift) (cycles / 4294967296 * mult * 2 ^ (32 - shift))
    (cycles % 4294967296 * mult))

saturates_once : (x y most : ℕ) → min (min x most + y) most ≡ min (x + y) most
saturates_once x y most = omega arith

power_fits : (shift : ℕ) → 1 * 2 ^ (32 - shift) % 18446744073709551616 ≡ 2 ^ (32 - shift)
power_fits shift =
    let low : 32 - shift ≤ 32 = omega arith in
    let most : 2 ^ (32 - shift) ≤ 2 ^ 32 = pow_mono low in
    let one : 1 * 2 ^ (32 - shift) ≡ 2 ^ (32 - shift) = omega arith in
    rw one (mod-eq_of_lt (omega (arith, most)))

-- both halves in sums that saturate
pub saturated : (cycles mult shift product result : ℕ) → shift ≤ 32 →
    product ≡ min
    (cycles / 4294967296 * mult * (1 * 2 ^ (32 - shift) % 18446744073709551616))
    18446744073709551615 →
    result ≡ min (product + bit_and cycles 4294967295 * mult / 2 ^ shift) 18446744073709551615 →
    result ≡ min (cycles * mult / 2 ^ shift) 18446744073709551615
saturated cycles mult shift product result few e f =
    let upper = rw (power_fits shift) at e in
    let lower = rw (and_mask cycles 32, upper) at f in
    lower
    ∙ saturates_once (cycles / 4294967296 * mult * 2 ^ (32 - shift))
    (cycles % 4294967296 * mult / 2 ^ shift) 18446744073709551615
    ∙ ap (λ n. min n 18446744073709551615) (halves cycles mult shift few)
