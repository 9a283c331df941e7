use Rattle.std.proofs.Common.{◌≡◌, ◌∙◌, ap, arith, pos, ◌+ℤ◌, ◌*ℤ◌, w64, to_z, of_z, ◌/◌, ◌+◌, ◌≤◌, unsigned_abs, FitsSigned, ℤ, ℕ}
use Rattle.std.proofs.lemmas.Int.{ints, to_z-of_z, fits_signed_from_abs}
use Rattle.tk_ntp.specs.Length.{longest_second, max_phase, max_frequency}
use borrow.Author.Differences.{abs_is}
use Rattle.tk_ntp.proofs.Lengths.{share_less, second_held}
use Rattle.tk_ntp.proofs.length.length_of_second.Goals as goal

-- the code's sum and product
product_is : (base phase : ℤ) (hz : ℕ) → FitsSigned w64 base → FitsSigned w64 phase → hz ≤ 4294967295 →
    unsigned_abs base ≤ longest_second / hz →
    unsigned_abs phase ≤ max_phase / hz + max_frequency / hz →
    to_z w64 (of_z w64 (to_z w64 (of_z w64 base) +ℤ to_z w64 (of_z w64 phase))) *ℤ to_z w64 (of_z w64 (pos hz))
    ≡ (base +ℤ phase) *ℤ pos hz
product_is base phase hz f g few long more =
    let sum : to_z w64 (of_z w64 (to_z w64 (of_z w64 base) +ℤ to_z w64 (of_z w64 phase))) ≡ base +ℤ phase = omega (
      arith,
      ints,
      abs_is,
      share_less longest_second hz,
      share_less max_phase hz,
      share_less max_frequency hz,
    ) in
    let small : to_z w64 (of_z w64 (pos hz)) ≡ pos hz = omega (arith, ints, abs_is) in
    ap (λ z. z *ℤ to_z w64 (of_z w64 (pos hz))) sum ∙ ap (λ z. (base +ℤ phase) *ℤ z) small

product_fits : (base phase : ℤ) (hz : ℕ) →
    unsigned_abs base ≤ longest_second / hz →
    unsigned_abs phase ≤ max_phase / hz + max_frequency / hz →
    FitsSigned w64 ((base +ℤ phase) *ℤ pos hz)
product_fits base phase hz long more =
    fits_signed_from_abs w64 ((base +ℤ phase) *ℤ pos hz) (second_held (base +ℤ phase) hz (omega (arith, ints, abs_is)))

pub overflow_mul-result : goal.overflow_mul-result
overflow_mul-result c =
    rw c.from.ensures (rw (product_is c.args.base c.args.phase c.args.hz c.ranges.base c.ranges.phase (omega arith) c.requires.base c.requires.phase)
    (product_fits c.args.base c.args.phase c.args.hz c.requires.base c.requires.phase))

pub returns : goal.returns
returns c =
    rw c.from.ensures (rw (product_is c.args.base c.args.phase c.args.hz c.ranges.base c.ranges.phase (omega arith) c.requires.base c.requires.phase)
    (to_z-of_z w64 ((c.args.base +ℤ c.args.phase) *ℤ pos c.args.hz) (product_fits c.args.base c.args.phase c.args.hz c.requires.base c.requires.phase)))
