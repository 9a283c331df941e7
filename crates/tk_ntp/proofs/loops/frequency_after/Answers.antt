use Rattle.std.proofs.Common.{◌≡◌, ◌∙◌, ap, arith, ◌+ℤ◌, w64, to_z, of_z, ◌≤◌, ℤ, unsigned_abs}
use Rattle.std.proofs.lemmas.Int.{ints, to_z-of_z}
use Rattle.tk_ntp.specs.Length.{max_frequency}
use Rattle.tk_ntp.specs.Loops.{clamped_by, fll_change, pll_change, uses_fll}
use borrow.Author.Differences.{abs_is}
use Rattle.tk_ntp.proofs.loops.frequency_after.Goals as goal

-- the code's two sums
sum_is : (f a b : ℤ) → unsigned_abs f ≤ 2147483648000000 → unsigned_abs a ≤ 536870912000000000 →
    unsigned_abs b ≤ 67108864000000000 →
    to_z w64 (of_z w64 (to_z w64 (of_z w64 f) +ℤ to_z w64 (of_z w64 (to_z w64 (of_z w64 a) +ℤ to_z w64 (of_z w64 b)))))
    ≡ f +ℤ (a +ℤ b)
sum_is f a b h k l = omega (arith, ints, abs_is)

pub returns-clause-value : goal.returns-clause-value
returns-clause-value c =
    let f = c.args.frequency in
    let x = c.args.offset in
    let offset = to_z-of_z w64 x c.ranges.offset in
    let a = c.fll_change-late.result in
    let b = c.pll_change-usual.result in
    let r = c.clamped.result in
    let late : a ≡ fll_change x c.args.secs (uses_fll c.args.secs c.args.fll) =
    rw offset at c.fll_change-late.ensures.value
    ∙ ap (λ acts. fll_change x c.args.secs acts) c.uses_fll.ensures in
    let usual : b ≡ pll_change x c.args.secs c.args.constant =
    rw offset at c.pll_change-usual.ensures.value in
    let sum = sum_is f a b c.requires.frequency c.fll_change-late.ensures.most
    c.pll_change-usual.ensures.most in
    let clamp : r ≡ clamped_by max_frequency (f +ℤ (a +ℤ b)) =
    c.clamped.ensures.value ∙ ap (clamped_by max_frequency) sum in
    to_z-of_z w64 r (record { sfits = c.clamped.type_inv })
    ∙ clamp
    ∙ ap (λ z. clamped_by max_frequency (f +ℤ (z +ℤ b))) late
    ∙ ap (λ z. clamped_by max_frequency (f +ℤ (fll_change x c.args.secs (uses_fll c.args.secs c.args.fll) +ℤ z))) usual
