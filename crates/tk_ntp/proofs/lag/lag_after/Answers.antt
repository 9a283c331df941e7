use Rattle.std.proofs.Common.{◌≡◌, ◌∙◌, ap, pos, ◌+ℤ◌, ◌*ℤ◌, unsigned_abs, ◌^◌, FitsSigned, arith}
use Rattle.std.specs.Int.{w128}
use Rattle.std.proofs.lemmas.Int.{ints, to_z-of_z}
use Rattle.tk_ntp.specs.Loops.{clamped_by}
use Rattle.tk_ntp.proofs.Product.{clamped_sum, negative_bound, sum_fits as limited_sum_fits}
use borrow.Author.Differences.{abs_is}
use Rattle.tk_ntp.proofs.lag.lag_after.Goals as goal

pub returns-clause-value : goal.returns-clause-value
returns-clause-value c =
    let lag = c.args.lag in
    let most = c.args.most in
    let m = unsigned_abs most in
    let more = pos c.args.cycles *ℤ c.args.short in
    let growth = c.limited_growth.result in
    let natural : most ≡ pos m = omega (arith, ints, abs_is) in
    let bound = to_z-of_z w128 most c.ranges.most ∙ natural in
    let sum_fits : FitsSigned w128 (lag +ℤ growth) = limited_sum_fits lag growth c.requires.lag
    c.limited_growth.ensures.most in
    let growth_is : growth ≡ clamped_by (2 ^ 126) more =
    rw (to_z-of_z w128 c.args.short c.ranges.short) at c.limited_growth.ensures.value in
    let clamp : c.clamp.result ≡ clamped_by m (lag +ℤ growth) =
    rw (
      negative_bound most m bound c.requires.most,
      to_z-of_z w128 lag c.ranges.lag,
      to_z-of_z w128 growth (record { sfits = c.limited_growth.type_inv }),
      to_z-of_z w128 (lag +ℤ growth) sum_fits,
      bound,
    ) at c.clamp.ensures.value in
    to_z-of_z w128 c.clamp.result (record { sfits = c.clamp.type_inv })
    ∙ clamp
    ∙ ap (λ z. clamped_by m (lag +ℤ z)) growth_is
    ∙ clamped_sum lag more m c.requires.lag c.requires.most
