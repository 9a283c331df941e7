use Rattle.std.proofs.Common.{◌≡◌, ◌∙◌, ap, arith, ◌+ℤ◌, w64, to_z, of_z, ◌≤◌, ℤ, unsigned_abs}
use Rattle.std.proofs.lemmas.Int.{ints, to_z-of_z}
use Rattle.tk_ntp.specs.Length.{max_phase, max_frequency}
use Rattle.tk_ntp.specs.Phase.{part_of, adjust_part}
use borrow.Author.Differences.{abs_is}
use Rattle.tk_ntp.proofs.Lengths.{share_less}
use Rattle.tk_ntp.proofs.phase.phase_of.Goals as goal

sum_is : (p a : ℤ) → unsigned_abs p ≤ max_phase → unsigned_abs a ≤ max_frequency →
    to_z w64 (of_z w64 (to_z w64 (of_z w64 p) +ℤ to_z w64 (of_z w64 a))) ≡ p +ℤ a
sum_is p a h k = omega (arith, ints, abs_is)

pub returns-clause-value : goal.returns-clause-value
returns-clause-value c =
    let offset = to_z-of_z w64 c.args.offset c.ranges.offset in
    let adjust = to_z-of_z w64 c.args.adjust c.ranges.adjust in
    let p = c.part_of.result in
    let a = c.adjust_part.result in
    let part : p ≡ part_of c.args.offset c.args.constant c.args.status = rw offset at c.part_of.ensures.value in
    let more : a ≡ adjust_part c.args.adjust c.args.hz = rw adjust at c.adjust_part.ensures.value in
    let parts = rw offset at c.part_of.ensures.parts in
    let held = c.requires.held in
    let most = c.adjust_part.ensures.most in
    let first : unsigned_abs p ≤ max_phase = omega (arith, share_less max_phase c.args.hz) in
    let second : unsigned_abs a ≤ max_frequency =
    omega (arith, share_less max_frequency c.args.hz) in
    sum_is p a first second ∙ ap (λ z. z +ℤ a) part
    ∙ ap (λ z. part_of c.args.offset c.args.constant c.args.status +ℤ z) more

pub returns-clause-adjust : goal.returns-clause-adjust
returns-clause-adjust c =
    let adjust = to_z-of_z w64 c.args.adjust c.ranges.adjust in
    let more : c.adjust_part.result ≡ adjust_part c.args.adjust c.args.hz =
    rw adjust at c.adjust_part.ensures.value in
    rw (← more) c.adjust_part.ensures.most
