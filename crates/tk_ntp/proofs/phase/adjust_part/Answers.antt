use Rattle.std.proofs.Common.{◌≡◌, ◌*◌, ◌≤◌, arith, pos, ◌*ℤ◌, unsigned_abs, w64, to_z, of_z}
use Rattle.std.proofs.lemmas.Int.{ints}
use borrow.Author.Differences.{abs_is}
use Rattle.tk_ntp.proofs.Lengths.{scaled}
use Rattle.tk_ntp.proofs.phase.adjust_part.Goals as goal

pub returns-else-adjust-clause-most : goal.returns-else-adjust-clause-most
returns-else-adjust-clause-most c =
    let r = c.toward_zero.result in
    let few : unsigned_abs r ≤ 500000 = omega (arith, ints, abs_is, c.toward_zero.ensures.parts) in
    let whole : to_z w64 (of_z w64 (to_z w64 (of_z w64 r) *ℤ pos 4294967296)) ≡ r *ℤ pos 4294967296 =
    omega (arith, ints, abs_is) in
    let hz : c.from.result ≡ c.args.hz = c.from.ensures
    in
    let most : unsigned_abs r * c.args.hz ≤ 500000 = omega (arith, ints, abs_is, rw hz at c.toward_zero.ensures.most) in
    rw whole (scaled r 4294967296 c.args.hz 500000 c.requires most)
