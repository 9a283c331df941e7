use Rattle.std.proofs.Common.{◌≡◌, ℕ, ◌*◌, ◌≤◌, arith, unsigned_abs, w64}
use Rattle.std.proofs.lemmas.Int.{to_z-of_z}
use Rattle.tk_ntp.specs.Length.{one, max_frequency}
use Rattle.tk_ntp.proofs.Quotients.{quotient_most}
use Rattle.tk_ntp.proofs.pps.measuring.frequency_of.Goals as goal

pub returns-clause-held : goal.returns-clause-held
returns-clause-held c =
    let r = c.toward_zero.result in
    let s = c.turned.result in
    let secs = c.args.secs in
    let most : unsigned_abs r * secs ≤ unsigned_abs s =
    rw (to_z-of_z w64 s (record { sfits = c.turned.type_inv })) at c.toward_zero.ensures.most in
    let less : unsigned_abs s ≤ unsigned_abs c.args.gained * one =
    rw (to_z-of_z w64 c.args.gained c.ranges.gained) at c.turned.ensures.most in
    let near : unsigned_abs c.args.gained ≤ 500000 * secs = c.requires.near in
    let wide : unsigned_abs r * secs ≤ max_frequency * secs = omega (arith, most, less, near) in
    rw (to_z-of_z w64 r (record { sfits = c.toward_zero.type_inv }))
    (quotient_most (unsigned_abs r) secs max_frequency c.requires.some wide)
