use Rattle.std.proofs.Common.{◌≡◌, ◌-◌, ◌*◌, ◌%◌, ◌^◌, ◌≤◌, ap₂, ◌∙◌, arith}
use Rattle.std.specs.Prelude.{min}
use Rattle.std.proofs.lemmas.Nat.{shl_whole}
use Rattle.std.proofs.Math.Nat.{min-le_left, min-le_right, le-min}
use Rattle.tk_line.proofs.Rooms.{enough, needed, kept_whole}
use Rattle.tk_line.proofs.numbers.room_of.Goals as goal

-- the room, with no shift beyond 64 bits
room_is : (c : goal.After-min) →
    c.min.result
    ≡ min (18446744073709551615 - c.args.frac)
    (c.args.left * 2 ^ c.args.shift - 1 - c.args.frac % 2 ^ c.args.shift)
room_is c =
    let left = kept_whole c.args.left c.args.shift c.if-left-shift.false in
    let one : 1 * 2 ^ c.args.shift % 18446744073709551616 ≡ 1 * 2 ^ c.args.shift =
    shl_whole 1 1 c.args.shift 64 (omega arith) (omega (arith, c.requires.shift)) in
    let scale : 1 * 2 ^ c.args.shift % 18446744073709551616 ≡ 2 ^ c.args.shift =
    omega (arith, one) in
    c.min.ensures
    ∙ ap₂ (λ l s. min (18446744073709551615 - c.args.frac) (l - 1 - c.args.frac % s)) left scale

pub returns : goal.returns
returns c =
    λ units.
    let widest = 18446744073709551615 - c.args.frac in
    let within = c.args.left * 2 ^ c.args.shift - 1 - c.args.frac % 2 ^ c.args.shift in
    let least = min-le_left widest within in
    let lesser = min-le_right widest within in
    let room = room_is c in (
      (λ few. (
        omega (arith, few, room, least, c.ranges.frac.fits),
        enough c.args.frac c.args.left c.args.shift units c.requires.some
            (omega (arith, few, room, lesser)),
      )),
      (λ both.
          let low = needed c.args.frac c.args.left c.args.shift units both.1 in
          let both_low : units ≤ min widest within = le-min (omega (arith, both.0)) low in
          omega (arith, both_low, room)),
    )
