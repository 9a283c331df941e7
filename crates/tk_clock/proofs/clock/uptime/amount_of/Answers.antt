use Rattle.std.proofs.Common.{◌≡◌, arith, w64}
use Rattle.std.specs.Prelude.{pos, unsigned_abs}
use Rattle.std.proofs.lemmas.Int.{ints}
use mir.Val.{to_z, of_z}
use Rattle.tk_clock.proofs.Uptime.{time_units}
use Rattle.tk_clock.proofs.clock.uptime.amount_of.Goals as goal

pub returns-clause-units : goal.returns-clause-units
returns-clause-units c =
    let sec = c.args.time.sec in
    let word : to_z w64 (of_z w64 sec) ≡ sec =
    omega (arith, ints, c.requires.since, c.requires.until) in
    let whole : pos (unsigned_abs (to_z w64 (of_z w64 sec))) ≡ sec =
    rw word (omega (arith, ints, c.requires.since)) in
    rw (c.from.ensures, c.shift.ensures.value)
    (time_units sec (unsigned_abs (to_z w64 (of_z w64 sec))) c.args.time.nsec c.args.desc.now.shift
    whole c.requires.rest c.shift.ensures.counter.shift_high)
