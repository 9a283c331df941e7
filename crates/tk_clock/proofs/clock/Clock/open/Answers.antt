use Rattle.std.proofs.Common.{◌*◌, ◌^◌, ◌<◌, sym, arith}
use Rattle.std.proofs.lemmas.Int.{ints}
use Rattle.tk_clock.proofs.Ranges.{settable-below}
use Rattle.tk_clock.proofs.Values.{IsRunning-opened}
use Rattle.tk_clock.proofs.clock.Clock.open.Goals as goal
use Rattle.tk_clock.specs.Limits.{settable_end}

pub nanos_of-requires-clause-since : goal.nanos_of-requires-clause-since
nanos_of-requires-clause-since c =
    (settable-below c.args.real (sym c.if-not-is_settable.ensures)).since

pub nanos_of-requires-clause-until : goal.nanos_of-requires-clause-until
nanos_of-requires-clause-until c = let below =
    (settable-below c.args.real (sym c.if-not-is_settable.ensures)).until in omega (arith, ints)

pub nanos_of-requires-clause-rest : goal.nanos_of-requires-clause-rest
nanos_of-requires-clause-rest c =
    (settable-below c.args.real (sym c.if-not-is_settable.ensures)).rest

pub invariant_of-result : goal.invariant_of-result
invariant_of-result c =
    let below = settable-below c.args.real (sym c.if-not-is_settable.ensures) in
    let low : c.nanos_of.result < settable_end * 10 ^ 9 =
    omega (arith, ints, c.nanos_of.ensures.value, below.until, below.rest) in
    rw (
      c.zero.ensures,
      c.zero-2.ensures,
    )
    (IsRunning-opened c.args.desc c.args.reading c.mult.result c.nanos_of.result
    c.mult.ensures.value low)
