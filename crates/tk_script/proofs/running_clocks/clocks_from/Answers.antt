use Rattle.std.proofs.Common.{◌∙◌, ap, arith, sym, w64}
use Rattle.std.proofs.lemmas.Int.{ints, to_z-of_z}
use Rattle.tk_clock.specs.State.{State}
use Rattle.tk_script.proofs.RunningClocks.{clocks_and, clocks-none, clocks-some, is_running-false, is_running-true, within-restored}
use Rattle.tk_script.proofs.running_clocks.clocks_from.Goals as goal

pub returns-in_default-from_snapshot-clause-value :
    goal.returns-in_default-from_snapshot-clause-value
returns-in_default-from_snapshot-clause-value c =
    let a = c.args in
    let snapshot = c.in-Some.snapshot in
    let known = sym c.in-Some.ensures.value in
    let within = within-restored a.desc a.words snapshot known in
    sym (clocks-none a.desc a.words a.frequency a.tick snapshot known
    (is_running-false snapshot.base a.frequency a.tick
    (omega (arith, ints, c.ranges.frequency)) (omega (arith, ints, c.ranges.frequency)) within
    (rw (to_z-of_z w64 a.frequency c.ranges.frequency, to_z-of_z w64 a.tick c.ranges.tick) at
    c.in_default-from_snapshot.ensures)))

pub returns-clause-value : goal.returns-clause-value
returns-clause-value c =
    let a = c.args in
    let snapshot = c.in-Some.snapshot in
    let known = sym c.in-Some.ensures.value in
    let made = rw (to_z-of_z w64 a.frequency c.ranges.frequency, to_z-of_z w64 a.tick c.ranges.tick) at
    c.in-Some-from_snapshot.ensures in
    let clock : State = record { base = snapshot.base; frequency = a.frequency; tick = a.tick } in
    ap (λ (k : State). clocks_and k c.front-front.result) made.1
    ∙ ap (clocks_and clock) c.front-front.ensures
    ∙ sym (clocks-some a.desc a.words a.frequency a.tick snapshot known
    (omega (arith, c.if-front-gt-FRONT_LIMIT.false, c.front-front.ensures))
    (is_running-true snapshot.base a.frequency a.tick made.0))
