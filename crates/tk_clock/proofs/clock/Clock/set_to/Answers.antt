use Rattle.std.proofs.Common.{◌≡◌, arith, w64}
use Rattle.std.proofs.lemmas.Int.{ints}
use mir.Val.{to_z, of_z}
use Rattle.tk_clock.proofs.Settings.{IsRunning-set}
use Rattle.tk_clock.proofs.clock.Clock.set_to.Goals as goal

pub invariant_of-result : goal.invariant_of-result
invariant_of-result c =
    let clock = c.self.inside in
    let counter = rw (← c.self.view_is) at c.requires.counter in
    let mult = rw (← c.self.view_is) at c.requires.steered in
    let held = c.self.invariant in
    let frequency : to_z w64 (of_z w64 clock.frequency) ≡ clock.frequency =
    omega (arith, ints, held.frequency_low, held.frequency_high) in
    let tick : to_z w64 (of_z w64 clock.tick) ≡ clock.tick =
    omega (arith, ints, held.tick_low, held.tick_high) in
    rw (c.with_real_offset-base.ensures, frequency, tick)
    (IsRunning-set clock.base c.args.now clock.frequency clock.tick c.args.offset c.self.invariant
    counter mult c.requires.rated
    c.requires.settable c.requires.tai c.requires.boot)
