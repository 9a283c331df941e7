use Rattle.std.proofs.Common.{◌∙◌, refl, ap, w64}
use Rattle.std.proofs.lemmas.Int.{to_z-of_z}
use Rattle.tk_clock.specs.State.{State}
use Rattle.tk_clock.specs.declared.command.Command.TheVariants.{Tick}
use Rattle.tk_clock.proofs.Ranges.{tick-between}
use Rattle.tk_clock.proofs.Values.{running_words}
use Rattle.tk_clock.proofs.Effects.{steered_effect}
use Rattle.tk_clock.proofs.clock.Clock.set_tick.Goals as goal

pub steered-requires-clause-slowest : goal.steered-requires-clause-slowest
steered-requires-clause-slowest c =
    let range = tick-between c.args.self.now c.args.now.last c.args.tick c.requires.early in
    rw (to_z-of_z w64 c.args.tick c.ranges.tick) range.0

pub steered-requires-clause-fastest : goal.steered-requires-clause-fastest
steered-requires-clause-fastest c =
    let range = tick-between c.args.self.now c.args.now.last c.args.tick c.requires.early in
    rw (to_z-of_z w64 c.args.tick c.ranges.tick) range.1

pub returns : goal.returns
returns c =
    let state = c.args.self.now in
    let frequency = (running_words c.self.invariant).0
    ∙ ap (λ (s : State). s.frequency) c.self.view_is in
    steered_effect state c.args.now (Tick c.args.tick) state.frequency c.args.tick c.steered.result
    refl refl c.requires.forwarded.stated
    (rw (to_z-of_z w64 c.args.tick c.ranges.tick, frequency) at c.steered.ensures)
