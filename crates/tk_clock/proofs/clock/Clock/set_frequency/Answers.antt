use Rattle.std.proofs.Common.{◌∙◌, refl, ap, w64}
use Rattle.std.proofs.lemmas.Int.{to_z-of_z}
use Rattle.tk_clock.specs.State.{State}
use Rattle.tk_clock.specs.declared.command.Command.TheVariants.{Freq}
use Rattle.tk_clock.proofs.Values.{running_words}
use Rattle.tk_clock.proofs.Effects.{steered_effect}
use Rattle.tk_clock.proofs.clock.Clock.set_frequency.Goals as goal

pub returns : goal.returns
returns c =
    let frequency = to_z-of_z w64 c.args.frequency c.ranges.frequency in
    let tick = (running_words c.self.invariant).1 ∙ ap (λ (s : State). s.tick) c.self.view_is in
    steered_effect c.args.self.now c.args.now (Freq c.args.frequency) c.args.frequency
    c.args.self.now.tick c.steered.result refl refl c.requires.forwarded.stated
    (rw (frequency, tick) at c.steered.ensures)
