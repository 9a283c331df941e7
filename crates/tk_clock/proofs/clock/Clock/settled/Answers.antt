use Rattle.std.proofs.Common.{◌∙◌, sym, ap}
use Rattle.tk_clock.specs.State.{State}
use Rattle.tk_clock.proofs.Values.{running_words}
use Rattle.tk_clock.proofs.Settings.{IsRunning-settled}
use Rattle.tk_clock.proofs.clock.Clock.settled.Goals as goal

pub invariant_of-result : goal.invariant_of-result
invariant_of-result c =
    let clock = c.self.inside in
    let held = c.self.invariant in
    let mult = c.requires.steered ∙ ap (λ (s : State). s.base.mult) (sym c.self.view_is) in
    let counter = c.requires.counter ∙ ap (λ (s : State). s.base.counter) (sym c.self.view_is) in
    let words = running_words held in
    rw (words.0, words.1) (IsRunning-settled clock.base c.args.base clock.frequency clock.tick
    c.args.cmd held counter mult c.requires.rated c.requires.plain (sym c.if-is_past_limit.ensures))
