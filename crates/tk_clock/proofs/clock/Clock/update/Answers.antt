use Rattle.std.proofs.Common.{refl, ap}
use Rattle.tk_clock.specs.State.{ReadBase, State}
use Rattle.tk_clock.specs.declared.command.Command.TheVariants.{Update}
use Rattle.tk_clock.proofs.Effects.{settled_effect}
use Rattle.tk_clock.proofs.clock.Clock.update.Goals as goal

pub returns : goal.returns
returns c =
    let state = c.args.self.now in
    let same = ap (λ (b : ReadBase). let after : State = record state { base = b }
    in after) c.requires.forwarded.stated in
    settled_effect state c.args.now.last Update (record state { base = c.args.now })
    c.settled.result refl same c.settled.ensures
