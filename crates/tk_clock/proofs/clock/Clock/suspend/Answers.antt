use Rattle.std.proofs.Common.{◌∙◌, refl, ap, true}
use Rattle.tk_clock.specs.State.{ReadBase, State}
use Rattle.tk_clock.specs.declared.command.Command.TheVariants.{Suspend}
use Rattle.tk_clock.proofs.Effects.{settled_effect}
use Rattle.tk_clock.proofs.clock.Clock.suspend.Goals as goal

pub returns : goal.returns
returns c =
    let state = c.args.self.now in
    let put : ReadBase → State = λ b. record state { base = b } in
    let same = ap put c.fallen_asleep.ensures
    ∙ ap (λ (b : ReadBase). put (record b { asleep = true })) c.requires.forwarded.stated in
    settled_effect state c.args.now.last Suspend (put c.fallen_asleep.result) c.settled.result refl
    same c.settled.ensures
