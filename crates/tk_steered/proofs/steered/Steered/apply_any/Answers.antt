use Rattle.std.proofs.Common.{subst}
use Rattle.tk_steered.specs.Kept.{IsObeyed, SteeredKeeper}
use Rattle.tk_steered.proofs.steered.Steered.apply_any.Goals as goal

pub returns : goal.returns
returns g c =
    subst (λ (k : SteeredKeeper). IsObeyed c.args.who c.args.reading c.args.cmd k c.apply.result
    (record { keeper = c.apply.new.clocks; course = c.apply.new.self })) c.self.view_is
    c.apply.ensures
