use Rattle.tk_uses.proofs.InTurn.{now_known}
use Rattle.tk_uses.proofs.in_turn.ask.Goals as goal

pub returns-clause-known : goal.returns-clause-known
returns-clause-known g c =
    let now = c.now.ensures in
    now_known c.args.caller c.now.new.caller now.extends now.noticed now.same.3
