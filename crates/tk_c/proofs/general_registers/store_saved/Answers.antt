use Rattle.tk_c.proofs.general_registers.store_saved.Goals as goal
use Rattle.tk_c.proofs.Stored.{saved}

pub returns : goal.returns
returns c =
    saved c.args.words.now c.args.first.now c.args.rest.now c.told-words c.told-first c.told-rest
