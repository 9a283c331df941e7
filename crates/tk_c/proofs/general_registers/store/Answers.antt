use Rattle.tk_c.proofs.general_registers.store.Goals as goal
use Rattle.tk_c.proofs.Stored.{stored}

pub returns : goal.returns
returns c = stored c.args.words.now c.args.source.now c.told-words c.told-source
