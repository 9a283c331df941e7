use Rattle.tk_script.proofs.PlainLemmas.{plain-found}
use Rattle.tk_script.proofs.one_line.is_line.Goals as goal

pub returns : goal.returns
returns c =
    plain-found c.args.line.now c.memchr3.result c.is_none.result c.memchr3.ensures c.is_none.ensures
