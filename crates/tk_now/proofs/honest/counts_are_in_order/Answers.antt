use Rattle.tk_now.proofs.Honesty.{in_order}
use Rattle.tk_now.proofs.honest.counts_are_in_order.Goals as goal

pub returns : goal.returns
returns c = in_order
