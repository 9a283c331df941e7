use Rattle.tk_shared.proofs.Between.{open_in_order, times_in_order}
use Rattle.tk_shared.proofs.never_back.now_never_falls.Goals as goal

pub returns-clause-closed : goal.returns-clause-closed
returns-clause-closed g c = times_in_order _

pub returns-clause-open : goal.returns-clause-open
returns-clause-open g c = open_in_order _
