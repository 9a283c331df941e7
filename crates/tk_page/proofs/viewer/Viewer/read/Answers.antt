use Rattle.tk_page.proofs.Steps.{reads_as}
use Rattle.tk_page.proofs.viewer.Viewer.read.Goals as goal

pub load-words-requires-clause-rule : goal.load-words-requires-clause-rule
load-words-requires-clause-rule g c = reads_as _ _ c.self.invariant.viewing
