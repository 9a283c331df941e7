use Rattle.std.proofs.Common.{◌≡◌, take}
use Rattle.tk_program.specs.ManyText.{text_from}
use Rattle.tk_program.proofs.reports_text.many_text.Given as goal

abbrev pub invariant-loop-index : goal.invariant-loop-index
invariant-loop-index g l = l.text.items ≡ text_from 0 (take l.index l.outcomes)
