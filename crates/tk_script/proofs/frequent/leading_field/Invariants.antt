use Rattle.std.proofs.Common.{take}
use Rattle.memchr.specs.Find.{is_byte2}
use Rattle.tk_script.specs.Plain.{Lacks}
use Rattle.tk_script.proofs.frequent.leading_field.Given as goal

-- the bytes so far belong to the field
abbrev pub invariant-loop-i : goal.invariant-loop-i
invariant-loop-i l = Lacks (is_byte2 44 10) (take l.i l.text)
