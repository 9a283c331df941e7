use Rattle.std.proofs.Common.{arith}
use Rattle.std.proofs.lemmas.Grind.{common_steps}
use Rattle.memchr.specs.Find.{is_byte2}
use Rattle.tk_script.proofs.PlainLemmas.{lacks-none, no-mark}
use Rattle.tk_script.proofs.plain.is_plain.Goals as goal
use Rattle.tk_script.proofs.plain.is_plain.Goals.{else-not-is_empty-via-then-not-is_empty+else-bytes, else-not-is_empty-via-else-not-is_empty}

pub returns-clause-plain : goal.returns-clause-plain
returns-clause-plain c = λ yes.
    lacks-none (is_byte2 34 13) c.args.bytes.now c.memchr2.result c.is_none.result
    c.memchr2.ensures c.is_none.ensures yes

pub returns-clause-unmarked : goal.returns-clause-unmarked
returns-clause-unmarked c = λ yes. no-mark c.args.bytes.now (λ some mark.
    elim c.else-not-is_empty.branch [
      | else-not-is_empty-via-then-not-is_empty+else-bytes w ↦ w.if-bytes.false mark
      | else-not-is_empty-via-else-not-is_empty w ↦
          absurd (grind (arith, common_steps, some, w.if-not-is_empty.false, c.is_empty.ensures))
    ])
