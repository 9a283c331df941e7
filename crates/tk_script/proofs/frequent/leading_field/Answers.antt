use Rattle.tk_script.proofs.PlainLemmas.{lacks-more}
use Rattle.tk_script.proofs.frequent.leading_field.Goals as goal

pub loop-i-preserved : goal.loop-i-preserved
loop-i-preserved c =
    lacks-more 44 10 c.args.text.now c.loop-i.i c.loop-i-test.true c.loop-i.invariant
    c.if-text-i-eq44.false c.if-text-i-eq10.false
