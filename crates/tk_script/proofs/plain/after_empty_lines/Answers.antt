use Rattle.std.proofs.Common.{◌∙◌}
use Rattle.tk_script.proofs.PlainLemmas.{empty-more}
use Rattle.tk_script.proofs.plain.after_empty_lines.Goals as goal

pub loop-i-preserved : goal.loop-i-preserved
loop-i-preserved c =
    let inv = c.loop-i.invariant in
    let more = empty-more c.args.text.now c.loop-i.i c.loop-i-test.true c.if-text-i-ne10.false inv.1 in
    (more.0 ∙ inv.0, more.1)
