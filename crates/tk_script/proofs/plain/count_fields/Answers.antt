use Rattle.std.proofs.Common.{arith}
use Rattle.tk_script.proofs.CountLemmas.{count-comma, count-none, count-other}
use Rattle.tk_script.proofs.plain.count_fields.Goals as goal
use Rattle.tk_script.proofs.plain.count_fields.Goals.{then-line-i-eq44, else-line-i-eq44}

pub loop-i-preserved : goal.loop-i-preserved
loop-i-preserved c =
    let inv = c.loop-i.invariant in
    elim c.if-line-i-eq44.branch [
      | then-line-i-eq44 w ↦
          let more = count-comma c.args.line.now c.loop-i.i c.loop-i-test.true
          w.if-line-i-eq44.true in
          (omega (arith, w.count-is, more, inv.0), omega (arith, w.count-is, inv.1))
      | else-line-i-eq44 w ↦
          let same = count-other c.args.line.now c.loop-i.i c.loop-i-test.true
          w.if-line-i-eq44.false in
          (omega (arith, w.count-is, same, inv.0), omega (arith, w.count-is, inv.1))
    ]

pub returns : goal.returns
returns c =
    let last = count-none c.args.line.now c.loop-i.i c.loop-i-test.false in
    omega (arith, last, c.loop-i.invariant.0)
