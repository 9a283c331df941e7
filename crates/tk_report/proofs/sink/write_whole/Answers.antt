use Rattle.std.proofs.Common.{arith}
use Rattle.std.proofs.lemmas.List.{length-drop}
use Rattle.tk_report.proofs.KnownBytes.{appends-more, take-rest}
use Rattle.tk_report.proofs.sink.write_whole.Goals as goal

pub writes-preserved : goal.writes-preserved
writes-preserved g c =
    let bound = simp (take-rest, length-drop) at c.in-Some.ensures.bound in
    let piece = simp take-rest at c.in-Some.ensures.bytes in
    record {
      within = omega (arith, bound);
      out = appends-more _ _ _ c.args.text.now c.writes.written c.in-Some.count
          c.writes.invariant.out piece;
    }
