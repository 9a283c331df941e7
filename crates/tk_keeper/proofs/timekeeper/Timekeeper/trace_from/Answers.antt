use Rattle.std.proofs.Common.{get_or, arith}
use Rattle.std.proofs.lemmas.Result.{err_from_is_err_and}
use Rattle.tk_keeper.proofs.Stretches.{first_fault, written_after}
use Rattle.tk_keeper.proofs.timekeeper.Timekeeper.trace_from.Goals as goal

pub returns-in_err-snapshot : goal.returns-in_err-snapshot
returns-in_err-snapshot g c =
    let p = err_from_is_err_and c.from_residual.result c.from_residual.ensures.1 in
    let first = c.stretches.first in
    let written = c.stretches.invariant.written in
    rw (p.1, p.2) (
      first,
      first_fault c.args.self.now.journal c.args.clock c.args.fronts.now c.args.stamps.now
          c.stretches.out first _
          (omega (arith, c.stretches-test.true, c.stretches.auto.out, c.requires.inside))
          written.values
          (c.in_err-snapshot.ensures.converts c.args.clock (get_or c.args.stamps.now first 0)),
      written,
    )

pub returns-in_err-first : goal.returns-in_err-first
returns-in_err-first g c =
    let p = err_from_is_err_and c.from_residual-in_err-first.result
    c.from_residual-in_err-first.ensures.1 in
    let stops = c.in_err-first.ensures in
    rw (p.1, p.2) (
      stops.0,
      stops.2,
      written_after c.args.self.now.journal c.args.clock c.args.fronts.now c.args.stamps.now
          c.stretches.first stops.0 c.args.out.now c.stretches.out c.trace_run.new.out stops.1
          c.stretches.invariant.written stops.3,
    )

pub stretches-preserved : goal.stretches-preserved
stretches-preserved g c =
    let further = c.in_ok-first.ensures in
    record {
      cursor = c.item_snapshot.ensures.cursor;
      inside = omega (arith, further.1, c.trace_run.auto.out);
      written =
          written_after c.args.self.now.journal c.args.clock c.args.fronts.now c.args.stamps.now
          c.stretches.first c.in_ok-first.first c.args.out.now c.stretches.out c.trace_run.new.out
          (omega (arith, further.0)) c.stretches.invariant.written further.2;
    }
