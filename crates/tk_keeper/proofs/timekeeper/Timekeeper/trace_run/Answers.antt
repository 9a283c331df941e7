use Rattle.std.proofs.Common.{Ok, Err}
use Rattle.tk_keeper.proofs.Stretches.{stretch_traced}
use Rattle.tk_keeper.proofs.timekeeper.Timekeeper.trace_run.Goals as goal

pub returns-in-Ok : goal.returns-in-Ok
returns-in-Ok g c = (
  c.stretch_end-end.ensures.further,
  c.stretch_end-end.ensures.inside,
  stretch_traced _ _ _ _ _ _ c.lane_batch.new.out (Ok _) c.requires.so_far c.requires.converts
      c.stretch_end-end.ensures.further c.stretch_end-end.ensures.inside c.requires.inside
      c.stretch_end-end.ensures.same c.lane_batch.auto.out c.in-Ok.ensures,
)

pub returns-in-Err : goal.returns-in-Err
returns-in-Err g c =
    rw c.of_batch.ensures
    (stretch_traced _ _ _ _ _ _ c.lane_batch.new.out (Err c.in-Err.error) c.requires.so_far
    c.requires.converts c.stretch_end-end.ensures.further c.stretch_end-end.ensures.inside
    c.requires.inside c.stretch_end-end.ensures.same c.lane_batch.auto.out c.in-Err.ensures)
