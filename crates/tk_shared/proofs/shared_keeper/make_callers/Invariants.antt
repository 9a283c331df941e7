use Rattle.std.proofs.Common.{◌≡◌, ◌+◌, ◌≤◌, length}
use Rattle.std.specs.Prelude.{replicate, vec_len, vec_capacity}
use Rattle.std.specs.Vec.Iter.{into_iter_items}
use Rattle.tk_clock.specs.Snapshot.{snapshot_of}
use Rattle.tk_latch.specs.Latch.{opened_reader}
use Rattle.tk_shared.specs.Callers.{newcomers}
use Rattle.tk_shared.proofs.shared_keeper.make_callers.Given as goal

abbrev pub invariant-loop-reader : goal.invariant-loop-reader
invariant-loop-reader g l = record {
  page : l.viewer.page ≡ l.fn.viewer.page;
  journal : l.viewer.journal ≡ l.fn.viewer.journal;
  reads : l.viewer.reads ≡ 0;
  readers : into_iter_items l.reader-iterator
      ≡ replicate (length (into_iter_items l.reader-iterator))
      (opened_reader g.L.Named.latch (snapshot_of l.fn.viewer.journal));
  left : length (into_iter_items l.reader-iterator) + l.id ≡ length l.fn.readers.items;
  parts : l.shares.parts + l.id ≡ length l.fn.readers.items;
  amount : l.shares.amount ≡ 0;
  room : length l.fn.readers.items ≤ vec_capacity l.callers;
  len : vec_len l.callers ≡ l.id;
  writer : l.writer ≡ l.initial.writer;
  folds : l.folds ≡ l.initial.folds;
  made : l.callers.items
      ≡ newcomers g.L.Named.latch g.L.Named.notice l.fn.viewer.journal l.id;
}
