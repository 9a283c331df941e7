use Rattle.std.proofs.Common.{Ok, [], get_or, sym, ap, subst, ◌∙◌, arith}
use Rattle.std.specs.Prelude.{pos}
use Rattle.std.proofs.lemmas.Bool.{eqb-false}
use Rattle.std.proofs.lemmas.Result.{err_from_is_err_and}
use Rattle.tk_keeper.specs.Trace.{ConvertsItems}
use Rattle.tk_keeper.proofs.Stretches.{fault_at, taken_back}
use Rattle.tk_keeper.proofs.timekeeper.Timekeeper.trace_in.Goals as goal

pub returns-in_err-item_snapshot : goal.returns-in_err-item_snapshot
returns-in_err-item_snapshot g c =
    let p = err_from_is_err_and c.from_residual.result c.from_residual.ensures.1 in
    let some = eqb-false _ _ (sym c.is_empty.ensures ∙ c.if-is_empty.false) in
    rw (p.1, p.2) (fault_at c.args.self.now.journal c.args.clock c.args.fronts.now
    c.args.stamps.now [] 0 _ (omega (arith, some))
    (λ k early. absurd (omega (arith, early)))
    (c.in_err-item_snapshot.ensures.converts c.args.clock (get_or c.args.stamps.now 0 0)))

pub returns-in_err-bring_to : goal.returns-in_err-bring_to
returns-in_err-bring_to g c =
    let p = err_from_is_err_and c.from_residual-in_err-bring_to.result
    c.from_residual-in_err-bring_to.ensures.1 in
    rw (p.1, p.2) (fault_at c.args.self.now.journal c.args.clock c.args.fronts.now
    c.args.stamps.now c.runs.values.items c.runs.first _ c.runs-test.true c.runs.invariant.so_far
    (c.in_err-bring_to.ensures.converts c.args.clock (get_or c.args.stamps.now c.runs.first 0)))

pub trace_run-requires-clause-so_far : goal.trace_run-requires-clause-so_far
trace_run-requires-clause-so_far g c k early =
    c.runs.invariant.so_far k early
    ∙ ap (λ v. Ok (pos v))
    (sym (ap (λ xs. get_or xs k 0) c.as_mut_slice-out.ensures.value
    ∙ c.make_room.ensures.same k early))

pub runs-preserved : goal.runs-preserved
runs-preserved g c =
    let e = c.in_ok-bring_to.ensures.converts in record {
      made = omega (arith, c.in_ok-first.ensures.1, c.as_mut_slice-out.ensures.len);
      inside = c.make_room.ensures.inside;
      room = c.make_room.ensures.room;
      so_far = λ k early.
          c.in_ok-first.ensures.2.values k early
          ∙ ap (λ v. Ok (pos v))
          (sym (taken_back _ k c.trace_run.new.out _ (omega (
            arith,
            c.trace_run.auto.out,
            c.as_mut_slice-out.ensures.len,
          ))
          (omega (arith, c.in_ok-first.ensures.1, c.as_mut_slice-out.ensures.len))));
      cursor = c.bring_to.ensures.cursor;
      converts =
          subst (λ f. ConvertsItems c.args.self.now.journal f c.bring_to.new.current.1.base) (sym e.0)
          e.1;
    }
