use Rattle.std.proofs.Common.{[], arith, subst, sym}
use Rattle.std.proofs.lemmas.List.{length_push}
use Rattle.std.proofs.lemmas.Result.{err_from_is_err_and}
use Rattle.tk_keeper.specs.Room.{continued}
use Rattle.tk_keeper.proofs.Commands.{running-accepted}
use Rattle.tk_report.specs.CountedClocks.{Counted, IsKept}
use Rattle.tk_report.specs.Counting.{stays}
use Rattle.tk_report.proofs.counted_clocks.giving.CountedClocksClocks.give.Goals as goal

pub returns-in_err-apply-clause-kept : goal.returns-in_err-apply-clause-kept
returns-in_err-apply-clause-kept c =
    let p = err_from_is_err_and c.from_residual.result c.from_residual.ensures.1 in
    rw p.1 (λ keep journal kept.
    rw c.in_err-apply.ensures.1
    (subst (λ (k : Counted). IsKept keep k (continued [] journal)) (sym c.self.view_is)
    (stays c.args.self.now keep journal kept)))

pub returns-clause-kept : goal.returns-clause-kept
returns-clause-kept c = λ keep journal kept.
    let held = subst (λ (k : Counted). IsKept keep k journal) (sym c.self.view_is) kept in record {
      clock = running-accepted journal c.self.inside.clock c.apply.new.self c.args.entry held.clock
          c.in_ok-apply.ensures;
      count = omega (arith, held.count, length_push journal.entries c.args.entry);
      since = held.since;
      most = held.most;
    }
