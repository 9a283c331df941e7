use Rattle.std.proofs.Common.{◌≡◌, ◌≢◌, ◌+◌, ◌%◌, length, sym, ap, subst, arith}
use Rattle.std.proofs.lemmas.List.{length_push}
use Rattle.std.proofs.lemmas.Result.{err_from_is_err_and}
use Rattle.tk_clock.specs.Journal.{Journal, followed_by, accepted_count}
use Rattle.tk_keeper.specs.Keeper.{Keeper}
use Rattle.tk_keeper.specs.declared.timekeeper.Kept.{Kept}
use Rattle.tk_keeper.proofs.Commands.{IsAccepted, first_refusal-clocks, running_entered, kept_entered, answer_entered}
use Rattle.tk_keeper.proofs.Kept.{EndsWithRun, HasKept-same, HasKept-more}
use Rattle.tk_keeper.proofs.timekeeper.Timekeeper.enter.Given.{Over}
use Rattle.tk_keeper.proofs.timekeeper.Timekeeper.enter.Goals.{After-len}
use Rattle.tk_keeper.proofs.timekeeper.Timekeeper.enter.Goals as goal
use Rattle.tk_clock.specs.Folding.{journal_from}

pub returns-in_err-apply-clause-answer : goal.returns-in_err-apply-clause-answer
returns-in_err-apply-clause-answer g c =
    let keeper = c.self.inside in
    let p = err_from_is_err_and c.from_residual.result c.from_residual.ensures.1 in
    rw (p.1, p.2) (
      first_refusal-clocks _ keeper.folded _ keeper.start keeper.clock keeper.entries.items c.args.self.now
          c.args.entry _ c.self.view_is c.requires.free c.self.invariant.0 c.in_err-apply.ensures.0,
      c.self.view_is,
    )

pub invariant_of-self-then-number-eq0 : goal.invariant_of-self-then-number-eq0
invariant_of-self-then-number-eq0 g c =
    let keeper = c.self.inside in
    let journal : Journal = journal_from keeper.folded keeper.start keeper.entries.items in
    let next : Kept = record {
      clock = c.apply.new.self;
      after_run = c.is_after_run-after_run.result;
    } in
    let running = running_entered _ keeper.folded _ keeper.start keeper.clock _ keeper.entries.items
    c.args.entry c.args.self.now c.self.view_is c.requires.free c.self.invariant.0
    c.in_ok-apply.ensures in
    let marked = subst (λ (k : Keeper). EndsWithRun k.journal next) (sym c.self.view_is)
    c.is_after_run-after_run.ensures in
    let longer = length_push keeper.entries.items c.args.entry in
    let even : accepted_count (followed_by journal c.args.entry) % 256 ≡ 0 =
    omega (arith, longer, ap length c.push.ensures.items, c.if-number-eq0.true) in
    let more = HasKept-more journal c.args.entry keeper.start keeper.kept.items next
    c.self.invariant.1 running marked even in (
      rw c.push.ensures.items (kept_entered _ keeper.folded _ keeper.start keeper.clock _
          keeper.entries.items c.args.entry c.args.self.now c.self.view_is c.requires.free
          c.self.invariant.0 c.in_ok-apply.ensures),
      rw (c.push.ensures.items, c.push-then-number-eq0.ensures.items) more,
    )

pub invariant_of-self-else-number-eq0 : goal.invariant_of-self-else-number-eq0
invariant_of-self-else-number-eq0 g c =
    let keeper = c.self.inside in
    let journal : Journal = journal_from keeper.folded keeper.start keeper.entries.items in
    let kept = kept_entered _ keeper.folded _ keeper.start keeper.clock _ keeper.entries.items
    c.args.entry c.args.self.now c.self.view_is c.requires.free c.self.invariant.0
    c.in_ok-apply.ensures in
    let longer = length_push keeper.entries.items c.args.entry in
    let odd : accepted_count (followed_by journal c.args.entry) % 256 ≢ 0 =
    omega (arith, longer, ap length c.push.ensures.items, c.if-number-eq0.false) in
    rw c.push.ensures.items
    (kept, HasKept-same journal c.args.entry keeper.start keeper.kept.items c.self.invariant.1 odd)

-- the command was accepted as the entry that the length counts
answer : (g : Over) (c : After-len g) →
    IsAccepted c.args.self.now.journal
    (journal_from c.self.inside.folded c.self.inside.start c.push.new.self.items) c.args.entry
    (c.self.inside.folded + c.len.result)
answer g c =
    let keeper = c.self.inside in
    answer_entered _ keeper.folded _ keeper.start keeper.clock _ keeper.entries.items c.args.entry
    c.args.self.now c.self.view_is c.requires.free c.self.invariant.0 c.in_ok-apply.ensures
    c.push.new.self.items _ c.push.ensures.items (ap (λ n. keeper.folded + n) c.len.ensures)

pub returns-then-number-eq0-clause-answer : goal.returns-then-number-eq0-clause-answer
returns-then-number-eq0-clause-answer g c =
    answer g (goal.at.returns-then-number-eq0-clause-answer g c).After-len

pub returns-else-number-eq0-clause-answer : goal.returns-else-number-eq0-clause-answer
returns-else-number-eq0-clause-answer g c =
    answer g (goal.at.returns-else-number-eq0-clause-answer g c).After-len
