use Rattle.std.proofs.Common.{◌≡◌, ◌∙◌, ◌+◌, ◌-◌, ◌≤◌, length, get_or, sym, ap, subst, arith}
use Rattle.tk_counter.specs.Counter.{Counter, gap, half}
use Rattle.tk_clock.specs.declared.command.Entry.{Entry}
use Rattle.tk_clock.specs.Journal.{Journal, prefix}
use Rattle.tk_clock.specs.State.{ReadBase, state_of}
use Rattle.tk_clock.specs.Folding.{journal_from}
use Rattle.tk_keeper.specs.Keeper.{Keeper}
use Rattle.tk_keeper.specs.Runs.{AreRuns}
use Rattle.tk_keeper.proofs.Updates.{AreRuns-one, AreRuns-more}
use Rattle.tk_keeper.proofs.timekeeper.Timekeeper.run_end.Goals as goal

pub run-init : goal.run-init
run-init g c =
    let keeper = c.self.inside in
    let from = c.args.from in
    let entry : Entry = c.row-entry.result.now in
    let same : from ≡ from + 1 - 1 = omega arith in
    record {
      runs = subst (λ (k : Keeper). AreRuns k.journal from (from + 1)) c.self.view_is
          (AreRuns-one (journal_from keeper.folded keeper.start keeper.entries.items) from
          c.self.invariant.0.legal.accepted);
      entry = c.row-entry.ensures
          ∙ ap (λ (k : Keeper). get_or k.journal.entries from entry) c.self.view_is
          ∙ ap (λ n. get_or c.args.self.now.journal.entries n entry) same;
    }

pub run-preserved : goal.run-preserved
run-preserved g c =
    let keeper = c.self.inside in
    let journal : Journal = journal_from keeper.folded keeper.start keeper.entries.items in
    let entry : Entry = c.run.entry.now in
    let later : Entry = c.row-later.result.now in
    let from = c.args.from in
    let next = c.run.next in
    let held = subst (λ (k : Keeper). AreRuns k.journal from next) (sym c.self.view_is)
    c.run.invariant.runs in
    let here = c.run.invariant.entry
    ∙ ap (λ (k : Keeper). get_or k.journal.entries (next - 1) entry) (sym c.self.view_is) in
    let same : next ≡ next + 1 - 1 = omega arith in
    let listed = ap (λ (k : Keeper). length k.journal.entries) c.self.view_is in
    let base = c.requires.base
    ∙ ap (λ (k : Keeper). (state_of (prefix from k.journal)).base) (sym c.self.view_is) in
    let cycles = c.gap.ensures.value
    ∙ ap (λ (d : Counter). gap d c.last-last.result later.reading) c.desc-desc.ensures
    ∙ ap (λ n. gap c.args.now.now.base.counter n later.reading) c.last-last.ensures
    ∙ ap (λ (b : ReadBase). gap b.counter b.last later.reading) base in
    let most = c.half-half.ensures ∙ ap half c.desc-desc.ensures
    ∙ ap (λ (b : ReadBase). half b.counter) base in
    let near : gap journal.opening.counter (state_of (prefix from journal)).base.last later.reading
    ≤ half journal.opening.counter = omega (arith, cycles, most, c.if-gap-half.false) in
    record {
      runs = subst (λ (k : Keeper). AreRuns k.journal from (next + 1)) c.self.view_is
          (AreRuns-more journal from next entry later c.self.invariant.0.legal.accepted held
          (omega arith) (omega (arith, listed, c.requires.listed, c.run-test.true)) here
          (c.is_update.ensures.0 c.if-not-is_update.false) c.row-later.ensures near);
      entry = c.row-later.ensures
          ∙ ap (λ (k : Keeper). get_or k.journal.entries next later) c.self.view_is
          ∙ ap (λ n. get_or c.args.self.now.journal.entries n later) same;
    }

pub returns-clause-runs : goal.returns-clause-runs
returns-clause-runs g c =
    let end : c.run.next ≡ c.args.place = omega (arith, c.run.auto.next-end, c.run-test.false) in
    subst (λ n. AreRuns c.args.self.now.journal c.args.from n) end c.run.invariant.runs
