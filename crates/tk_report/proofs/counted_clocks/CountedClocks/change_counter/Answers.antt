use Rattle.std.proofs.Common.{◌∙◌, ◌≤◌, subst, sym}
use Rattle.std.proofs.lemmas.Result.{err_from_is_err_and}
use Rattle.tk_clock.specs.declared.refusal.Refusal.TheVariants.{Full}
use Rattle.tk_clock.specs.Limits.{counted_most}
use Rattle.tk_report.specs.CountedClocks.{Counted, IsKept}
use Rattle.tk_report.proofs.KeptClocks.{IsReplied-changed, IsReplied-unchanged, change-full, change-room}
use Rattle.tk_report.proofs.counted_clocks.CountedClocks.change_counter.Goals as goal

pub returns-then-self-ge-COUNTED_LIMIT : goal.returns-then-self-ge-COUNTED_LIMIT
returns-then-self-ge-COUNTED_LIMIT c = λ keep journal kept.
    let now = c.args.self.now in
    let full : counted_most ≤ now.count =
    subst (λ (k : Counted). counted_most ≤ k.count) c.self.view_is c.if-self-ge-COUNTED_LIMIT.true in
    IsReplied-unchanged keep now journal c.args.reading c.args.desc c.args.first Full kept
    (change-full keep now journal c.args.reading c.args.desc c.args.first kept full)

pub returns-in_err-change_counter : goal.returns-in_err-change_counter
returns-in_err-change_counter c =
    let p = err_from_is_err_and c.from_residual.result c.from_residual.ensures.1 in
    rw (p.1, p.2) (λ keep journal kept.
    let held = subst (λ (k : Counted). IsKept keep k journal) (sym c.self.view_is) kept in
    rw c.in_err-change_counter.ensures.answer.1
    (IsReplied-unchanged keep _ journal c.args.reading c.args.desc c.args.first
    c.in_err-change_counter.field-0.0 held
    (change-room keep _ journal c.args.reading c.args.desc c.args.first held c.if-self-ge-COUNTED_LIMIT.false
    ∙ c.in_err-change_counter.ensures.answer.0)))

pub returns : goal.returns
returns c = λ keep journal kept.
    let held = subst (λ (k : Counted). IsKept keep k journal) (sym c.self.view_is) kept in
    let stated = c.in_ok-change_counter.ensures.answer in
    IsReplied-changed keep _ c.change_counter.new.self journal c.args.reading c.args.desc
    c.args.first held
    (change-room keep _ journal c.args.reading c.args.desc c.args.first held c.if-self-ge-COUNTED_LIMIT.false
    ∙ stated.0)
    stated.1
