use Rattle.std.proofs.Common.{◌∙◌, ◌<◌, ◌≤◌, ◌-◌, ap, arith, subst, sym}
use Rattle.std.proofs.lemmas.Result.{err_from_is_err_and}
use Rattle.tk_clock.specs.declared.refusal.Refusal.TheVariants.{Full}
use Rattle.tk_clock.specs.Limits.{counted_most}
use Rattle.tk_keeper.proofs.Commands.{running-accepted}
use Rattle.tk_report.specs.CountedClocks.{Counted, IsKept}
use Rattle.tk_report.specs.Report.{event}
use Rattle.tk_report.proofs.KeptClocks.{IsReplied-accepted, IsReplied-refused, rule-full, rule-room}
use Rattle.tk_report.proofs.counted_clocks.CountedClocks.apply.Goals as goal

pub returns-then-self : goal.returns-then-self
returns-then-self c = λ keep journal kept.
    let now = c.args.self.now in
    let entry = event c.args.reading c.args.cmd in
    let full : now.most ≤ now.count - now.since =
    subst (λ (k : Counted). k.most ≤ k.count - k.since) c.self.view_is c.if-self.true in
    IsReplied-refused keep now journal entry Full kept
    (rule-full keep now journal entry kept c.requires full)

pub returns-in_err-apply : goal.returns-in_err-apply
returns-in_err-apply c =
    let p = err_from_is_err_and c.from_residual.result c.from_residual.ensures.1 in
    rw (p.1, p.2) (λ keep journal kept.
    let entry = event c.args.reading c.args.cmd in
    let held = subst (λ (k : Counted). IsKept keep k journal) (sym c.self.view_is) kept in
    let few : c.self.inside.count < counted_most =
    omega (arith, c.requires, ap (λ (k : Counted). k.count) c.self.view_is) in
    rw c.in_err-apply.ensures.1 (IsReplied-refused keep _ journal entry c.in_err-apply.field-0.0 held
    (rule-room keep _ journal entry held few c.if-self.false ∙ c.in_err-apply.ensures.0)))

pub returns : goal.returns
returns c = λ keep journal kept.
    let entry = event c.args.reading c.args.cmd in
    let held = subst (λ (k : Counted). IsKept keep k journal) (sym c.self.view_is) kept in
    let few : c.self.inside.count < counted_most =
    omega (arith, c.requires, ap (λ (k : Counted). k.count) c.self.view_is) in
    let done = c.in_ok-apply.ensures in
    IsReplied-accepted keep _ c.apply.new.self journal entry held
    (rule-room keep _ journal entry held few c.if-self.false ∙ done.0)
    (running-accepted journal c.self.inside.clock c.apply.new.self entry held.clock done)
