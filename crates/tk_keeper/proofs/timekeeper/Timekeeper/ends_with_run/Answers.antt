use Rattle.std.proofs.Common.{◌≡◌, ◌∙◌, ◌+◌, ◌-◌, length, ap, subst, arith}
use Rattle.std.proofs.lemmas.Bool.{eqb-true}
use Rattle.tk_keeper.specs.Keeper.{Keeper}
use Rattle.tk_keeper.specs.Runs.{AreRuns}
use Rattle.tk_keeper.proofs.timekeeper.Timekeeper.ends_with_run.Goals as goal

pub returns : goal.returns
returns g c = λ whole.
    let journal = c.args.self.now.journal in
    let count = c.len-count.result in
    let listed = c.len-count.ensures ∙ ap (λ (k : Keeper). length k.journal.entries) c.self.view_is
    in
    let end = eqb-true _ _ whole ∙ listed in
    let first : count + 1 - 256 ≡ length journal.entries - 255 = omega (arith, listed) in (
      omega (arith, listed, c.if-count.false),
      subst (λ n. AreRuns journal n (length journal.entries)) first
          (subst (λ n. AreRuns journal (count + 1 - 256) n) end c.run_end.ensures.runs),
    )
