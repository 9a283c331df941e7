use Rattle.std.proofs.Common.{◌≡◌, length, ap, sym, subst, ◌∙◌, rules, arith}
use Rattle.std.proofs.lemmas.List.{length-map}
use Rattle.std.specs.Global.{Vec}
use Rattle.std.specs.Vec.{vec_len}
use Rattle.tk_shared.specs.Callers.{newcomers}
use Rattle.tk_shared.specs.Closing.{AreDifferent}
use Rattle.tk_race.specs.declared.action.Action.{Action}
use Rattle.tk_race.proofs.Actors.{many_done}
use Rattle.tk_race.proofs.Outcome.{length-newcomers, all_different, outcome}
use Rattle.tk_race.proofs.racing.raced.Goals as goal

pub act_all-requires-after_bounds : goal.act_all-requires-after_bounds
act_all-requires-after_bounds g c =
    let start = c.args.prepared in
    let known : c.in-Ok.callers.items ≡ newcomers start.latch start.notice start.journal start.callers =
    search rules in
    let many = ap length known ∙ length-newcomers start.latch start.notice start.journal start.callers in
    search rules

pub close-requires-clause-different : goal.close-requires-clause-different
close-requires-clause-different g c κs within =
    let start = c.args.prepared in
    let known : c.in-Ok.callers.items ≡ newcomers start.latch start.notice start.journal start.callers =
    search rules in
    let done = c.in_ok-back.ensures in
    subst AreDifferent (sym done.ended)
    (all_different c.args.counter.now start.latch start.notice start.journal start.callers _
    done.olds done.news (done.began ∙ known) done.acted)

pub unreachable-requires : goal.unreachable-requires
unreachable-requires g c =
    let start = c.args.prepared in
    let known : c.in-Ok.callers.items ≡ newcomers start.latch start.notice start.journal start.callers =
    search rules in
    let many = ap length known ∙ length-newcomers start.latch start.notice start.journal start.callers in
    let back = many_done _ _ _ _ _ c.in_ok-back.ensures in
    let len : vec_len c.in_ok-back.back ≡ length c.in_ok-back.back.items = search rules in
    let few = c.in_default-close.ensures.0 in
    let keeper : c.in-Ok.keeper ≡ c.args.prepared.callers = search rules in
    omega (arith, few, len, back, many, keeper)

pub returns : goal.returns
returns g c =
    let start = c.args.prepared in
    let known : c.in-Ok.callers.items ≡ newcomers start.latch start.notice start.journal start.callers =
    search rules in
    let some = c.requires.some in
    let each = length-map c.args.actions.now (λ (a : Vec Action). a.items) in
    let done = c.in_ok-back.ensures in (
      outcome c.args.counter.now start.latch start.notice start.journal
          c.in-Ok-close.closed.keeper.journal start.callers _ done.olds done.news
          c.in_ok-back.back.items _ (omega (arith, some, each)) (done.began ∙ known) done.acted
          done.ended done.replied c.in-Ok-close.ensures.1,
      c.in-Ok-close.ensures.2,
    )
