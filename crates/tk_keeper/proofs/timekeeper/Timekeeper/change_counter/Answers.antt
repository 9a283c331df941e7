use Rattle.std.proofs.Common.{◌+◌, ◌<◌, ◌∙◌, refl, sym, ap, subst, arith}
use Rattle.std.proofs.lemmas.Result.{err_from_is_err_and}
use Rattle.tk_clock.specs.ChangeCounter.{change_refusal}
use Rattle.tk_clock.specs.Journal.{Journal, accepted_count}
use Rattle.tk_clock.specs.Legal.{IsStart, folded_opening}
use Rattle.tk_clock.specs.Limits.{counted_most}
use Rattle.tk_clock.specs.State.{State}
use Rattle.tk_clock.proofs.ChangeLegal.{IsStart-changed}
use Rattle.tk_keeper.specs.ChangeCounter.{AgreesOver, RisesOver}
use Rattle.tk_keeper.specs.Keeper.{Keeper}
use Rattle.tk_keeper.proofs.ChangeCounter.{running-shown, accepted-shown, changed-shown, counter_refusal-room, AgreesOver-changed, RisesOver-changed}
use Rattle.tk_keeper.proofs.timekeeper.Timekeeper.change_counter.Goals as goal

pub returns-in_err-change_counter-clause-answer : goal.returns-in_err-change_counter-clause-answer
returns-in_err-change_counter-clause-answer g c =
    let keeper = c.self.inside in
    let journal = c.args.self.now.journal in
    let running = running-shown _ keeper.folded _ keeper.start keeper.clock keeper.entries.items
    c.args.self.now c.self.view_is c.self.invariant.0 in
    let room : accepted_count journal < counted_most = omega (arith, c.len.ensures.value) in
    let p = err_from_is_err_and c.from_residual.result c.from_residual.ensures.1 in
    rw (p.1, p.2) (
      counter_refusal-room journal c.args.reading c.args.desc c.args.first room
          ∙ ap (λ (s : State). change_refusal s c.args.reading c.args.desc c.args.first)
          (sym running)
          ∙ c.in_err-change_counter.ensures.answer.0,
      refl,
    )

pub begin_again-requires-clause-starts : goal.begin_again-requires-clause-starts
begin_again-requires-clause-starts g c =
    let keeper = c.self.inside in
    let journal = c.args.self.now.journal in
    let running = running-shown _ keeper.folded _ keeper.start keeper.clock keeper.entries.items
    c.args.self.now c.self.view_is c.self.invariant.0 in
    let stated = accepted-shown journal keeper.clock c.change_counter.new.self c.args.reading
    c.args.desc c.args.first running c.in_ok-change_counter.ensures.answer in
    subst (λ (s : State). IsStart c.args.self.now.began (folded_opening (accepted_count journal + 1) s))
    (sym stated.1)
    (IsStart-changed c.args.self.now.began journal c.args.reading c.args.desc c.args.first c.len.ensures.legal
    c.change_counter.ensures.counter stated.0)

pub returns-clause-answer : goal.returns-clause-answer
returns-clause-answer g c =
    let is = changed-shown _ c.self.inside.folded _ c.self.inside.start c.self.inside.clock _ _
    c.self.view_is c.self.invariant.0 _ c.args.reading c.args.desc c.args.first _
    c.in_ok-change_counter.ensures.answer c.begin_again.ensures.journal in
    let journal = c.args.self.now.journal in
    let room : accepted_count journal < counted_most = omega (arith, c.len.ensures.value) in
    let shown = ap (λ (k : Keeper). k.journal.opening.count) c.self-2.view_is in
    let count = ap (λ (j : Journal). j.opening.count) is.1 in
    let all = ap (λ (j : Journal). accepted_count j) is.1 in (
      counter_refusal-room journal c.args.reading c.args.desc c.args.first room ∙ is.0,
      is.1,
      omega (arith, shown, count, all),
    )

pub returns-clause-agrees : goal.returns-clause-agrees
returns-clause-agrees g c =
    let is = changed-shown _ c.self.inside.folded _ c.self.inside.start c.self.inside.clock _ _
    c.self.view_is c.self.invariant.0 _ c.args.reading c.args.desc c.args.first _
    c.in_ok-change_counter.ensures.answer c.begin_again.ensures.journal in
    subst (λ (j : Journal). AgreesOver c.args.self.now.journal c.args.reading j c.args.first)
    (sym is.1)
    (AgreesOver-changed c.args.self.now.journal c.args.reading c.args.desc c.args.first is.0)

pub returns-clause-rises : goal.returns-clause-rises
returns-clause-rises g c =
    let is = changed-shown _ c.self.inside.folded _ c.self.inside.start c.self.inside.clock _ _
    c.self.view_is c.self.invariant.0 _ c.args.reading c.args.desc c.args.first _
    c.in_ok-change_counter.ensures.answer c.begin_again.ensures.journal in
    subst (λ (j : Journal). RisesOver c.args.self.now.journal c.args.reading j) (sym is.1)
    (RisesOver-changed c.args.self.now.journal c.args.reading c.args.desc c.args.first)
