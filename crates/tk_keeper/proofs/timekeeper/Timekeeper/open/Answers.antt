use Rattle.std.proofs.Common.{◌≡◌, ◌∙◌, [], sym, ap, subst}
use Rattle.tk_clock.specs.Folding.{journal_from}
use Rattle.tk_clock.specs.Journal.{Opening, Journal, opened}
use Rattle.tk_clock.specs.Legal.{IsStart, Opened, AtOpening, folded_opening}
use Rattle.tk_clock.specs.State.{State}
use Rattle.tk_clock.proofs.Legal.{opened-folded}
use Rattle.tk_keeper.proofs.timekeeper.Timekeeper.open.Goals as goal

pub begun-requires-clause-starts : goal.begun-requires-clause-starts
begun-requires-clause-starts g c = λ _.
    let stated = c.in_ok-clock.ensures.answer in
    let opening : (opened c.args.desc c.args.reading c.args.real).opening
    ≡ folded_opening 0 c.in_ok-clock.clock =
    opened-folded c.args.desc c.args.reading c.args.real
    ∙ ap (λ (s : State). folded_opening 0 s) (sym stated.1) in
    subst (λ (o : Opening). IsStart Opened o) opening
    (AtOpening c.args.desc c.args.reading c.args.real c.open.ensures.counter stated.0)

pub returns-clause-answer : goal.returns-clause-answer
returns-clause-answer g c =
    let stated = c.in_ok-clock.ensures.answer in (
      stated.0,
      c.begun.ensures.journal ∙ ap (λ (s : State). journal_from 0 s []) stated.1
          ∙ ap (λ (o : Opening). let journal : Journal = record { opening = o; entries = [] }
          in journal)
          (sym (opened-folded c.args.desc c.args.reading c.args.real)),
      c.begun.ensures.began,
      c.begun.ensures.spare,
    )
