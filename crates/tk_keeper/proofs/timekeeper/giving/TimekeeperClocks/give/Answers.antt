use Rattle.std.proofs.Common.{◌∙◌, ap, refl, sym}
use Rattle.std.specs.Prelude.{Some, None}
use Rattle.tk_clock.specs.Journal.{Journal}
use Rattle.tk_clock.specs.State.{state_of}
use Rattle.tk_clock.proofs.Legal.{state_of-followed_by}
use Rattle.tk_keeper.proofs.Giving.{refusal-is}
use Rattle.tk_keeper.proofs.timekeeper.giving.TimekeeperClocks.give.Goals as goal

pub returns-in-Ok-clause-answer : goal.returns-in-Ok-clause-answer
returns-in-Ok-clause-answer g c =
    let before = c.args.self.now in
    let entry = c.args.entry in
    let told = c.in-Ok.ensures in
    let accepted = refusal-is before entry None c.requires told.answer.0 in (
      accepted,
      ap (λ (j : Journal). state_of j) told.answer.1
          ∙ sym (state_of-followed_by before.journal (state_of before.journal) entry.who
          entry.reading entry.cmd refl accepted),
    )

pub returns-in-Err-clause-answer : goal.returns-in-Err-clause-answer
returns-in-Err-clause-answer g c =
    let told = c.in-Err.ensures.answer in (
      refusal-is c.args.self.now c.args.entry (Some c.in-Err.refusal) c.requires told.0,
      told.1,
    )
