use Rattle.std.proofs.Common.{◌≡◌, refl}
use Rattle.std.specs.Prelude.{None}
use Rattle.std.proofs.lemmas.Result.{err_from_is_err_and}
use Rattle.tk_clock.specs.Refusal.{first_refusal}
use Rattle.tk_clock.proofs.Refusals.{IsRefusal-stated}
use Rattle.tk_keeper.proofs.Commands.{first_refusal-clocks, IsApplied-grown}
use Rattle.tk_keeper.proofs.timekeeper.Timekeeper.apply_growing.Given.{Over}
use Rattle.tk_keeper.proofs.timekeeper.Timekeeper.apply_growing.Goals.{After-make_room}
use Rattle.tk_keeper.proofs.timekeeper.Timekeeper.apply_growing.Goals as goal

pub returns-in_err-apply-clause-answer : goal.returns-in_err-apply-clause-answer
returns-in_err-apply-clause-answer g c =
    let keeper = c.self.inside in
    let p = err_from_is_err_and c.from_residual.result c.from_residual.ensures.1 in
    rw (p.1, p.2) (
      IsRefusal-stated c.args.self.now.journal c.args.entry _ c.requires.free
          (first_refusal-clocks _ keeper.folded _ keeper.start keeper.clock keeper.entries.items
          c.args.self.now c.args.entry _ c.self.view_is c.requires.free c.self.invariant.0
          c.in_err-apply.ensures.0),
      refl,
    )

-- the journal accepts a command that the clocks accepted
accepted : (g : Over) (c : After-make_room g) →
    first_refusal c.args.self.now.journal c.args.entry ≡ None
accepted g c =
    let keeper = c.self.inside in
    first_refusal-clocks _ keeper.folded _ keeper.start keeper.clock keeper.entries.items c.args.self.now
    c.args.entry None c.self.view_is c.requires.free c.self.invariant.0 c.in_ok-apply.ensures.0

pub returns-in_err-make_room-clause-answer : goal.returns-in_err-make_room-clause-answer
returns-in_err-make_room-clause-answer g c =
    let p = err_from_is_err_and c.from_residual-in_err-make_room.result
    c.from_residual-in_err-make_room.ensures.1 in
    let refused = c.in_err-make_room.ensures.answer in
    rw (p.1, p.2, refused.0)
    (accepted g (goal.at.returns-in_err-make_room-clause-answer g c).After-make_room, refused.2)

pub returns-clause-answer : goal.returns-clause-answer
returns-clause-answer g c =
    IsApplied-grown c.args.self.now c.make_room.new.self c.enter.new.self c.args.entry
    c.enter.result c.make_room.ensures.journal
    (accepted g (goal.at.returns-clause-answer g c).After-make_room) c.enter.ensures.answer
