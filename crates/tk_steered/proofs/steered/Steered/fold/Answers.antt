use Rattle.std.proofs.Common.{◌≡◌, ap, subst}
use Rattle.tk_clock.specs.State.{State}
use Rattle.tk_keeper.specs.Room.{keeper_state}
use Rattle.tk_ntp.specs.Course.{seen}
use Rattle.tk_steered.specs.Kept.{SteeredKeeper, steered_of}
use Rattle.tk_steered.proofs.Folded.{state_kept}
use Rattle.tk_steered.proofs.steered.Steered.fold.Goals as goal

pub returns-clause-clocks : goal.returns-clause-clocks
returns-clause-clocks g c =
    let kept = c.self.inside in
    subst (λ (k : SteeredKeeper).
    seen (keeper_state c.fold.new.self) kept.course ≡ steered_of k) c.self.view_is
    (ap (λ (s : State). seen s kept.course)
    (state_kept kept.keeper.journal c.fold.new.self.journal c.fold.ensures.same))
