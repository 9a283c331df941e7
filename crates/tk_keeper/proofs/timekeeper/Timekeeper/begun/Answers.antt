use Rattle.tk_keeper.specs.Keeper.{began_with}
use Rattle.tk_keeper.proofs.ChangeCounter.{IsKept-begun, HasKept-begun}
use Rattle.tk_keeper.proofs.timekeeper.Timekeeper.begun.Goals as goal

pub invariant_of-result : goal.invariant_of-result
invariant_of-result g c =
    let folded = c.args.folded in
    let clock = c.args.clock in
    let clocks = c.frequency.ensures.clocks in
    let steered = clocks.running.steered in
    rw (c.new.ensures.items, c.new-2.ensures.items) (
      IsKept-begun (began_with c.args.given) folded clock (c.requires.starts clocks) steered
          c.requires.counted,
      HasKept-begun folded clock steered,
    )
