use Rattle.std.proofs.Common.{◌∙◌, ◌-◌, ap}
use Rattle.tk_clock.specs.Journal.{prefix}
use Rattle.tk_clock.specs.Snapshot.{Snapshot}
use Rattle.tk_clock.specs.State.{ReadBase, State, base_value, state_of}
use Rattle.tk_clock.proofs.Ledger.{base_value-base_of}
use Rattle.tk_keeper.specs.Keeper.{Keeper}
use Rattle.tk_keeper.specs.Past.{at_front}
use Rattle.tk_keeper.proofs.timekeeper.Timekeeper.snapshot_by.Goals as goal

pub returns-clause-clocks : goal.returns-clause-clocks
returns-clause-clocks g c = λ clock reading.
    let journal = c.args.self.now.journal in
    let stated = ap (λ (s : Snapshot). s.base) c.snapshot.ensures in
    let count = ap (λ (k : Keeper). k.journal.opening.count) c.self.view_is in
    let state = c.move_to.ensures.clock
    ∙ ap (λ n. state_of (prefix (c.args.front - n) journal)) count in
    ap (λ (b : ReadBase). base_value b clock reading) (stated ∙ ap (λ (s : State). s.base) state)
    ∙ base_value-base_of (at_front c.args.front journal) clock reading
