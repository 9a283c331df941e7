use Rattle.std.proofs.Common.{◌∙◌, ap}
use Rattle.tk_clock.specs.Snapshot.{Snapshot}
use Rattle.tk_clock.specs.State.{ReadBase, State, base_value, base_of}
use Rattle.tk_clock.proofs.Ledger.{base_value-base_of}
use Rattle.tk_clock.proofs.Honest.{awake_cycles-honest}
use Rattle.tk_keeper.specs.Keeper.{Keeper}
use Rattle.tk_keeper.proofs.timekeeper.Timekeeper.snapshot.Goals as goal

pub returns-clause-clocks : goal.returns-clause-clocks
returns-clause-clocks g c = λ clock reading.
    let stated = ap (λ (s : Snapshot). s.base) c.snapshot.ensures in
    let running = ap (λ (s : State). s.base) c.self.invariant.0.running in
    let same = ap (λ (k : Keeper). base_of k.journal) c.self.view_is in
    ap (λ (b : ReadBase). base_value b clock reading) (stated ∙ running ∙ same)
    ∙ base_value-base_of c.args.self.now.journal clock reading

pub returns-clause-honest : goal.returns-clause-honest
returns-clause-honest g c = awake_cycles-honest c.args.self.now.journal
