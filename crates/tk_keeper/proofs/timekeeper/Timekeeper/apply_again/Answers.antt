use Rattle.std.proofs.Common.{◌≡◌, ◌∙◌, ◌≤◌, arith}
use Rattle.tk_clock.specs.Journal.{prefix}
use Rattle.tk_clock.specs.State.{state_of, effect}
use Rattle.tk_keeper.specs.Runs.{Leads}
use Rattle.tk_keeper.proofs.Steps.{is_done, effect_of}
use Rattle.tk_keeper.proofs.timekeeper.Timekeeper.apply_again.Given.{Over}
use Rattle.tk_keeper.proofs.timekeeper.Timekeeper.apply_again.Goals.{After-apply}
use Rattle.tk_keeper.proofs.timekeeper.Timekeeper.apply_again.Goals as goal

-- the run's last entry leads from the clocks to the clocks at the run's end
leads : (g : Over) (c : After-apply g) →
    Leads c.args.clock.now c.last_before-entry.result
    (state_of (prefix c.run_end-end.result c.args.self.now.journal))
leads g c =
    let end = c.run_end-end.result in
    let entry = c.last_before-entry.result in
    let last : end ≤ end = omega arith in
    rw c.requires.state (c.run_end-end.ensures.runs end c.run_end-end.ensures.further last entry
    c.last_before-entry.ensures)

pub unwrap-requires : goal.unwrap-requires
unwrap-requires g c = is_done _ _ _ c.apply.result (leads g c).0 c.apply.ensures

pub returns-clause-state : goal.returns-clause-state
returns-clause-state g c =
    let entry = c.last_before-entry.result in
    let led = leads g (goal.at.returns-clause-state g c).After-apply in
    effect_of (c.apply.new.self ≡ effect c.args.clock.now entry.reading entry.cmd) _ _
    c.apply.result led.0 c.apply.ensures
    ∙ led.1
