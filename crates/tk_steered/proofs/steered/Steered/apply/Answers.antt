use Rattle.std.proofs.Common.{sym, subst}
use Rattle.tk_clock.specs.declared.command.Command.{Command}
use Rattle.tk_clock.specs.declared.command.Command.TheVariants.{Update}
use Rattle.tk_steered.specs.Kept.{IsAppliedBy}
use Rattle.tk_steered.proofs.Answered.{applied_ok}
use Rattle.tk_steered.proofs.Laws.{command_consistent, command_small, command_sum, command_woken}
use Rattle.tk_steered.proofs.Numbered.{applied}
use Rattle.tk_steered.proofs.steered.Steered.apply.Goals as goal

pub returns-in-Update-clause-answer : goal.returns-in-Update-clause-answer
returns-in-Update-clause-answer g c =
    subst (λ (cmd : Command). IsAppliedBy c.args.who c.args.reading cmd c.args.self.now
    c.numbered.result c.apply_update-done.new.self) (sym c.in-Update.is)
    (applied c.args.who c.args.reading Update c.args.self.now c.apply_update-done.new.self
    c.apply_update-done.result c.numbered.result c.numbered.ensures c.apply_update-done.ensures)

pub returns-in-Update-clause-clocks : goal.returns-in-Update-clause-clocks
returns-in-Update-clause-clocks g c =
    applied_ok c.args.who c.args.reading c.args.self.now c.apply_update-done.new.self c.args.cmd
    c.numbered.result (returns-in-Update-clause-answer g c)

pub returns-in-Update-clause-sum : goal.returns-in-Update-clause-sum
returns-in-Update-clause-sum g c =
    command_sum c.args.who c.args.reading c.args.self.now c.apply_update-done.new.self c.args.cmd
    c.numbered.result (returns-in-Update-clause-answer g c)

pub returns-in-Update-clause-small : goal.returns-in-Update-clause-small
returns-in-Update-clause-small g c =
    command_small c.args.who c.args.reading c.args.self.now c.apply_update-done.new.self c.args.cmd
    c.numbered.result (returns-in-Update-clause-answer g c)

pub returns-in-Update-clause-woken : goal.returns-in-Update-clause-woken
returns-in-Update-clause-woken g c =
    command_woken c.args.who c.args.reading c.args.self.now c.apply_update-done.new.self c.args.cmd
    c.numbered.result (returns-in-Update-clause-answer g c)

pub returns-in-Update-clause-consistent : goal.returns-in-Update-clause-consistent
returns-in-Update-clause-consistent g c =
    command_consistent c.args.who c.args.reading c.args.self.now c.apply_update-done.new.self c.args.cmd
    c.numbered.result (returns-in-Update-clause-answer g c)

pub returns-clause-answer : goal.returns-clause-answer
returns-clause-answer g c =
    applied c.args.who c.args.reading c.args.cmd c.args.self.now c.apply_any-done.new.self
    c.apply_any-done.result c.numbered-2.result c.numbered-2.ensures c.apply_any-done.ensures

pub returns-clause-clocks : goal.returns-clause-clocks
returns-clause-clocks g c =
    applied_ok c.args.who c.args.reading c.args.self.now c.apply_any-done.new.self c.args.cmd
    c.numbered-2.result (returns-clause-answer g c)

pub returns-clause-sum : goal.returns-clause-sum
returns-clause-sum g c =
    command_sum c.args.who c.args.reading c.args.self.now c.apply_any-done.new.self c.args.cmd
    c.numbered-2.result (returns-clause-answer g c)

pub returns-clause-small : goal.returns-clause-small
returns-clause-small g c =
    command_small c.args.who c.args.reading c.args.self.now c.apply_any-done.new.self c.args.cmd
    c.numbered-2.result (returns-clause-answer g c)

pub returns-clause-woken : goal.returns-clause-woken
returns-clause-woken g c =
    command_woken c.args.who c.args.reading c.args.self.now c.apply_any-done.new.self c.args.cmd
    c.numbered-2.result (returns-clause-answer g c)

pub returns-clause-consistent : goal.returns-clause-consistent
returns-clause-consistent g c =
    command_consistent c.args.who c.args.reading c.args.self.now c.apply_any-done.new.self c.args.cmd
    c.numbered-2.result (returns-clause-answer g c)
