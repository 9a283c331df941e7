use Rattle.tk_ntp.proofs.Silent.{asked_silent, begun_silent, cleared_silent, usual}
use Rattle.tk_ntp.proofs.discipline.Discipline.has_signal.Goals as goal

pub returns-clause-second : goal.returns-clause-second
returns-clause-second c = λ h sec. begun_silent c.args.self.now sec h

pub returns-clause-request : goal.returns-clause-request
returns-clause-request c = λ h request now. asked_silent request now c.args.self.now h

pub returns-clause-clear : goal.returns-clause-clear
returns-clause-clear c = λ h. cleared_silent c.args.self.now h

pub returns-clause-usual : goal.returns-clause-usual
returns-clause-usual c = λ h.
    usual c.args.self.now.offset c.args.self.now.constant c.args.self.now.status h
