use Rattle.std.proofs.Common.{subst}
use Rattle.tk_steered.specs.Kept.{IsAnsweredBy, SteeredKeeper}
use Rattle.tk_steered.proofs.Answered.{answered_ok}
use Rattle.tk_steered.proofs.Laws.{request_consistent, request_small, request_sum}
use Rattle.tk_steered.proofs.steered.Steered.adjtimex.Goals as goal

abbrev end : (g : _) → goal.After-adjtimex g → SteeredKeeper
end g c = record { keeper = c.adjtimex.new.clocks; course = c.adjtimex.new.self }

pub returns-clause-answer : goal.returns-clause-answer
returns-clause-answer g c =
    subst (λ (k : SteeredKeeper).
    IsAnsweredBy c.args.who c.args.reading c.args.request.now k c.adjtimex.result (end g c))
    c.self.view_is c.adjtimex.ensures

pub returns-clause-clocks : goal.returns-clause-clocks
returns-clause-clocks g c =
    answered_ok c.args.who c.args.reading c.args.self.now (end g c) c.args.request.now
    c.adjtimex.result (returns-clause-answer g c)

pub returns-clause-sum : goal.returns-clause-sum
returns-clause-sum g c =
    request_sum c.args.who c.args.reading c.args.self.now (end g c) c.args.request.now
    c.adjtimex.result (returns-clause-answer g c)

pub returns-clause-small : goal.returns-clause-small
returns-clause-small g c =
    request_small c.args.who c.args.reading c.args.self.now (end g c) c.args.request.now
    c.adjtimex.result (returns-clause-answer g c)

pub returns-clause-consistent : goal.returns-clause-consistent
returns-clause-consistent g c =
    request_consistent c.args.who c.args.reading c.args.self.now (end g c) c.args.request.now
    c.adjtimex.result (returns-clause-answer g c)
