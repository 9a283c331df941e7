use Rattle.std.proofs.Common.{◌≡◌, length, rules, sym, subst}
use Rattle.tk_clock.specs.Journal.{Opening}
use Rattle.tk_shared.proofs.Informed.{known_by_trans}
use Rattle.tk_uses.specs.InTurn.{IsTrusted}
use Rattle.tk_uses.proofs.InTurn.{asked_later, rises}
use Rattle.tk_uses.proofs.in_turn.compared.Goals as goal

pub returns-clause-risen : goal.returns-clause-risen
returns-clause-risen g c =
    let after = g.C.Counter.answers_after in
    let answers = g.S.SharedCounter.answers in
    let counter = c.args.counter.now in
    let first = c.args.first in
    let later = c.args.later in
    let last = c.follow.new.caller in
    let told = c.follow.ensures in
    let asked = c.requires.asked in
    let known = known_by_trans first.caller c.follow.new.other last told.known.1 told.follows in
    let known' = told.known.0 in
    let all : length last.seen.entries ≡ 1 = search rules in
    let trusted = subst (λ (o : Opening). IsTrusted after answers counter o) (sym known'.seen.0)
    c.requires.trusted in
    record {
      last = last;
      informed = told.informed.0;
      opened = known'.seen.0;
      asked = asked_later answers counter first.caller later.caller last last first.time later.time
          asked known known';
      rises = rises answers counter first.caller later.caller last first.time later.time asked
          told.informed.0 known known' after all c.requires.commanded trusted
          c.now_never_falls.ensures.open;
    }
