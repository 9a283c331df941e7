use Rattle.std.proofs.Common.{◌≡◌, length, rules}
use Rattle.tk_uses.proofs.Risen.{risen}
use Rattle.tk_uses.proofs.steered.second_begins.Goals as goal

pub returns : goal.returns
returns g c =
    let first = c.in_ok-first.first in
    let begun = c.in_ok-caller.caller in
    let later = c.in_ok-later.later in
    let last = c.fold.new.caller in
    let all : length last.seen.entries ≡ c.front-count.result = search rules in
    risen g.C.Counter.answers_after g.S.SharedCounter.answers c.args.counter.now c.args.owner
    first.caller begun later.caller last c.front-count.result first.time later.time
    c.in_ok-first.ensures.asked c.in_ok-first.ensures.known c.in_ok-caller.ensures.known
    c.in_ok-caller.ensures.readings c.in_ok-later.ensures.asked c.in_ok-later.ensures.known
    c.fold.ensures.informed c.fold.ensures.known c.front-count.ensures all c.requires.trusted
    c.now_never_falls.ensures.open
