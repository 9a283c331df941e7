use Rattle.std.proofs.Common.{◌≡◌, ◌∙◌, ℕ, ◌+◌, ◌-◌, ◌<◌, length, sym, arith}
use Rattle.tk_shared_steered.proofs.Given.{given, overtaken, overtaken_refused, refused_same, seen_all}
use Rattle.tk_shared_steered.proofs.Readings.{given_at}
use Rattle.tk_shared_steered.proofs.giving.give.Goals as goal
use Rattle.tk_shared_steered.proofs.giving.give.Goals.{then-number-front-ne1-via-then-number-front-ne1, then-number-front-ne1-via-else-number-front-ne1+then-front-number}

pub returns-in-Err-clause-answer : goal.returns-in-Err-clause-answer
returns-in-Err-clause-answer g c =
    overtaken_refused c.args.caller.now c.command.new.caller c.args.cmd c.in-Err.field-0
    c.in-Err.ensures.answer
    (λ same. c.if-front.true (c.front.ensures ∙ same ∙ sym c.front-front.ensures))

pub returns-in-Err-2-clause-answer : goal.returns-in-Err-2-clause-answer
returns-in-Err-2-clause-answer g c = (
  refused_same c.args.caller.now c.command.new.caller c.args.cmd c.in-Err.field-0
      c.in-Err.ensures.answer (sym c.front.ensures ∙ c.if-front.false ∙ c.front-front.ensures),
  c.in-Err.ensures.answer,
)

pub returns-then-number-front-ne1-clause-answer : goal.returns-then-number-front-ne1-clause-answer
returns-then-number-front-ne1-clause-answer g c =
    let old = c.args.caller.now in
    let new = c.read-snapshot.new.caller in
    let accepted = c.in-Ok.ensures.answer in
    let read = c.read-snapshot.ensures.read in
    let newer : length old.seen.entries < c.in-Ok.number = accepted.newer in
    let all = seen_all old c.command.new.caller new c.args.cmd c.in-Ok.number
    c.read-snapshot.result accepted read in
    let front = c.front-front.ensures in
    let more : length old.seen.entries + 1 < length new.seen.entries =
    elim c.then-number-front-ne1.branch [
      | then-number-front-ne1-via-then-number-front-ne1 w ↦
          let other = w.if-number-front-ne1.true in omega (arith, newer, all, front, other)
      | then-number-front-ne1-via-else-number-front-ne1+then-front-number w ↦
          let other = w.if-front-number.true in
          let read_front = w.front-else-number-front-ne1.ensures in
          omega (arith, newer, all, front, other, read_front)
    ] in
    overtaken old c.command.new.caller new c.args.cmd c.in-Ok.number c.read-snapshot.result accepted
    read more

-- the command was the next entry
next : (number front old : ℕ) → old < number → front ≡ old → number - front ≡ 1 → number ≡ old + 1
next number front old newer is one = omega (arith, newer, is, one)

pub returns-clause-answer : goal.returns-clause-answer
returns-clause-answer g c =
    let old = c.args.caller.now in
    let number = c.in-Ok.number in
    let accepted = c.in-Ok.ensures.answer in
    rw c.last.ensures (given old c.command.new.caller c.read-snapshot.new.caller c.args.cmd number
    c.read-snapshot.result accepted c.command.ensures.same c.read-snapshot.ensures.read
    (next number c.front-front.result (length old.seen.entries) accepted.newer
    c.front-front.ensures c.if-number-front-ne1.false)
    (sym c.front-else-number-front-ne1.ensures ∙ c.if-front-number.false))

pub returns-clause-reading : goal.returns-clause-reading
returns-clause-reading g c =
    let old = c.args.caller.now in
    let number = c.in-Ok.number in
    let accepted = c.in-Ok.ensures.answer in
    given_at g.C.Counter.answers_after old c.command.new.caller c.read-snapshot.new.caller
    c.args.cmd number c.read-snapshot.result accepted c.read-snapshot.ensures.read
    (next number c.front-front.result (length old.seen.entries) accepted.newer
    c.front-front.ensures c.if-number-front-ne1.false) c.in-Ok.ensures.reading
