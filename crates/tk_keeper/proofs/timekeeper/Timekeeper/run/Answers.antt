use Rattle.std.proofs.Common.{◌≡◌, ◌+◌, ◌-◌, ◌<◌, List, length, get_or, drop, ◌∙◌, ap, arith}
use Rattle.tk_clock.specs.declared.command.Entry.{Entry}
use Rattle.tk_clock.specs.declared.command.Command.TheVariants.{Update}
use Rattle.tk_clock.specs.Run.{Run, run}
use Rattle.tk_keeper.proofs.Running.{reply-answer, never_short, room_left, takes_one, run-next, one_more}
use Rattle.tk_keeper.proofs.timekeeper.Timekeeper.run.Goals as goal

pub events-preserved : goal.events-preserved
events-preserved g c =
    let none : Entry = record { who = 0; reading = 0; cmd = Update } in
    let events : List Entry = c.args.events.now in
    let k = c.events.event-index in
    let event : Entry = get_or events k none in
    let before = c.events.self in
    let after = c.apply.new.self in
    let held = c.events.invariant in
    let left = length events - k in
    let some : 0 < left = omega arith in
    let enough = never_short before after event c.apply.result left c.apply.ensures.answer
    c.apply.ensures.memory some held.spare in
    let reply = reply-answer before after event c.apply.result c.apply.ensures.answer enough in
    let next = run-next before.journal after.journal events k c.apply.result none c.events-test.true
    reply in
    let fewer : length events - (k + 1) ≡ left - 1 = omega arith in
    let taken = takes_one before after event c.apply.result left c.apply.ensures.answer
    c.apply.ensures.spare some held.spare in
    let later = (run after.journal (drop (k + 1) events)).answers in
    record {
      answers = one_more _ c.events.answers.items _ later c.push_reserved.new.self.items
          c.apply.result held.answers
          (ap (λ (r : Run). r.answers) next) c.push_reserved.ensures.items;
      journal = held.journal ∙ ap (λ (r : Run). r.journal) next;
      began = c.apply.ensures.began ∙ held.began;
      room = omega arith;
      spare = rw fewer
          (room_left before after event c.apply.result left c.apply.ensures.answer
          c.apply.ensures.spare some held.spare);
      taken = omega (arith, taken, held.taken);
    }
