use Rattle.std.proofs.Common.{◌≡◌, sym, false}
use Rattle.tk_clock.specs.declared.command.Entry.{Entry}
use Rattle.tk_clock.specs.Refusal.{is_full}
use Rattle.tk_clock.proofs.Monotone.{never_falls}
use Rattle.tk_keeper.proofs.Commands.{IsApplied-entered, agrees-accepted, not_memory-entered}
use Rattle.tk_keeper.proofs.timekeeper.Timekeeper.apply.Goals as goal

pub returns-then-is_full-clause-rises : goal.returns-then-is_full-clause-rises
returns-then-is_full-clause-rises g c = never_falls c.args.self.now.journal

pub returns-clause-answer : goal.returns-clause-answer
returns-clause-answer g c =
    let entry : Entry = record { who = c.args.who; reading = c.args.reading; cmd = c.args.cmd } in
    let free : is_full c.args.self.now.journal ≡ false = sym c.if-is_full.ensures in
    IsApplied-entered c.args.self.now c.enter.new.self entry c.enter.result free
    c.enter.ensures.answer

pub returns-clause-memory : goal.returns-clause-memory
returns-clause-memory g c = λ e.
    let entry : Entry = record { who = c.args.who; reading = c.args.reading; cmd = c.args.cmd } in
    let free : is_full c.args.self.now.journal ≡ false = sym c.if-is_full.ensures in
    absurd (not_memory-entered c.args.self.now c.enter.new.self entry c.enter.result free
    c.enter.ensures.answer e)

pub returns-clause-agrees : goal.returns-clause-agrees
returns-clause-agrees g c =
    let entry : Entry = record { who = c.args.who; reading = c.args.reading; cmd = c.args.cmd } in
    agrees-accepted c.args.self.now.journal c.enter.new.self.journal entry _ c.enter.result
    c.enter.ensures.answer

pub returns-clause-rises : goal.returns-clause-rises
returns-clause-rises g c = never_falls c.enter.new.self.journal

pub returns-then-spare-eq0-clause-agrees : goal.returns-then-spare-eq0-clause-agrees
returns-then-spare-eq0-clause-agrees g c =
    let entry : Entry = record { who = c.args.who; reading = c.args.reading; cmd = c.args.cmd } in
    agrees-accepted c.args.self.now.journal c.apply_growing.new.self.journal entry _
    c.apply_growing.result c.apply_growing.ensures.answer

pub returns-then-spare-eq0-clause-rises : goal.returns-then-spare-eq0-clause-rises
returns-then-spare-eq0-clause-rises g c = never_falls c.apply_growing.new.self.journal
