use Rattle.tk_clock.proofs.snapshot.Snapshot.words.Goals as goal

pub returns-clause-back : goal.returns-clause-back
returns-clause-back c = rw (← c.self.view_is) (c.words.ensures.back c.self.invariant)
