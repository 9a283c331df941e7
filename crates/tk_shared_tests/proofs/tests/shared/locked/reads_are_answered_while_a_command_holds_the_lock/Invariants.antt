use Rattle.tk_shared_tests.proofs.tests.shared.locked.reads_are_answered_while_a_command_holds_the_lock.Given as goal

-- the names are the names of the prepared parts
abbrev pub ghosts-beside-L-Named : goal.ghosts-beside-L-Named
ghosts-beside-L-Named g a = record {
  page = a.prepared.page;
  latch = a.prepared.latch;
  notice = a.prepared.notice;
  callers = a.prepared.callers;
}

abbrev pub ghosts-beside-L-Ledger : goal.ghosts-beside-L-Ledger
ghosts-beside-L-Ledger g a = record { name = a.prepared.ledger; parts = a.prepared.callers }
