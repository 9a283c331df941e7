use Rattle.tk_shared_tests.proofs.tests.shared.memory.refused_requests_change_nothing.Given as goal

-- the names are the names of the prepared parts
abbrev pub ghosts-opened-L-Named : goal.ghosts-opened-L-Named
ghosts-opened-L-Named g a = record {
  page = a.prepared.page;
  latch = a.prepared.latch;
  notice = a.prepared.notice;
  callers = a.prepared.callers;
}

abbrev pub ghosts-opened-L-Ledger : goal.ghosts-opened-L-Ledger
ghosts-opened-L-Ledger g a = record { name = a.prepared.ledger; parts = a.prepared.callers }
