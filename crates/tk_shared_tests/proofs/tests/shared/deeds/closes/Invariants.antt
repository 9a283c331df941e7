use Rattle.tk_shared_tests.proofs.tests.shared.deeds.closes.Given as goal

-- the names are the names of the prepared parts
abbrev pub ghosts-two_close-L-Named : goal.ghosts-two_close-L-Named
ghosts-two_close-L-Named g a = record {
  page = a.prepared.page;
  latch = a.prepared.latch;
  notice = a.prepared.notice;
  callers = a.prepared.callers;
}

abbrev pub ghosts-two_close-L-Ledger : goal.ghosts-two_close-L-Ledger
ghosts-two_close-L-Ledger g a = record { name = a.prepared.ledger; parts = a.prepared.callers }
