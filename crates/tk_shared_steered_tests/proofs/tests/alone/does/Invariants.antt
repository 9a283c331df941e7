use Rattle.tk_shared_steered_tests.proofs.tests.alone.does.Given as goal

-- the names are the names of the prepared parts
abbrev pub ghosts-acts-L-Named : goal.ghosts-acts-L-Named
ghosts-acts-L-Named g a = record {
  page = a.prepared.page;
  latch = a.prepared.latch;
  notice = a.prepared.notice;
  callers = a.prepared.callers;
}

abbrev pub ghosts-acts-L-Ledger : goal.ghosts-acts-L-Ledger
ghosts-acts-L-Ledger g a = record { name = a.prepared.ledger; parts = a.prepared.callers }
