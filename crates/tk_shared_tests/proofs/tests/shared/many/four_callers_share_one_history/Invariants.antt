use Rattle.tk_shared_tests.proofs.tests.shared.many.four_callers_share_one_history.Given as goal

-- the names are the names of the prepared parts
abbrev pub ghosts-four-L-Named : goal.ghosts-four-L-Named
ghosts-four-L-Named g a = record {
  page = a.prepared.page;
  latch = a.prepared.latch;
  notice = a.prepared.notice;
  callers = a.prepared.callers;
}

abbrev pub ghosts-four-L-Ledger : goal.ghosts-four-L-Ledger
ghosts-four-L-Ledger g a = record { name = a.prepared.ledger; parts = a.prepared.callers }
