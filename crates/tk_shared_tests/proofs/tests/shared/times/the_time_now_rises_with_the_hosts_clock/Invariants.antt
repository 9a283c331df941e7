use Rattle.tk_shared_tests.proofs.tests.shared.times.the_time_now_rises_with_the_hosts_clock.Given as goal

-- the names are the names of the prepared parts
abbrev pub ghosts-rises-L-Named : goal.ghosts-rises-L-Named
ghosts-rises-L-Named g a = record {
  page = a.prepared.page;
  latch = a.prepared.latch;
  notice = a.prepared.notice;
  callers = a.prepared.callers;
}

abbrev pub ghosts-rises-L-Ledger : goal.ghosts-rises-L-Ledger
ghosts-rises-L-Ledger g a = record { name = a.prepared.ledger; parts = a.prepared.callers }
