use Rattle.tk_shared_steered_tests.proofs.tests.threads.readers_see_no_time_fall_and_no_tai_leap.Given as goal

-- the names are the names of the prepared parts
abbrev pub ghosts-all_act-L-Named : goal.ghosts-all_act-L-Named
ghosts-all_act-L-Named g a = record {
  page = a.prepared.page;
  latch = a.prepared.latch;
  notice = a.prepared.notice;
  callers = a.prepared.callers;
}

abbrev pub ghosts-all_act-L-Ledger : goal.ghosts-all_act-L-Ledger
ghosts-all_act-L-Ledger g a = record { name = a.prepared.ledger; parts = a.prepared.callers }
