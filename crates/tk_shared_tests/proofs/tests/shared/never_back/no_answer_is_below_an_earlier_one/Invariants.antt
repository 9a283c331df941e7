use Rattle.tk_shared_tests.proofs.tests.shared.never_back.no_answer_is_below_an_earlier_one.Given as goal

-- the names are the names of the prepared parts
abbrev pub ghosts-all_play-L-Named : goal.ghosts-all_play-L-Named
ghosts-all_play-L-Named g a = record {
  page = a.prepared.page;
  latch = a.prepared.latch;
  notice = a.prepared.notice;
  callers = a.prepared.callers;
}

abbrev pub ghosts-all_play-L-Ledger : goal.ghosts-all_play-L-Ledger
ghosts-all_play-L-Ledger g a = record { name = a.prepared.ledger; parts = a.prepared.callers }
