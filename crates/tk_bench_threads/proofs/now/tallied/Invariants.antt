use Rattle.tk_bench_threads.proofs.now.tallied.Given as goal

-- the names are the names of the prepared parts
abbrev pub ghosts-timed-L-Named : goal.ghosts-timed-L-Named
ghosts-timed-L-Named g a = record {
  page = a.prepared.page;
  latch = a.prepared.latch;
  notice = a.prepared.notice;
  callers = a.prepared.callers;
}

abbrev pub ghosts-timed-L-Ledger : goal.ghosts-timed-L-Ledger
ghosts-timed-L-Ledger g a = record { name = a.prepared.ledger; parts = a.prepared.callers }
