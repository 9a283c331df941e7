use Rattle.tk_bench_threads.proofs.shared.turn.Given as goal

-- the names are the names of the prepared parts
abbrev pub ghosts-worked-L-Named : goal.ghosts-worked-L-Named
ghosts-worked-L-Named g a = record {
  page = a.prepared.page;
  latch = a.prepared.latch;
  notice = a.prepared.notice;
  callers = a.prepared.callers;
}

abbrev pub ghosts-worked-L-Ledger : goal.ghosts-worked-L-Ledger
ghosts-worked-L-Ledger g a = record { name = a.prepared.ledger; parts = a.prepared.callers }
