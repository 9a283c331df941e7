use Rattle.tk_uses.proofs.threads.run.Given as goal

-- the names are the names of the prepared parts
abbrev pub ghosts-works-L-Named : goal.ghosts-works-L-Named
ghosts-works-L-Named g a = record {
  page = a.prepared.page;
  latch = a.prepared.latch;
  notice = a.prepared.notice;
  callers = a.prepared.callers;
}

abbrev pub ghosts-works-L-Ledger : goal.ghosts-works-L-Ledger
ghosts-works-L-Ledger g a = record { name = a.prepared.ledger; parts = a.prepared.callers }
