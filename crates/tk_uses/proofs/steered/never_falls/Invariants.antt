use Rattle.tk_uses.proofs.steered.never_falls.Given as goal

-- the names are those of what was prepared
abbrev pub ghosts-steered-L-Named : goal.ghosts-steered-L-Named
ghosts-steered-L-Named g a = record {
  page = a.prepared.page;
  latch = a.prepared.latch;
  notice = a.prepared.notice;
  callers = a.prepared.callers;
}

abbrev pub ghosts-steered-L-Ledger : goal.ghosts-steered-L-Ledger
ghosts-steered-L-Ledger g a = record { name = a.prepared.ledger; parts = a.prepared.callers }
