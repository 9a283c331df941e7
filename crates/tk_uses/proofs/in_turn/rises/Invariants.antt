use Rattle.tk_uses.proofs.in_turn.rises.Given as goal

-- the names are those of what was prepared
abbrev pub ghosts-in_turn-L-Named : goal.ghosts-in_turn-L-Named
ghosts-in_turn-L-Named g a = record {
  page = a.prepared.page;
  latch = a.prepared.latch;
  notice = a.prepared.notice;
  callers = a.prepared.callers;
}

abbrev pub ghosts-in_turn-L-Ledger : goal.ghosts-in_turn-L-Ledger
ghosts-in_turn-L-Ledger g a = record { name = a.prepared.ledger; parts = a.prepared.callers }
