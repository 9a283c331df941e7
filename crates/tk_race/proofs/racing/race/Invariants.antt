use Rattle.tk_race.proofs.racing.race.Given as goal

-- the names are the names of the prepared page, latch and callers
abbrev pub ghosts-raced-L-Named : goal.ghosts-raced-L-Named
ghosts-raced-L-Named g a = record {
  page = a.prepared.page;
  latch = a.prepared.latch;
  notice = a.prepared.notice;
  callers = a.prepared.callers;
}

abbrev pub ghosts-raced-L-Ledger : goal.ghosts-raced-L-Ledger
ghosts-raced-L-Ledger g a = record { name = a.prepared.ledger; parts = a.prepared.callers }
