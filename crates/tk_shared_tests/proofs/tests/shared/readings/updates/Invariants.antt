use Rattle.tk_shared_tests.proofs.tests.shared.readings.updates.Given as goal

-- the names are the names of the prepared parts
abbrev pub ghosts-updates_named-L-Named : goal.ghosts-updates_named-L-Named
ghosts-updates_named-L-Named g a = record {
  page = a.prepared.page;
  latch = a.prepared.latch;
  notice = a.prepared.notice;
  callers = a.prepared.callers;
}

abbrev pub ghosts-updates_named-L-Ledger : goal.ghosts-updates_named-L-Ledger
ghosts-updates_named-L-Ledger g a = record { name = a.prepared.ledger; parts = a.prepared.callers }
