use Rattle.tk_replay.proofs.many.replay_all.Given as goal

abbrev pub ghosts-replay_shared : goal.ghosts-replay_shared
ghosts-replay_shared g a = record { scripts = a.scripts.now }
