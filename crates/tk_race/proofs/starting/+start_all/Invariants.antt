use Rattle.std.proofs.Common.{length}
use Rattle.tk_race.proofs.starting.+start_all.Given as goal

abbrev pub decreases-start_all : goal.decreases-start_all
decreases-start_all g l = length l.actions.now
