use Rattle.tk_now.proofs.Life.{in_life}
use Rattle.tk_now.proofs.honest.answers_are_in_life.Goals as goal

pub returns : goal.returns
returns c = in_life
