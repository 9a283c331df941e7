use Rattle.tk_now.proofs.Announcing.{starts}
use Rattle.tk_now.proofs.counter.Look.first.Goals as goal

pub of_words-requires : goal.of_words-requires
of_words-requires g c = starts 0
