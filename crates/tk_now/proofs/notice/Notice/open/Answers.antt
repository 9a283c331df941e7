use Rattle.tk_now.proofs.Announcing.{starts}
use Rattle.tk_now.proofs.notice.Notice.open.Goals as goal

pub of_words-requires : goal.of_words-requires
of_words-requires g c = starts c.args.reading
