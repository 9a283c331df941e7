use Rattle.std.proofs.Common.{rules}
use Rattle.std.proofs.lemmas.Grind.{common_steps}
use Rattle.tk_latch.proofs.Writing.{begins}
use Rattle.tk_latch.proofs.latch.Latch.with_writer.Goals as goal

pub of_words-requires : goal.of_words-requires
of_words-requires g c =
    begins _ c.args.snapshot
    (record { whole = c.words-shown.ensures.back; front = c.requires.opening })
    (search (rules, common_steps))
