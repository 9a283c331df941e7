use Rattle.std.proofs.Common.{sym, subst}
use Rattle.std.specs.Prelude.{◌≡◌, IfSome}
use Rattle.tk_latch.proofs.Publications.{restored_parts}
use Rattle.tk_page_tests.proofs.tests.latch.changes.publication.Goals as goal

pub returns : goal.returns
returns c =
    subst (λ stated. IfSome stated (λ s. (s.front ≡ c.args.number) × (s.base.counter ≡ c.args.desc)))
    (sym c.from_words.ensures.value)
    (restored_parts c.args.desc c.words_at.result c.args.number c.words_at.ensures)
