use Rattle.std.proofs.Common.{◌≡◌, rules, sym, ap, ◌∙◌}
use Rattle.tk_clock.specs.Words.{restored}
use Rattle.tk_latch.proofs.Reading.{whole_read}
use Rattle.tk_latch.proofs.reader.LatchReader.try_read.Goals as goal

pub returns-clause-answer : goal.returns-clause-answer
returns-clause-answer g c =
    let attempt = c.read_once-first in
    let counter : c.latch.inside.desc ≡ attempt.new.seat.me.0.history.counter = search rules in
    let back = ap (λ desc. restored desc attempt.result.words) (sym counter)
    ∙ c.from_known_words.ensures.value in
    whole_read _ _ _ _ _ _ _ _ attempt.ensures.attempt c.if-first-last.false
    (ap (λ p. p.publications) (sym c.self.view_is))
    (ap (λ p. p.found) (sym c.self.view_is)) back
