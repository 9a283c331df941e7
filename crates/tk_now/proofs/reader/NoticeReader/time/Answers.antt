use Rattle.std.proofs.Common.{rules, ap, sym}
use Rattle.tk_now.proofs.Timing.{times, both_prefixes}
use Rattle.tk_now.proofs.reader.NoticeReader.time.Goals as goal

pub returns-then-first-last-clause-extends : goal.returns-then-first-last-clause-extends
returns-then-first-last-clause-extends g c =
    both_prefixes c.args.self.now _ _ _ _ _ _ (ap (λ p. p.commands) (sym c.self.view_is))
    (ap (λ p. p.log) (sym c.self.view_is)) c.begin-first.ensures.begun c.end-last.ensures.ended

pub returns-clause-extends : goal.returns-clause-extends
returns-clause-extends g c =
    both_prefixes c.args.self.now _ _ _ _ _ _ (ap (λ p. p.commands) (sym c.self.view_is))
    (ap (λ p. p.log) (sym c.self.view_is)) c.begin-first.ensures.begun c.end-last.ensures.ended

pub returns-clause-answer : goal.returns-clause-answer
returns-clause-answer g c =
    times _ _ _ _ _ _ _ _ _ _ (ap (λ p. p.log) (sym c.self.view_is))
    (ap (λ p. p.found) (sym c.self.view_is)) c.begin-first.ensures.begun c.end-last.ensures.ended
    c.read-reading.ensures.given c.if-first-last.false (search rules)
