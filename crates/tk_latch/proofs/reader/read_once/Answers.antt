use Rattle.std.proofs.Common.{rules, sym, ap, ◌∙◌, ℕ, List}
use Rattle.tk_latch.specs.declared.rule.History.{History}
use Rattle.tk_latch.specs.Views.{reading, found_by}
use Rattle.tk_latch.proofs.Reading.{reads_begin, reads_end, attempts}
use Rattle.tk_latch.proofs.reader.read_once.Goals as goal

pub load-first-requires : goal.load-first-requires
load-first-requires g c = (search rules, search rules, reads_begin _ _ _ _ _ c.requires.reader)

pub gather-words-requires-clause-reader : goal.gather-words-requires-clause-reader
gather-words-requires-clause-reader g c =
    let begun = c.load-first.ensures.2.2 _ _ c.requires.reader in
    let n : ℕ = c.load-first.result in
    begun.1 ∙ ap (λ (t : History × List ℕ). reading t.0 t.1 n n)
    (λ i. (sym (ap (λ v. v.history) begun.1) i, sym (ap (λ v. found_by v.role) begun.1) i))

pub load-last-requires : goal.load-last-requires
load-last-requires g c =
    (search rules, search rules, reads_end _ _ _ _ _ _ _ c.gather-words.ensures.words.1)

pub returns-clause-attempt : goal.returns-clause-attempt
returns-clause-attempt g c =
    attempts _ _ c.gather-words.new.seat.me.0 _ _ _ _
    (c.load-first.ensures.2.2 _ _ c.requires.reader) c.gather-words.ensures.words
    c.load-last.ensures.2.2
