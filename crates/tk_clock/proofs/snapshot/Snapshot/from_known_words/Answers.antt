use Rattle.std.proofs.Common.{Some, ap, sym, ◌∙◌, get_or}
use Rattle.tk_clock.specs.Snapshot.{Snapshot}
use Rattle.tk_clock.specs.State.{ReadBase}
use Rattle.tk_clock.specs.Words.{snapshot_of_words, words_of}
use Rattle.tk_clock.proofs.Words.{in_range, is_within-stated, words_again, restored-stated, stated-restored}
use Rattle.tk_clock.proofs.snapshot.Snapshot.from_known_words.Goals as goal

pub base_of_words-requires-clause-range : goal.base_of_words-requires-clause-range
base_of_words-requires-clause-range c =
    (stated-restored c.args.desc c.args.words c.requires.known).range

pub invariant_of-result : goal.invariant_of-result
invariant_of-result c =
    let stated = stated-restored c.args.desc c.args.words c.requires.known in
    rw c.base_of_words.ensures.value
    (is_within-stated (snapshot_of_words c.args.desc c.args.words).base stated.within)

pub returns-clause-value : goal.returns-clause-value
returns-clause-value c =
    let stated = stated-restored c.args.desc c.args.words c.requires.known in
    let with_base : ReadBase →
    Snapshot = λ base. record { front = get_or c.args.words 0 0; base = base } in
    restored-stated c.args.desc c.args.words stated.range stated.within
    ∙ ap (λ base. Some (with_base base)) (sym c.base_of_words.ensures.value)

pub returns-clause-again : goal.returns-clause-again
returns-clause-again c =
    let stated = stated-restored c.args.desc c.args.words c.requires.known in
    let with_base : ReadBase →
    Snapshot = λ base. record { front = get_or c.args.words 0 0; base = base } in
    ap (λ base. words_of (with_base base)) c.base_of_words.ensures.value
    ∙ words_again c.args.desc c.args.words c.base_of_words.ensures.ten
    (in_range c.args.desc c.args.words stated.range)
