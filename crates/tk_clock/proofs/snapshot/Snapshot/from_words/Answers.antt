use Rattle.std.proofs.Common.{Bool, Some, ap, sym, refl, ◌∙◌, get_or}
use Rattle.tk_clock.specs.declared.command.Command.TheVariants.{Update}
use Rattle.tk_clock.specs.Limits.{is_past_limit}
use Rattle.tk_clock.specs.Snapshot.{Snapshot}
use Rattle.tk_clock.specs.State.{ReadBase, base_value}
use Rattle.tk_clock.specs.Words.{snapshot_of_words, words_of}
use Rattle.tk_clock.proofs.Words.{in_range, within_stated, passes_within, fails_within, monotonic_within, words_again, restored-stated, restored-none}
use Rattle.tk_clock.proofs.snapshot.Snapshot.from_words.Goals as goal

abbrev is_past : ReadBase → Bool
is_past base = is_past_limit (λ clock. base_value base clock base.last) Update

pub returns-then-is_past_limit-clause-value : goal.returns-then-is_past_limit-clause-value
returns-then-is_past_limit-clause-value c =
    let range = in_range c.args.desc c.args.words (sym c.if-not-are_in_range.ensures.value) in
    let base = (snapshot_of_words c.args.desc c.args.words).base in
    let past = ap is_past (sym c.base_of_words-base.ensures.value) ∙ sym c.if-is_past_limit.ensures in
    sym (restored-none c.args.desc c.args.words
    (fails_within base
    (monotonic_within base (record {
      sec = get_or c.args.words 4 0;
      frac = get_or c.args.words 3 0;
    }) refl range.sec_low range.frac_low) past))

pub invariant_of-result : goal.invariant_of-result
invariant_of-result c = within_stated c.base_of_words-base.result (sym c.if-is_past_limit.ensures)

pub returns-clause-value : goal.returns-clause-value
returns-clause-value c =
    let base = (snapshot_of_words c.args.desc c.args.words).base in
    let low = ap is_past (sym c.base_of_words-base.ensures.value) ∙ sym c.if-is_past_limit.ensures in
    let with_base : ReadBase →
    Snapshot = λ base. record { front = get_or c.args.words 0 0; base = base } in
    ap (λ base. Some (with_base base)) c.base_of_words-base.ensures.value
    ∙ sym (restored-stated c.args.desc c.args.words (sym c.if-not-are_in_range.ensures.value)
    (passes_within base (within_stated base low)))

pub returns-clause-again : goal.returns-clause-again
returns-clause-again c =
    let range = in_range c.args.desc c.args.words (sym c.if-not-are_in_range.ensures.value) in
    let with_base : ReadBase →
    Snapshot = λ base. record { front = get_or c.args.words 0 0; base = base } in
    ap (λ base. words_of (with_base base)) c.base_of_words-base.ensures.value
    ∙ words_again c.args.desc c.args.words c.are_in_range.ensures.ten range
