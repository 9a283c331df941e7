use Rattle.std.proofs.Common.{◌≡◌, ◌∙◌, sym, subst, refl, length, List, ℕ}
use Rattle.tk_c.specs.Saved.{saved}
use Rattle.tk_c.specs.CountedNtp.{counted_clock, whole}
use Rattle.tk_c.specs.SavedNtp.{number_words, LoadsAsNtp}
use Rattle.tk_ntp.specs.Numbers.{steered_numbers}
use Rattle.tk_c.proofs.LoadingNtp.{joined, loads}
use Rattle.tk_c.proofs.saved_ntp.tkc_ntp_save.Goals as goal

pub returns-clause-value : goal.returns-clause-value
returns-clause-value c =
    let ntp = whole c.args.ntp.now in
    let first : c.tkc_clock_save.new.words ≡ saved (counted_clock ntp) =
    c.tkc_clock_save.ensures.value in
    let rest : c.store_numbers.new.words ≡ number_words (steered_numbers ntp.steered) =
    rw c.numbers.ensures.value at c.store_numbers.ensures.value in
    let long : length c.tkc_clock_save.new.words ≡ 15 = rw first refl in
    joined c.args.words.now c.tkc_clock_save.new.words c.store_numbers.new.words c.told-words long
    ∙ rw (first, rest) refl

pub returns-clause-back : goal.returns-clause-back
returns-clause-back c =
    let ntp = whole c.args.ntp.now in
    let clock = ntp.steered.clock in
    let narrow = rw c.numbers.ensures.value at c.store_numbers.ensures.back in
    subst (λ (words : List ℕ). LoadsAsNtp words ntp) (sym (returns-clause-value c))
    (loads ntp c.tkc_clock_save.ensures.running narrow (c.numbers.ensures.back clock)
    c.tkc_clock_save.ensures.counter c.tkc_clock_save.ensures.snapshot)
