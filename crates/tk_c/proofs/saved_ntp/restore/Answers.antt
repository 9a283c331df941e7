use Rattle.std.proofs.Common.{◌≡◌, ◌∙◌, Some, None, ap, refl, sym}
use Rattle.tk_c.specs.declared.counted_ntp.SteeredCount.{SteeredCount}
use Rattle.tk_c.specs.SavedNtp.{counted_of, counted_with, numbers_of_words}
use Rattle.tk_c.proofs.LoadingNtp.{not_taken, taken}
use Rattle.tk_c.proofs.saved_ntp.restore.Goals as goal

pub returns-in_default-numbers_of_words : goal.returns-in_default-numbers_of_words
returns-in_default-numbers_of_words c =
    let clock = c.in-Some.clock in
    let none : counted_with clock (numbers_of_words c.args.rest.now) ≡ None =
    ap (counted_with clock) (sym c.numbers_of_words.ensures ∙ c.in_default-numbers_of_words.is) in
    not_taken c.args.first.now c.args.rest.now clock c.args.out.now c.args.out.now _
    c.in-Some.ensures none refl c.number-in_default-numbers_of_words.ensures

pub returns-in-Ok : goal.returns-in-Ok
returns-in-Ok c =
    let clock = c.in-Some.clock in
    let ntp : SteeredCount = record { steered = c.in-Ok.steered; front = clock.front } in
    let counted : counted_with clock (numbers_of_words c.args.rest.now) ≡ Some ntp =
    ap (counted_with clock) (sym c.numbers_of_words.ensures ∙ c.in-Some-numbers_of_words.is)
    ∙ ap (counted_of clock.front) (sym c.from_numbers.ensures.value ∙ c.in-Ok.is) in
    taken c.args.first.now c.args.rest.now clock c.args.out.now c.store_ntp.new.out _ ntp
    c.in-Some.ensures counted c.store_ntp.ensures c.number-in-Ok.ensures

pub returns-in-Err : goal.returns-in-Err
returns-in-Err c =
    let clock = c.in-Some.clock in
    let none : counted_with clock (numbers_of_words c.args.rest.now) ≡ None =
    ap (counted_with clock) (sym c.numbers_of_words.ensures ∙ c.in-Some-numbers_of_words.is)
    ∙ ap (counted_of clock.front) (sym c.from_numbers.ensures.value ∙ c.in-Err.is) in
    not_taken c.args.first.now c.args.rest.now clock c.args.out.now c.args.out.now _
    c.in-Some.ensures none refl c.number-in-Err.ensures
