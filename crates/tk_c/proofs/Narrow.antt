-- Words that fit in fewer than 64 bits.
use Rattle.std.proofs.Common.{rules, ◌≡◌, ℕ, ◌<◌, ◌^◌, true, List, Some, refl, w64, FitsSigned}
use Rattle.std.proofs.lemmas.Int.{to_z-of_z}
use Rattle.std.specs.Prelude.{slice_index}
use Rattle.tk_ntp.specs.declared.numbers.SteeredNumbers.{SteeredNumbers}
use Rattle.tk_c.specs.SavedNtp.{are_narrow, number_words, numbers_of_words}

-- the words of numbers with fewer than 64 bits fit in them
pub all_narrow : (words : List ℕ) → slice_index words 0 < 2 ^ 32 → slice_index words 1 < 2 ^ 32 →
    slice_index words 2 < 2 ^ 32 → slice_index words 3 < 2 ^ 8 → slice_index words 6 < 2 ^ 32 →
    slice_index words 7 < 2 ^ 32 → slice_index words 8 < 2 ^ 32 → slice_index words 9 < 2 ^ 32 →
    are_narrow words ≡ true
unfolding are_narrow
all_narrow words a b c d e f g h = search rules

-- the words of numbers that fit represent these numbers
pub words_back : (numbers : SteeredNumbers) → numbers.steering.ntp.hz < 2 ^ 32 →
    numbers.steering.ntp.status < 2 ^ 32 → numbers.steering.ntp.plan.state < 2 ^ 32 →
    numbers.steering.ntp.plan.is_due < 2 ^ 8 → numbers.steering.ntp.constant < 2 ^ 32 →
    numbers.steering.ntp.maxerror < 2 ^ 32 → numbers.steering.ntp.esterror < 2 ^ 32 →
    numbers.steering.ntp.tick < 2 ^ 32 → FitsSigned w64 numbers.steering.ntp.offset →
    FitsSigned w64 numbers.steering.ntp.frequency → FitsSigned w64 numbers.steering.ntp.adjust →
    FitsSigned w64 numbers.steering.ntp.phase →
    numbers_of_words (number_words numbers) ≡ Some numbers
words_back numbers hz status state is_due constant maxerror esterror tick offset frequency adjust phase =
    let ntp = numbers.steering.ntp in
    rw (
      all_narrow (number_words numbers) hz status state is_due constant maxerror esterror tick,
      to_z-of_z w64 ntp.offset offset,
      to_z-of_z w64 ntp.frequency frequency,
      to_z-of_z w64 ntp.adjust adjust,
      to_z-of_z w64 ntp.phase phase,
    ) refl
