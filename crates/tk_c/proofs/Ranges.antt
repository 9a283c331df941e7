-- The ranges of a discipline whose numbers give it back.
use Rattle.std.proofs.Common.{◌≡◌, ◌≤◌, Bool, true, false, refl}
use Rattle.std.specs.Prelude.{nat_lt, nat_le, not, ◌&&◌, Result, Ok, Err, unsigned_abs, ◌/◌, if◌then◌else◌}
use Rattle.std.proofs.lemmas.Bool.{leb-true}
use Rattle.tk_clock.specs.State.{State}
use Rattle.tk_ntp.specs.declared.numbers.DisciplineNumbers.{DisciplineNumbers}
use Rattle.tk_ntp.specs.declared.numbers.SteeredNumbers.{SteeredNumbers}
use Rattle.tk_ntp.specs.declared.numbers_error.NumbersError.{NumbersError}
use Rattle.tk_ntp.specs.declared.numbers_error.NumbersError.TheVariants as errors
use Rattle.tk_ntp.specs.Length.{max_phase, max_frequency}
use Rattle.tk_ntp.specs.Restored.{are_in_range, are_short, are_low, steered_from}
use Rattle.tk_ntp.specs.SteeredClock.{SteeredClock}

-- the frequency of a discipline whose numbers give it back is in its range
is_in_range : (a : Bool) (rest : Result SteeredClock NumbersError) (steered : SteeredClock) →
    (if not a then Err errors.Discipline else rest) ≡ Ok steered → a ≡ true
is_in_range true rest steered e = refl
is_in_range false rest steered e = absurd cc

last_of : (a b c d : Bool) → (a && b && c && d) ≡ true → d ≡ true
last_of true true true d e = e
last_of true true false d e = absurd cc
last_of true false c d e = absurd cc
last_of false b c d e = absurd cc

second_of : (a b c : Bool) → (a && b && c) ≡ true → b ≡ true
second_of true true c e = refl
second_of true false c e = absurd cc
second_of false b c e = absurd cc

pub frequency_low : (clock : State) (numbers : SteeredNumbers) (steered : SteeredClock) →
    steered_from clock numbers ≡ Ok steered →
    unsigned_abs numbers.steering.ntp.frequency ≤ max_frequency
unfolding are_in_range are_short
frequency_low clock numbers steered e =
    let ntp : DisciplineNumbers = numbers.steering.ntp in
    let ranges = is_in_range _ _ steered e in
    leb-true (unsigned_abs ntp.frequency) max_frequency
    (second_of (nat_le (unsigned_abs ntp.offset) (max_phase / ntp.hz))
    (nat_le (unsigned_abs ntp.frequency) max_frequency) _
    (last_of (nat_lt 0 ntp.hz) (nat_le ntp.hz 1024) (are_low ntp) _ ranges))
