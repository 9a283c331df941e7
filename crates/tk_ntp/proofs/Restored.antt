-- Numbers that pass the tests are those of a state, and a state's numbers pass them.
use Rattle.std.proofs.Common.{◌≡◌, ◌∙◌, refl, sym, ap, arith, ℕ, ◌+◌, ◌*◌, ◌/◌, ◌%◌, ◌^◌, ◌<◌, ◌≤◌, Bool, true, false}
use Rattle.std.specs.Prelude.{zero, suc, ◌&&◌, ◌||◌, nat_eq, Option, Some, None, unsigned_abs, if◌then◌else◌, nat_le, nat_lt, not, ℤ, pos, ◌+ℤ◌, Result, Ok, Err}
use Rattle.std.proofs.lemmas.Int.{ints}
use Rattle.std.proofs.lemmas.Bool.{lt-ltb, le-leb, ltb-true, leb-true, eqb-true}
use Rattle.std.proofs.lemmas.Grind.{common_steps}
use Rattle.std.proofs.lemmas.Nat.{div-mul-add, mod-mul-add}
use Rattle.std.proofs.Math.IntN.{+ℤ-neg_ℤ_cancel}
use Rattle.tk_clock.specs.Limits.{clock_end}
use Rattle.tk_clock.specs.State.{State}
use Rattle.tk_ntp.specs.declared.leap_plan.LeapState.{LeapState}
use Rattle.tk_ntp.specs.declared.leap_plan.LeapState.TheVariants.{Idle, Inserting, Deleting, InProgress, Over}
use Rattle.tk_ntp.specs.declared.numbers.LagNumbers.{LagNumbers}
use Rattle.tk_ntp.specs.declared.numbers.LeapNumbers.{LeapNumbers}
use Rattle.tk_ntp.specs.declared.numbers.DisciplineNumbers.{DisciplineNumbers}
use Rattle.tk_ntp.specs.declared.numbers.SteeredNumbers.{SteeredNumbers}
use Rattle.tk_ntp.specs.declared.numbers_error.NumbersError.{NumbersError}
use Rattle.tk_ntp.specs.declared.numbers_error.NumbersError.TheVariants as errors
use Rattle.tk_ntp.specs.Lag.{least_lag, IsLag}
use Rattle.tk_ntp.specs.Leap.{LeapPlan, IsPlanned, number_of, state_numbered, due_if, due_in, is_due_in}
use Rattle.tk_ntp.specs.Length.{max_phase, max_frequency}
use Rattle.tk_ntp.specs.Ntp.{Ntp, IsNtp}
use Rattle.tk_ntp.specs.Request.{error_limit, greatest_constant}
use Rattle.tk_ntp.specs.Numbers.{lag_numbers, leap_numbers, discipline_numbers, steered_numbers}
use Rattle.tk_ntp.specs.Restored.{are_low, are_short, are_in_range, is_plan, is_lag, plan_of, lag_of, steered_of, steered_from}
use Rattle.tk_ntp.specs.SteeredClock.{SteeredClock}

both : (a b : Bool) → (a && b) ≡ true → (a ≡ true) × (b ≡ true)
both true b e = (refl, e)
both false b e = absurd cc

both_true : (a b : Bool) → a ≡ true → b ≡ true → (a && b) ≡ true
both_true a b p q = ap (λ x. x && b) p ∙ q

-- the facts that follow if the tests pass
pub record AreShort (hz : ℕ) (offset frequency phase : ℤ) : Type 0 where
  pub offset_short : unsigned_abs offset ≤ max_phase / hz
  pub frequency_low : unsigned_abs frequency ≤ max_frequency
  pub phase_short : unsigned_abs phase ≤ max_phase / hz + max_frequency / hz

short_lengths : (hz : ℕ) (offset frequency phase : ℤ) →
    are_short hz offset frequency phase ≡ true → AreShort hz offset frequency phase
unfolding are_short
short_lengths hz offset frequency phase e =
    let first = (both _ _ e).0 in
    record {
      offset_short = leb-true _ _ (both _ _ first).0;
      frequency_low = leb-true _ _ (both _ _ first).1;
      phase_short = leb-true _ _ (both _ _ e).1;
    }

passes_short : (hz : ℕ) (offset frequency phase : ℤ) → AreShort hz offset frequency phase →
    are_short hz offset frequency phase ≡ true
unfolding are_short
passes_short hz offset frequency phase held =
    both_true _ _ (both_true _ _ (le-leb _ _ held.offset_short) (le-leb _ _ held.frequency_low))
    (le-leb _ _ held.phase_short)

pub record AreLow (numbers : DisciplineNumbers) : Type 0 where
  pub constant_high : numbers.constant ≤ greatest_constant
  pub maxerror_high : numbers.maxerror ≤ error_limit
  pub esterror_high : numbers.esterror ≤ error_limit
  pub tick_low : 9000 ≤ numbers.tick
  pub tick_high : numbers.tick ≤ 11000
  pub reftime_high : numbers.reftime < 2 ^ 63

low_numbers : (numbers : DisciplineNumbers) → are_low numbers ≡ true → AreLow numbers
unfolding are_low
low_numbers numbers e =
    let e5 = both _ _ e in
    let e4 = both _ _ e5.0 in
    let e3 = both _ _ e4.0 in
    let e2 = both _ _ e3.0 in
    let e1 = both _ _ e2.0 in
    record {
      constant_high = leb-true _ _ e1.0;
      maxerror_high = leb-true _ _ e1.1;
      esterror_high = leb-true _ _ e2.1;
      tick_low = leb-true _ _ e3.1;
      tick_high = leb-true _ _ e4.1;
      reftime_high = ltb-true _ _ e5.1;
    }

passes_low : (numbers : DisciplineNumbers) → AreLow numbers → are_low numbers ≡ true
unfolding are_low
passes_low numbers held =
    both_true _ _ (both_true _ _ (both_true _ _ (both_true _ _ (both_true _ _
    (le-leb _ _ held.constant_high) (le-leb _ _ held.maxerror_high))
    (le-leb _ _ held.esterror_high)) (le-leb _ _ held.tick_low)) (le-leb _ _ held.tick_high))
    (lt-ltb _ _ held.reftime_high)

-- numbers in their ranges are those of a discipline
pub record AreInRange (numbers : DisciplineNumbers) : Type 0 where
  pub hz_low : 0 < numbers.hz
  pub hz_high : numbers.hz ≤ 1024
  pub low : AreLow numbers
  pub short : AreShort numbers.hz numbers.offset numbers.frequency numbers.phase

pub in_range : (numbers : DisciplineNumbers) → are_in_range numbers ≡ true → AreInRange numbers
unfolding are_in_range
in_range numbers e =
    let first = (both _ _ e).0 in
    let ends = (both _ _ first).0 in
    record {
      hz_low = ltb-true _ _ (both _ _ ends).0;
      hz_high = leb-true _ _ (both _ _ ends).1;
      low = low_numbers numbers (both _ _ first).1;
      short = short_lengths numbers.hz numbers.offset numbers.frequency numbers.phase
          (both _ _ e).1;
    }

-- a discipline's numbers are in their ranges
pub passes_range : (ntp : Ntp) → IsNtp ntp → are_in_range (discipline_numbers ntp) ≡ true
unfolding are_in_range
passes_range ntp held =
    let low : AreLow (discipline_numbers ntp) = record {
      constant_high = held.constant_high;
      maxerror_high = held.maxerror_high;
      esterror_high = held.esterror_high;
      tick_low = held.tick_low;
      tick_high = held.tick_high;
      reftime_high = held.reftime_high;
    } in
    let short : AreShort ntp.hz ntp.offset ntp.frequency ntp.phase = record {
      offset_short = held.offset_short;
      frequency_low = held.frequency_low;
      phase_short = held.phase_short;
    } in
    both_true _ _ (both_true _ _
    (both_true _ _ (lt-ltb _ _ held.hz_low) (le-leb _ _ held.hz_high))
    (passes_low (discipline_numbers ntp) low))
    (passes_short ntp.hz ntp.offset ntp.frequency ntp.phase short)

-- a state's number that is at most 4 is the number of the state with that number
numbered_at : (number : ℕ) → number ≤ 4 → number_of (state_numbered number) ≡ number
numbered_at zero low = refl
numbered_at (suc zero) low = refl
numbered_at (suc (suc zero)) low = refl
numbered_at (suc (suc (suc zero))) low = refl
numbered_at (suc (suc (suc (suc zero)))) low = refl
numbered_at (suc (suc (suc (suc (suc n))))) low = absurd (omega arith)

-- without a leap, its second is 0
zero_if : (test : Bool) (due : ℕ) → (test || nat_eq due 0) ≡ true → due_in (due_if test due) ≡ due
zero_if true due e = refl
zero_if false due e = sym (eqb-true due 0 e)

-- numbers that pass the test are those of a plan
pub planned : (numbers : LeapNumbers) → is_plan numbers ≡ true →
    IsPlanned numbers.state (nat_eq numbers.is_due 1) numbers.due
unfolding is_plan
planned numbers e = record {
  numbered = numbered_at numbers.state (leb-true _ _ (both _ _ (both _ _ e).0).0);
  zero_if_none = zero_if (nat_eq numbers.is_due 1) numbers.due (both _ _ e).1;
}

-- a test as a number
bit_of : (n : ℕ) → n ≤ 1 → (due : ℕ) →
    (if is_due_in (due_if (nat_eq n 1) due) then 1 else 0) ≡ n
bit_of zero low due = refl
bit_of (suc zero) low due = refl
bit_of (suc (suc n)) low due = absurd (omega arith)

-- the numbers of the plan in these numbers are these numbers again
pub plan_again : (numbers : LeapNumbers) → is_plan numbers ≡ true →
    leap_numbers (plan_of numbers) ≡ numbers
unfolding is_plan
plan_again numbers e =
    let is = planned numbers e in
    let low = leb-true _ _ (both _ _ (both _ _ e).0).1 in
    let put : ℕ → ℕ → ℕ → LeapNumbers = λ state is_due due. record {
      state = state;
      is_due = is_due;
      due = due;
    } in
    let found = plan_of numbers in
    let bit : ℕ = if is_due_in found.due then 1 else 0 in
    ap (λ n. put n bit (due_in found.due)) is.numbered
    ∙ ap (λ n. put numbers.state n (due_in found.due)) (bit_of numbers.is_due low numbers.due)
    ∙ ap (λ n. put numbers.state numbers.is_due n) is.zero_if_none

-- a plan's numbers pass the test
number_low : (state : LeapState) → number_of state ≤ 4
number_low Idle = omega arith
number_low Inserting = omega arith
number_low Deleting = omega arith
number_low InProgress = omega arith
number_low Over = omega arith

pub passes_plan : (plan : LeapPlan) → is_plan (leap_numbers plan) ≡ true
unfolding is_plan
passes_plan plan =
    both_true _ _
    (both_true _ _ (le-leb _ _ (number_low plan.state)) (bit_low plan.due)) (or_zero plan.due)
  where
    bit_low : (due : Option ℕ) → nat_le (if is_due_in due then 1 else 0) 1 ≡ true
    bit_low (Some due) = refl
    bit_low None = refl

    or_zero : (due : Option ℕ) →
        (nat_eq (if is_due_in due then 1 else 0) 1 || nat_eq (due_in due) 0) ≡ true
    or_zero (Some due) = refl
    or_zero None = refl

-- the plan in a plan's numbers is the plan
pub plan_back : (plan : LeapPlan) → plan_of (leap_numbers plan) ≡ plan
plan_back plan =
    ap (λ (s : LeapState). put s (due_if (nat_eq (if is_due_in plan.due then 1 else 0) 1)
    (due_in plan.due))) (state_back plan.state)
    ∙ ap (λ (d : Option ℕ). put plan.state d) (due_back plan.due)
  where
    put : LeapState → Option ℕ → LeapPlan
    put state due = record { state = state; due = due }

    state_back : (state : LeapState) → state_numbered (number_of state) ≡ state
    state_back Idle = refl
    state_back Inserting = refl
    state_back Deleting = refl
    state_back InProgress = refl
    state_back Over = refl

    due_back : (due : Option ℕ) →
        due_if (nat_eq (if is_due_in due then 1 else 0) 1) (due_in due) ≡ due
    due_back (Some due) = refl
    due_back None = refl

-- two words that pass the test contain a lag
short_lag : (words : ℕ) → 2 ^ 123 ≤ words → words ≤ 3 * 2 ^ 123 →
    unsigned_abs (pos words +ℤ least_lag) ≤ 2 ^ 123
short_lag words low high = omega (arith, ints)

pub lag_within : (numbers : LagNumbers) → is_lag numbers ≡ true → numbers.low < 2 ^ 64 →
    IsLag numbers.high numbers.low
unfolding is_lag
lag_within numbers e fits = record {
  low_fits = fits;
  short = short_lag (numbers.high * 2 ^ 64 + numbers.low) (leb-true _ _ (both _ _ e).0)
      (leb-true _ _ (both _ _ e).1);
}

-- the words of the lag in two words are these words again
pub lag_again : (numbers : LagNumbers) → numbers.low < 2 ^ 64 →
    lag_numbers (lag_of numbers) ≡ numbers
lag_again numbers fits =
    let words : ℕ = numbers.high * 2 ^ 64 + numbers.low in
    ap (λ (n : ℕ). parts (n / 2 ^ 64) (n % 2 ^ 64))
    (ap unsigned_abs (+ℤ-neg_ℤ_cancel (pos words) least_lag))
    ∙ ap (λ (n : ℕ). parts n (words % 2 ^ 64)) (div-mul-add numbers.high (2 ^ 64) numbers.low fits)
    ∙ ap (λ (n : ℕ). parts numbers.high n) (mod-mul-add numbers.high (2 ^ 64) numbers.low fits)
  where
    parts : ℕ → ℕ → LagNumbers
    parts high low = record { high = high; low = low }

-- a lag's words contain it, and pass the test
long_words : (words : ℕ) → unsigned_abs (pos words +ℤ least_lag) ≤ 2 ^ 123 →
    (2 ^ 123 ≤ words) × (words ≤ 3 * 2 ^ 123)
long_words words short = (omega (arith, ints), omega (arith, ints))

passes_words : (numbers : LagNumbers) → IsLag numbers.high numbers.low → is_lag numbers ≡ true
unfolding is_lag
passes_words numbers held =
    let long = long_words (numbers.high * 2 ^ 64 + numbers.low) held.short in
    both_true _ _ (le-leb _ _ long.0) (le-leb _ _ long.1)

pub passes_lag : (numbers : LagNumbers) → IsLag numbers.high numbers.low →
    is_lag (lag_numbers (lag_of numbers)) ≡ true
passes_lag numbers held =
    ap is_lag (lag_again numbers held.low_fits) ∙ passes_words numbers held

pub lag_back : (numbers : LagNumbers) → IsLag numbers.high numbers.low →
    lag_of (lag_numbers (lag_of numbers)) ≡ lag_of numbers
lag_back numbers held = ap lag_of (lag_again numbers held.low_fits)

-- numbers that pass each test are taken
abbrev chosen : Bool → Bool → Bool → Bool → SteeredClock → Result SteeredClock NumbersError
chosen range plan lag late steered =
    if not range then Err errors.Discipline
    else if not plan then Err errors.Leap
    else if not lag then Err errors.Lag
    else if late then Err errors.Second
    else Ok steered

passed : (a b c d : Bool) → a ≡ true → b ≡ true → c ≡ true → d ≡ false →
    (steered : SteeredClock) → chosen a b c d steered ≡ Ok steered
passed a b c d p q r s steered =
    ap (λ v. chosen v b c d steered) p
    ∙ ap (λ v. chosen true v c d steered) q
    ∙ ap (λ v. chosen true true v d steered) r
    ∙ ap (λ v. chosen true true true v steered) s

not_less : (most next : ℕ) → next ≤ most → nat_lt most next ≡ false
not_less most next h = grind (arith, common_steps)

pub accepted : (clock : State) (numbers : SteeredNumbers) →
    are_in_range numbers.steering.ntp ≡ true → is_plan numbers.steering.ntp.plan ≡ true →
    is_lag numbers.steering.lag ≡ true → numbers.next ≤ clock_end + 1 →
    steered_from clock numbers ≡ Ok (steered_of clock numbers)
accepted clock numbers range plan lag early =
    passed (are_in_range numbers.steering.ntp) (is_plan numbers.steering.ntp.plan)
    (is_lag numbers.steering.lag) (nat_lt (clock_end + 1) numbers.next) range plan lag
    (not_less (clock_end + 1) numbers.next early) (steered_of clock numbers)

-- the steered clocks in the numbers of steered clocks are these clocks
pub steered_back : (steered : SteeredClock) →
    are_in_range (discipline_numbers steered.steering.ntp) ≡ true →
    is_lag (lag_numbers steered.steering.lag) ≡ true →
    lag_of (lag_numbers steered.steering.lag) ≡ steered.steering.lag →
    steered.next ≤ clock_end + 1 →
    steered_from steered.clock (steered_numbers steered) ≡ Ok steered
steered_back steered range lag back early =
    accepted steered.clock (steered_numbers steered) range
    (passes_plan steered.steering.ntp.plan) lag early
    ∙ ap (λ (l : ℤ). Ok (with_lag (plan_of (leap_numbers steered.steering.ntp.plan)) l)) back
    ∙ ap (λ (p : LeapPlan). Ok (with_lag p steered.steering.lag))
    (plan_back steered.steering.ntp.plan)
  where
    with_lag : LeapPlan → ℤ → SteeredClock
    with_lag plan lag = record steered {
      steering = record steered.steering {
        ntp = record steered.steering.ntp { plan = plan };
        lag = lag;
      };
    }
