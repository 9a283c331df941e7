-- TAI runs on as seconds begin.
use Rattle.std.proofs.Common.{◌≡◌, ◌∙◌, refl, sym, ap, subst, ℕ, ◌+◌, ◌-◌, ◌*◌, ◌/◌, ◌^◌, ◌<◌, ◌≤◌, Bool, true, false, ◌||◌, Option, Some, None, nat_eq, arith}
use Rattle.std.specs.Prelude.{ℤ, pos, negsuc, ◌+ℤ◌, ◌*ℤ◌, ◌<ℤ◌, unsigned_abs, nat_lt, option_map, if◌then◌else◌}
use Rattle.std.proofs.lemmas.Grind.{common_steps}
use Rattle.std.proofs.lemmas.Int.{ints}
use Rattle.tk_counter.specs.Counter.{Counter, gap, half}
use Rattle.tk_clock.specs.declared.command.Command.{Command}
use Rattle.tk_clock.specs.declared.command.Command.TheVariants.{Freq, Tick, Leap as LeapSecond}
use Rattle.tk_clock.specs.declared.refusal.Refusal.{Refusal}
use Rattle.tk_clock.specs.Limits.{greatest_tai}
use Rattle.tk_clock.specs.Monotonic.{cycles_since}
use Rattle.tk_clock.specs.Refusal.{state_refusal}
use Rattle.tk_clock.specs.State.{State, effect}
use Rattle.tk_ntp.specs.declared.change.Change.{Change}
use Rattle.tk_ntp.specs.declared.leap.Leap.{Leap}
use Rattle.tk_ntp.specs.declared.leap.Leap.TheVariants.{None as NoLeap, Insert, Delete}
use Rattle.tk_ntp.specs.Advance.{IsAdvanced, leap_of_clock, leapt, leapt_unless, second_begun_at, tai_of_clock, with_next_second}
use Rattle.tk_ntp.specs.Change.{tick_command}
use Rattle.tk_ntp.specs.History.{IsTaiInside, IsTaiKept, IsTaiSame}
use Rattle.tk_ntp.specs.Late.{second_begun_late, with_late_second, IsAdvancedLate}
use Rattle.tk_ntp.specs.LateLaws.{IsTaiKeptLate}
use Rattle.tk_ntp.specs.Leap.{leap_command}
use Rattle.tk_ntp.specs.Second.{leap_at}
use Rattle.tk_ntp.specs.Steering.{commands}
use Rattle.tk_ntp.specs.SteeredClock.{SteeredClock, after_or, given_any, given_change, rate_in_force, steered_at}
use Rattle.tk_ntp.proofs.Accepted.{ahead_before, awake_before}
use Rattle.tk_ntp.proofs.Each.{each}
use Rattle.tk_ntp.proofs.Made.{none_here}
use borrow.Author.Differences.{abs_is}

same_choice : (test : Bool) (n : ℕ) → (if test then n else n) ≡ n
same_choice true n = refl
same_choice false n = refl

-- no cycles from a reading to itself
no_cycles : (counter : Counter) (asleep : Bool) (at : ℕ) → cycles_since counter asleep at at ≡ 0
no_cycles counter asleep at =
    rw (none_here counter at) (same_choice (asleep || nat_lt (half counter) 0) 0)

not_less : (most n : ℕ) → n ≤ most → nat_lt most n ≡ false
not_less most n h = grind (arith, common_steps)

-- all cycles to a reading ahead, while awake
all_cycles : (counter : Counter) (asleep : Bool) (last at : ℕ) → asleep ≡ false →
    gap counter last at ≤ half counter → cycles_since counter asleep last at ≡ gap counter last at
all_cycles counter asleep last at awake h =
    rw (awake, not_less (half counter) (gap counter last at) h) refl

none_more : (a b c : ℕ) → c ≡ 0 → a + c * b ≡ a
none_more a b c is = rw is (omega arith)

-- TAI at a reading, before and after a command there that keeps REALTIME plus the TAI offset
same_tai : (clock : State) (at mult : ℕ) (real tai : ℤ) → clock.base.asleep ≡ false →
    gap clock.base.counter clock.base.last at ≤ half clock.base.counter →
    real +ℤ tai *ℤ pos (10 ^ 9) ≡ clock.base.real_offset +ℤ clock.base.tai *ℤ pos (10 ^ 9) →
    IsTaiSame at clock
    (record clock {
      base = record clock.base {
        last = at;
        mult = mult;
        amount =
            clock.base.amount + gap clock.base.counter clock.base.last at * clock.base.mult;
        raw_amount =
            clock.base.raw_amount
            + gap clock.base.counter clock.base.last at * clock.base.counter.mult;
        real_offset = real;
        tai = tai;
      };
    })
same_tai clock at mult real tai awake ahead same =
    let base = clock.base in
    let g = gap base.counter base.last at in
    let unit = 2 ^ base.counter.shift in
    let none = none_more (base.amount + g * base.mult) mult
    (cycles_since base.counter base.asleep at at) (no_cycles base.counter base.asleep at) in
    let all = all_cycles base.counter base.asleep base.last at awake ahead in
    ap (λ (n : ℕ). pos (n / unit) +ℤ real +ℤ tai *ℤ pos (10 ^ 9)) none
    ∙ sums (pos ((base.amount + g * base.mult) / unit)) real (tai *ℤ pos (10 ^ 9))
    base.real_offset (base.tai *ℤ pos (10 ^ 9)) same
    ∙ ap (λ (n : ℕ). pos ((base.amount + n * base.mult) / unit) +ℤ base.real_offset
    +ℤ base.tai *ℤ pos (10 ^ 9)) (sym all)
  where
    sums : (m r t r' t' : ℤ) → r +ℤ t ≡ r' +ℤ t' → m +ℤ r +ℤ t ≡ m +ℤ r' +ℤ t'
    sums m r t r' t' h = omega (arith, ints, h)

given-tick : (at : ℕ) (tick : ℤ) (clock : State) (told : Option Refusal) →
    state_refusal clock at (Tick tick) ≡ told →
    IsTaiSame at clock (after_or told (effect clock at (Tick tick)) clock)
given-tick at tick clock (Some refusal) is = refl
given-tick at tick clock None is =
    same_tai clock at (effect clock at (Tick tick)).base.mult clock.base.real_offset clock.base.tai
    (awake_before clock at (Tick tick) refl is) (ahead_before clock at (Tick tick) refl is) refl

given-frequency : (at : ℕ) (frequency : ℤ) (clock : State) (told : Option Refusal) →
    state_refusal clock at (Freq frequency) ≡ told →
    IsTaiSame at clock (after_or told (effect clock at (Freq frequency)) clock)
given-frequency at frequency clock (Some refusal) is = refl
given-frequency at frequency clock None is =
    same_tai clock at (effect clock at (Freq frequency)).base.mult clock.base.real_offset
    clock.base.tai (awake_before clock at (Freq frequency) refl is)
    (ahead_before clock at (Freq frequency) refl is) refl

tick-tai : (at : ℕ) (tick : Option ℤ) (clock : State) →
    IsTaiSame at clock (given_any at (option_map Tick tick) clock)
tick-tai at None clock = refl
tick-tai at (Some tick) clock =
    given-tick at tick clock (state_refusal clock at (Tick tick)) refl

frequency-tai : (at : ℕ) (frequency : Option ℤ) (clock : State) →
    IsTaiSame at clock (given_any at (option_map Freq frequency) clock)
frequency-tai at None clock = refl
frequency-tai at (Some frequency) clock =
    given-frequency at frequency clock (state_refusal clock at (Freq frequency)) refl

pub change-tai : (at : ℕ) (change : Change) (clock : State) →
    IsTaiSame at clock (given_change at change clock)
change-tai at change clock =
    frequency-tai at change.frequency (given_any at (tick_command change) clock)
    ∙ tick-tai at change.tick clock

-- the command of a leap, if the TAI offset can change
is_less : (a b : ℕ) → a < b → nat_lt a b ≡ true
is_less a b h = grind (arith, common_steps)

one_more : (tai : ℕ) → nat_eq (tai + 1) tai ≡ false
one_more tai = grind (arith, common_steps)

one_less : (tai : ℕ) → 0 < tai → nat_eq (tai - 1) tai ≡ false
one_less tai h = grind (arith, common_steps)

insertion : (tai : ℕ) → tai < greatest_tai →
    leap_command Insert tai ≡ LeapSecond (negsuc 0) (pos (tai + 1))
insertion tai low = rw (is_less tai greatest_tai low, one_more tai) refl

deletion : (tai : ℕ) → 0 < tai → leap_command Delete tai ≡ LeapSecond (pos 1) (pos (tai - 1))
deletion tai some = rw (one_less tai some) refl

inside : (tai : ℤ) → pos 0 <ℤ tai → tai <ℤ pos greatest_tai →
    (tai ≡ pos (unsigned_abs tai)) × (0 < unsigned_abs tai) × (unsigned_abs tai < greatest_tai)
inside tai low high = (
  omega (arith, ints, abs_is, low),
  omega (arith, ints, abs_is, low),
  omega (arith, ints, abs_is, low, high),
)

back : (real tai : ℤ) (n : ℕ) → tai ≡ pos n →
    real +ℤ negsuc 0 *ℤ pos (10 ^ 9) +ℤ pos (n + 1) *ℤ pos (10 ^ 9)
    ≡ real +ℤ tai *ℤ pos (10 ^ 9)
back real tai n is = omega (arith, ints, is)

forth : (real tai : ℤ) (n : ℕ) → tai ≡ pos n → 0 < n →
    real +ℤ pos 1 *ℤ pos (10 ^ 9) +ℤ pos (n - 1) *ℤ pos (10 ^ 9)
    ≡ real +ℤ tai *ℤ pos (10 ^ 9)
forth real tai n is some = omega (arith, ints, is, some)

given-leap : (at : ℕ) (by tai : ℤ) (steered : SteeredClock) (leap : Leap)
    (told : Option Refusal) → leap_of_clock leap steered.clock ≡ LeapSecond by tai →
    state_refusal steered.clock at (leap_of_clock leap steered.clock) ≡ told →
    steered.clock.base.real_offset +ℤ by *ℤ pos (10 ^ 9) +ℤ tai *ℤ pos (10 ^ 9)
    ≡ steered.clock.base.real_offset +ℤ steered.clock.base.tai *ℤ pos (10 ^ 9) →
    IsTaiSame at steered.clock (leapt_unless told at leap steered).clock
given-leap at by tai steered leap (Some refusal) cmd is same = refl
given-leap at by tai steered leap None cmd is same =
    let clock = steered.clock in
    let accepted : state_refusal clock at (LeapSecond by tai) ≡ None =
    subst (λ (c : Command). state_refusal clock at c ≡ None) cmd is in
    subst (λ (c : Command). IsTaiSame at clock (effect clock at c)) (sym cmd)
    (same_tai clock at clock.base.mult (clock.base.real_offset +ℤ by *ℤ pos (10 ^ 9)) tai
    (awake_before clock at (LeapSecond by tai) refl accepted)
    (ahead_before clock at (LeapSecond by tai) refl accepted) same)

leapt-tai : (at : ℕ) (leap : Leap) (steered : SteeredClock) → IsTaiInside steered.clock →
    IsTaiSame at steered.clock (leapt at leap steered).clock
leapt-tai at NoLeap steered range = refl
leapt-tai at Insert steered range =
    let base = steered.clock.base in
    let n = tai_of_clock steered.clock in
    let is = inside base.tai range.0 range.1 in
    given-leap at (negsuc 0) (pos (n + 1)) steered Insert
    (state_refusal steered.clock at (leap_of_clock Insert steered.clock)) (insertion n is.2) refl
    (back base.real_offset base.tai n is.0)
leapt-tai at Delete steered range =
    let base = steered.clock.base in
    let n = tai_of_clock steered.clock in
    let is = inside base.tai range.0 range.1 in
    given-leap at (pos 1) (pos (n - 1)) steered Delete
    (state_refusal steered.clock at (leap_of_clock Delete steered.clock)) (deletion n is.1) refl
    (forth base.real_offset base.tai n is.0 is.1)

begun-tai : (at : ℕ) (leap : Leap) (begun : SteeredClock) → IsTaiInside begun.clock →
    IsTaiSame at begun.clock (steered_at at (leapt at leap begun)).clock
begun-tai at leap begun range =
    let after = leapt at leap begun in
    let change = commands after.clock.base.counter (rate_in_force after.clock) after.steering in
    change-tai at change after.clock ∙ leapt-tai at leap begun range

pub tai_kept : (reading : ℕ) (before after : SteeredClock) → IsAdvanced reading before after →
    IsTaiKept reading before after
tai_kept reading before after h = record {
  begun = h;
  same =
      each second_begun_at (λ at steered. IsTaiInside steered.clock →
      IsTaiSame at steered.clock (second_begun_at at steered).clock) reading before after h
      (λ at steered range.
      begun-tai at (leap_at steered.steering.ntp steered.next) (with_next_second at steered) range);
}

pub tai_kept_late : (reading : ℕ) (before after : SteeredClock) →
    IsAdvancedLate reading before after → IsTaiKeptLate reading before after
tai_kept_late reading before after h = record {
  begun = h;
  same =
      each (λ at. second_begun_late at reading) (λ at steered. IsTaiInside steered.clock →
      IsTaiSame reading steered.clock (second_begun_late at reading steered).clock) reading before
      after h
      (λ at steered range.
      begun-tai reading (leap_at steered.steering.ntp steered.next)
      (with_late_second at reading steered) range);
}
