-- The number of the next second grows by 1 with each second that begins.
use Rattle.std.proofs.Common.{◌≡◌, ◌∙◌, refl, ap, ℕ, suc, ◌+◌, ◌-◌, ◌*◌, ◌/◌, ◌^◌, ◌<◌, Bool, true, false, Option, Some, None, List, length, nat_eq, arith}
use Rattle.std.specs.Prelude.{ℤ, pos, negsuc, ◌+ℤ◌, ◌-ℤ◌, ◌*ℤ◌, option_map, if◌then◌else◌}
use Rattle.std.specs.Int.{int_div_euclid}
use Rattle.std.proofs.lemmas.Int.{ints}
use Rattle.tk_clock.specs.declared.command.Command.{Command}
use Rattle.tk_clock.specs.declared.command.Command.TheVariants.{Freq, Step, Tick, Leap as LeapSecond}
use Rattle.tk_clock.specs.declared.refusal.Refusal.{Refusal}
use Rattle.tk_clock.specs.Refusal.{state_refusal}
use Rattle.tk_clock.specs.State.{State, effect}
use Rattle.tk_ntp.specs.declared.change.Change.{Change}
use Rattle.tk_ntp.specs.declared.leap.Leap.{Leap}
use Rattle.tk_ntp.specs.declared.leap.Leap.TheVariants.{None as NoLeap, Insert, Delete}
use Rattle.tk_ntp.specs.Advance.{IsAdvanced, IsAdvancedBy, Arrived, Begins, leap_of_clock, leapt, leapt_unless, second_begun_at, seconds_by, tai_of_clock, with_next_second}
use Rattle.tk_ntp.specs.Change.{tick_command}
use Rattle.tk_ntp.specs.History.{second_number, IsNumbered, IsNumberedBy}
use Rattle.tk_ntp.specs.Late.{second_begun_late, with_late_second, IsAdvancedLate}
use Rattle.tk_ntp.specs.LateLaws.{IsNumberedLate}
use Rattle.tk_ntp.specs.Leap.{leap_seconds, second_after_leap, tai_after_leap}
use Rattle.tk_ntp.specs.Second.{leap_at}
use Rattle.tk_ntp.specs.Steering.{commands}
use Rattle.tk_ntp.specs.SteeredClock.{SteeredClock, after_or, given_any, given_change, rate_in_force, steered_at}
use Rattle.tk_ntp.proofs.Seconds.{leapt-by}

-- the seconds of an offset, rounded down
abbrev seconds : ℤ → ℤ
seconds offset = int_div_euclid offset (pos 1000000000)

-- an offset that is a second more
second_more : (x y : ℤ) → y ≡ x +ℤ pos 1000000000 → seconds y ≡ seconds x +ℤ pos 1
second_more (pos a) (pos b) h = omega (arith, ints, h)
second_more (pos a) (negsuc b) h = omega (arith, ints, h)
second_more (negsuc a) (pos b) h = omega (arith, ints, h)
second_more (negsuc a) (negsuc b) h = omega (arith, ints, h)

-- a leap of REALTIME
moved : (leap : Leap) (next : ℕ) (x y : ℤ) → 0 < next →
    y ≡ x +ℤ leap_seconds leap *ℤ pos (10 ^ 9) →
    pos (second_after_leap leap next) -ℤ seconds y ≡ pos next -ℤ seconds x
moved NoLeap next x y some h =
    let same : y ≡ x = omega (arith, ints, h) in ap (λ z. pos next -ℤ seconds z) same
moved Insert next x y some h =
    let more = second_more y x (omega (arith, ints, h)) in omega (arith, ints, more, some)
moved Delete next x y some h =
    let more = second_more x y (omega (arith, ints, h)) in omega (arith, ints, more)

-- the offset of REALTIME after the command of a leap
leap-offset : (at : ℕ) (alone : Bool) (by tai : ℤ) (clock : State) →
    (effect clock at
    (if alone then Step (record { sec = by; nsec = 0 }) else LeapSecond by tai)).base.real_offset
    ≡ clock.base.real_offset +ℤ by *ℤ pos (10 ^ 9)
leap-offset at true by tai clock = omega (arith, ints)
leap-offset at false by tai clock = refl

leapt_unless-number : (refusal : Option Refusal) (at : ℕ) (leap : Leap) (steered : SteeredClock) →
    0 < steered.next →
    second_number (leapt_unless refusal at leap steered) ≡ second_number steered
leapt_unless-number (Some refusal) at leap steered some = refl
leapt_unless-number None at leap steered some =
    let tai = tai_of_clock steered.clock in
    let after = tai_after_leap leap tai in
    moved leap steered.next steered.clock.base.real_offset
    (leapt_unless None at leap steered).clock.base.real_offset some
    (leap-offset at (nat_eq after tai) (leap_seconds leap) (pos after) steered.clock)

leapt-number : (at : ℕ) (leap : Leap) (steered : SteeredClock) → 0 < steered.next →
    second_number (leapt at leap steered) ≡ second_number steered
leapt-number at leap steered some =
    leapt-by (λ (s : SteeredClock). second_number s ≡ second_number steered) at leap steered refl
    (λ refusal. leapt_unless-number refusal at leap steered some)

-- commands for the rate keep the offset of REALTIME
abbrev IsSameOffset : State → State → Type 0
IsSameOffset before after = after.base.real_offset ≡ before.base.real_offset

after_or-offset : (refusal : Option Refusal) (after before : State) → IsSameOffset before after →
    IsSameOffset before (after_or refusal after before)
after_or-offset None after before h = h
after_or-offset (Some refusal) after before h = refl

tick-offset : (at : ℕ) (tick : Option ℤ) (clock : State) →
    IsSameOffset clock (given_any at (option_map Tick tick) clock)
tick-offset at None clock = refl
tick-offset at (Some tick) clock =
    after_or-offset (state_refusal clock at (Tick tick)) (effect clock at (Tick tick)) clock refl

frequency-offset : (at : ℕ) (frequency : Option ℤ) (clock : State) →
    IsSameOffset clock (given_any at (option_map Freq frequency) clock)
frequency-offset at None clock = refl
frequency-offset at (Some frequency) clock =
    after_or-offset (state_refusal clock at (Freq frequency)) (effect clock at (Freq frequency))
    clock refl

change-offset : (at : ℕ) (change : Change) (clock : State) →
    IsSameOffset clock (given_change at change clock)
change-offset at change clock =
    frequency-offset at change.frequency (given_any at (tick_command change) clock)
    ∙ tick-offset at change.tick clock

steered-number : (at : ℕ) (steered : SteeredClock) →
    second_number (steered_at at steered) ≡ second_number steered
steered-number at steered =
    let clock = steered.clock in
    ap (λ z. pos steered.next -ℤ seconds z)
    (change-offset at (commands clock.base.counter (rate_in_force clock) steered.steering) clock)

one_more : (next : ℕ) (z : ℤ) → pos (next + 1) -ℤ z ≡ pos next -ℤ z +ℤ pos 1
one_more next z = omega (arith, ints)

positive : (n : ℕ) → 0 < n + 1
positive n = omega arith

-- `begun` is a state as the next second begins, before any command
begun-number : (at : ℕ) (steered begun : SteeredClock) → begun.next ≡ steered.next + 1 →
    begun.clock ≡ steered.clock → (leap : Leap) → 0 < begun.next →
    second_number (steered_at at (leapt at leap begun)) ≡ second_number steered +ℤ pos 1
begun-number at steered begun next clock leap some =
    steered-number at (leapt at leap begun)
    ∙ leapt-number at leap begun some
    ∙ ap (λ (n : ℕ). pos n -ℤ seconds begun.clock.base.real_offset) next
    ∙ ap (λ (s : State). pos (steered.next + 1) -ℤ seconds s.base.real_offset) clock
    ∙ one_more steered.next (seconds steered.clock.base.real_offset)

none_more : (z : ℤ) → z ≡ z +ℤ pos 0
none_more z = omega (arith, ints)

more : (x y z : ℤ) (n : ℕ) → y ≡ x +ℤ pos 1 → z ≡ y +ℤ pos n → z ≡ x +ℤ pos (suc n)
more x y z n h k = omega (arith, ints, h, k)

module _ (starts : ℕ → SteeredClock → SteeredClock)
    (starts-number : (at : ℕ) (steered : SteeredClock) →
    second_number (starts at steered) ≡ second_number steered +ℤ pos 1) where
  number-of : (reading : ℕ) (before after : SteeredClock)
      (h : IsAdvancedBy starts reading before after) →
      second_number after
      ≡ second_number before +ℤ pos (length (seconds_by starts reading before after h))
  number-of reading before after (Arrived steered none) = none_more (second_number steered)
  number-of reading before after (Begins steered end at due rest) =
      let next = starts at steered in
      more (second_number steered) (second_number next) (second_number end)
      (length (seconds_by starts reading next end rest)) (starts-number at steered)
      (number-of reading next end rest)

pub numbered : (reading : ℕ) (before after : SteeredClock) → IsAdvanced reading before after →
    IsNumbered reading before after
numbered reading before after h = record {
  begun = h;
  number =
      number-of second_begun_at (λ at steered.
      begun-number at steered (with_next_second at steered) refl refl
      (leap_at steered.steering.ntp steered.next) (positive steered.next)) reading before after h;
}

pub numbered_late : (reading : ℕ) (before after : SteeredClock) →
    IsAdvancedLate reading before after → IsNumberedLate reading before after
numbered_late reading before after h = record {
  begun = h;
  number =
      number-of (λ at. second_begun_late at reading) (λ at steered.
      begun-number reading steered (with_late_second at reading steered) refl refl
      (leap_at steered.steering.ntp steered.next) (positive steered.next)) reading before after h;
}
