-- The commands as a second begins keep MONOTONIC at its reading.
use Rattle.std.proofs.Common.{◌≡◌, ◌∙◌, refl, ap, ℕ, ◌+◌, ◌*◌, ◌^◌, ◌⊎◌, inl, inr, Bool, true, false, Option, Some, None, nat_eq, arith}
use Rattle.std.specs.Prelude.{ℤ, pos, option_map, if◌then◌else◌}
use Rattle.std.proofs.lemmas.Nat.{pow_pos}
use Rattle.tk_counter.specs.Counter.{Counter, gap}
use Rattle.tk_counter.proofs.Gaps.{gap-self}
use Rattle.tk_clock.specs.declared.command.Command.{Command}
use Rattle.tk_clock.specs.declared.command.Command.TheVariants.{Freq, Step, Tick, Tai, Leap as LeapSecond}
use Rattle.tk_clock.specs.declared.refusal.Refusal.{Refusal}
use Rattle.tk_clock.specs.Refusal.{state_refusal}
use Rattle.tk_clock.specs.State.{State, effect}
use Rattle.tk_ntp.specs.declared.leap.Leap.{Leap}
use Rattle.tk_ntp.specs.declared.change.Change.{Change}
use Rattle.tk_ntp.specs.Account.{units_at}
use Rattle.tk_ntp.specs.Advance.{leapt, leapt_unless, second_begun_at, tai_of_clock, with_next_second}
use Rattle.tk_ntp.specs.Asked.{given_tai}
use Rattle.tk_ntp.specs.Change.{tick_command, frequency_command}
use Rattle.tk_ntp.specs.Leap.{leap_seconds, tai_after_leap}
use Rattle.tk_ntp.specs.Second.{leap_at}
use Rattle.tk_ntp.specs.Steering.{Steered, commands}
use Rattle.tk_ntp.specs.SteeredClock.{SteeredClock, after_or, given, given_any, given_change, rate_in_force}
use Rattle.tk_ntp.proofs.Seconds.{leapt-by, leapt-steering}

pub none_here : (counter : Counter) (at : ℕ) → gap counter at at ≡ 0
none_here counter at = gap-self (2 ^ counter.bits) at (pow_pos counter.bits)

-- commands at a reading keep MONOTONIC there; they change nothing, or are at that reading
pub record IsMade (at : ℕ) (before after : State) : Type 0 where
  pub units : units_at at after ≡ units_at at before
  pub same : (after ≡ before) ⊎ (after.base.last ≡ at)
  pub asleep : after.base.asleep ≡ before.base.asleep

pub unmade : (at : ℕ) (clock : State) → IsMade at clock clock
unmade at clock = record { units = refl; same = inl refl; asleep = refl }

pub joined : (at : ℕ) (a b c : State) → IsMade at a b → IsMade at b c → IsMade at a c
joined at a b c h k = record {
  units = k.units ∙ h.units;
  same = elim k.same as (λ _. (c ≡ a) ⊎ (c.base.last ≡ at)) [
    | inl e ↦ elim h.same as (λ _. (c ≡ a) ⊎ (c.base.last ≡ at)) [
      | inl f ↦ inl (e ∙ f)
      | inr f ↦ inr (ap (λ (s : State). s.base.last) e ∙ f)
    ]
    | inr e ↦ inr e
  ];
  asleep = k.asleep ∙ h.asleep;
}

pub kept_units : (counter : Counter) (at units mult : ℕ) → units + gap counter at at * mult ≡ units
kept_units counter at units mult = rw (none_here counter at) (omega arith)

-- an accepted or a refused command
after_or-made : (at : ℕ) (refusal : Option Refusal) (after before : State) →
    IsMade at before after → IsMade at before (after_or refusal after before)
after_or-made at None after before h = h
after_or-made at (Some refusal) after before h = unmade at before

-- a command at a reading, up to which the clocks count at the multiplier before it
effect-made : (at : ℕ) (cmd : Command) (clock : State) →
    let after = effect clock at cmd in
    after.base.counter ≡ clock.base.counter → after.base.last ≡ at →
    after.base.amount ≡ units_at at clock → after.base.asleep ≡ clock.base.asleep →
    IsMade at clock after
effect-made at cmd clock counter last amount asleep = record {
  units = rw (counter, last, amount)
      (kept_units clock.base.counter at (units_at at clock) (effect clock at cmd).base.mult);
  same = inr last;
  asleep = asleep;
}

given-made : (at : ℕ) (cmd : Command) (clock : State) → IsMade at clock (effect clock at cmd) →
    IsMade at clock (given at cmd clock)
given-made at cmd clock h =
    after_or-made at (state_refusal clock at cmd) (effect clock at cmd) clock h

tick-made : (at : ℕ) (clock : State) (tick : Option ℤ) →
    IsMade at clock (given_any at (option_map Tick tick) clock)
tick-made at clock None = unmade at clock
tick-made at clock (Some tick) =
    given-made at (Tick tick) clock (effect-made at (Tick tick) clock refl refl refl refl)

frequency-made : (at : ℕ) (clock : State) (frequency : Option ℤ) →
    IsMade at clock (given_any at (option_map Freq frequency) clock)
frequency-made at clock None = unmade at clock
frequency-made at clock (Some frequency) =
    given-made at (Freq frequency) clock (effect-made at (Freq frequency) clock refl refl refl refl)

pub change-made : (at : ℕ) (change : Change) (clock : State) →
    IsMade at clock (given_change at change clock)
change-made at change clock =
    let ticked = given_any at (tick_command change) clock in
    joined at clock ticked (given_any at (frequency_command change) ticked)
    (tick-made at clock change.tick) (frequency-made at ticked change.frequency)

if-made : (at : ℕ) (test : Bool) (before after : State) → IsMade at before after →
    IsMade at before (if test then before else after)
if-made at true before after h = unmade at before
if-made at false before after h = h

pub tai-made : (at tai : ℕ) (clock : State) → IsMade at clock (given_tai at tai clock)
tai-made at tai clock =
    if-made at (nat_eq tai (tai_of_clock clock)) clock (given at (Tai (pos tai)) clock)
    (given-made at (Tai (pos tai)) clock (effect-made at (Tai (pos tai)) clock refl refl refl refl))

-- a leap keeps MONOTONIC; without one, nothing changes
record IsLeapt (at : ℕ) (before after : SteeredClock) : Type 0 where
  units : units_at at after.clock ≡ units_at at before.clock
  same : (after ≡ before) ⊎ (after.clock.base.last ≡ at)
  asleep : after.clock.base.asleep ≡ before.clock.base.asleep

-- an accepted leap
leap-by : (at : ℕ) (cmd : Command) (before after : SteeredClock) →
    after.clock ≡ effect before.clock at cmd → (effect before.clock at cmd).base.last ≡ at →
    IsMade at before.clock (effect before.clock at cmd) → IsLeapt at before after
leap-by at cmd before after is last made = record {
  units = ap (units_at at) is ∙ made.units;
  same = inr (ap (λ (s : State). s.base.last) is ∙ last);
  asleep = ap (λ (s : State). s.base.asleep) is ∙ made.asleep;
}

leap-made : (at : ℕ) (alone : Bool) (seconds tai : ℤ) (before after : SteeredClock) →
    after.clock ≡ effect before.clock at
    (if alone then Step (record { sec = seconds; nsec = 0 }) else LeapSecond seconds tai) →
    IsLeapt at before after
leap-made at true seconds tai before after is =
    let cmd : Command = Step (record { sec = seconds; nsec = 0 }) in
    leap-by at cmd before after is refl (effect-made at cmd before.clock refl refl refl refl)
leap-made at false seconds tai before after is =
    let cmd : Command = LeapSecond seconds tai in
    leap-by at cmd before after is refl (effect-made at cmd before.clock refl refl refl refl)

pub at_reading : (at : ℕ) (stepped after : State) → stepped.base.last ≡ at → IsMade at stepped after →
    after.base.last ≡ at
at_reading at stepped after is h = elim h.same as (λ _. after.base.last ≡ at) [
  | inl e ↦ ap (λ (s : State). s.base.last) e ∙ is
  | inr e ↦ e
]

leapt_unless-made : (refusal : Option Refusal) (at : ℕ) (leap : Leap) (steered : SteeredClock) →
    IsLeapt at steered (leapt_unless refusal at leap steered)
leapt_unless-made (Some refusal) at leap steered = record { units = refl; same = inl refl; asleep = refl }
leapt_unless-made None at leap steered =
    let tai = tai_of_clock steered.clock in
    let after = tai_after_leap leap tai in
    leap-made at (nat_eq after tai) (leap_seconds leap) (pos after) steered
    (leapt_unless None at leap steered) refl

leapt-made : (at : ℕ) (leap : Leap) (steered : SteeredClock) →
    IsLeapt at steered (leapt at leap steered)
leapt-made at leap steered =
    leapt-by (IsLeapt at steered) at leap steered
    (record { units = refl; same = inl refl; asleep = refl })
    (λ refusal. leapt_unless-made refusal at leap steered)

-- a leap wakes no clocks
pub leapt-asleep : (at : ℕ) (leap : Leap) (steered : SteeredClock) →
    (leapt at leap steered).clock.base.asleep ≡ steered.clock.base.asleep
leapt-asleep at leap steered = (leapt-made at leap steered).asleep

-- and keeps MONOTONIC at its reading
pub leapt-units : (at : ℕ) (leap : Leap) (steered : SteeredClock) →
    units_at at (leapt at leap steered).clock ≡ units_at at steered.clock
leapt-units at leap steered = (leapt-made at leap steered).units

leapt_unless-last_account : (refusal : Option Refusal) (at : ℕ) (leap : Leap) (steered : SteeredClock) →
    (leapt_unless refusal at leap steered).last_account ≡ steered.last_account
leapt_unless-last_account (Some refusal) at leap steered = refl
leapt_unless-last_account None at leap steered = refl

pub leapt-last_account : (at : ℕ) (leap : Leap) (steered : SteeredClock) →
    (leapt at leap steered).last_account ≡ steered.last_account
leapt-last_account at leap steered =
    leapt-by (λ (s : SteeredClock). s.last_account ≡ steered.last_account) at leap steered refl
    (λ refusal. leapt_unless-last_account refusal at leap steered)

-- a second that begins keeps MONOTONIC; it needs no command, or its commands are at its reading
pub record IsSecond (at : ℕ) (before after : SteeredClock) : Type 0 where
  pub units : units_at at after.clock ≡ units_at at before.clock
  pub last_account : after.last_account ≡ at
  pub lag : after.steering.lag ≡ (with_next_second at before).steering.lag
  pub same :
      ((after.clock ≡ before.clock) × (after.next ≡ before.next + 1))
      ⊎ (after.clock.base.last ≡ at)
  pub asleep : after.clock.base.asleep ≡ before.clock.base.asleep

pub second-made : (at : ℕ) (steered : SteeredClock) →
    IsSecond at steered (second_begun_at at steered)
second-made at steered =
    let begun = with_next_second at steered in
    let leap = leap_at steered.steering.ntp steered.next in
    let after = leapt at leap begun in
    let end = second_begun_at at steered in
    let change = commands after.clock.base.counter (rate_in_force after.clock) after.steering in
    let l = leapt-made at leap begun in
    let m = change-made at change after.clock in
    let goal : Type 0 = ((end.clock ≡ steered.clock) × (end.next ≡ steered.next + 1))
    ⊎ (end.clock.base.last ≡ at) in
    record {
      units = m.units ∙ l.units;
      last_account = leapt-last_account at leap begun;
      lag = ap (λ (s : Steered). s.lag) (leapt-steering at leap begun);
      same = elim m.same as (λ _. goal) [
        | inl e ↦ elim l.same as (λ _. goal) [
          | inl f ↦ inl (
            e ∙ ap (λ (s : SteeredClock). s.clock) f,
            ap (λ (s : SteeredClock). s.next) f,
          )
          | inr f ↦ inr (ap (λ (s : State). s.base.last) e ∙ f)
        ]
        | inr e ↦ inr e
      ];
      asleep = m.asleep ∙ l.asleep;
    }
