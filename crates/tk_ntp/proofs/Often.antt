-- Advancing to a reading and then to a later one leaves the state that the later one leaves at once.
use Rattle.std.proofs.Common.{◌≡◌, ◌∙◌, refl, sym, subst, ℕ, ◌≤◌, ◌⊎◌, inl, inr, Option, Some, None, arith}
use Rattle.tk_counter.specs.Counter.{Counter, gap}
use Rattle.tk_clock.specs.declared.command.Command.{Command}
use Rattle.tk_clock.specs.declared.command.Command.TheVariants.{Update, SetTime, Step, Freq, Tick, Tai, Leap as LeapSecond, Suspend, Resume}
use Rattle.tk_clock.specs.declared.refusal.Refusal.{Refusal}
use Rattle.tk_clock.specs.Reach.{distance}
use Rattle.tk_clock.specs.Refusal.{state_refusal}
use Rattle.tk_clock.specs.State.{State, effect}
use Rattle.tk_ntp.specs.declared.change.Change.{Change}
use Rattle.tk_ntp.specs.declared.leap.Leap.{Leap}
use Rattle.tk_ntp.specs.Advance.{IsAdvanced, IsAdvancedBy, Arrived, Begins, IsNoneDue, leap_of_clock, leapt, leapt_unless, second_begun_at, with_next_second}
use Rattle.tk_ntp.specs.Change.{tick_command, frequency_command}
use Rattle.tk_ntp.specs.Second.{leap_at}
use Rattle.tk_ntp.specs.Steering.{commands}
use Rattle.tk_ntp.specs.SteeredClock.{SteeredClock, after_or, given, given_any, given_change, rate_in_force}
use Rattle.tk_ntp.proofs.Gaps.{order_kept}
use Rattle.tk_ntp.proofs.Seconds.{leapt-by}

-- commands at a reading keep the counter, and leave its reading as it was or at that reading
pub record IsNear (at : ℕ) (before after : State) : Type 0 where
  pub counter : after.base.counter ≡ before.base.counter
  pub last : (after.base.last ≡ before.base.last) ⊎ (after.base.last ≡ at)

still : (at : ℕ) (clock : State) → IsNear at clock clock
still at clock = record { counter = refl; last = inl refl }

pub joined : (at : ℕ) (a b c : State) → IsNear at a b → IsNear at b c → IsNear at a c
joined at a b c h k = record {
  counter = k.counter ∙ h.counter;
  last = elim k.last as (λ _. (c.base.last ≡ a.base.last) ⊎ (c.base.last ≡ at)) [
    | inl e ↦ elim h.last as (λ _. (c.base.last ≡ a.base.last) ⊎ (c.base.last ≡ at)) [
      | inl f ↦ inl (e ∙ f)
      | inr f ↦ inr (e ∙ f)
    ]
    | inr e ↦ inr e
  ];
}

effect-near : (at : ℕ) (cmd : Command) (clock : State) → IsNear at clock (effect clock at cmd)
effect-near at Update clock = record { counter = refl; last = inr refl }
effect-near at (SetTime time) clock = record { counter = refl; last = inr refl }
effect-near at (Step by) clock = record { counter = refl; last = inr refl }
effect-near at (Freq frequency) clock = record { counter = refl; last = inr refl }
effect-near at (Tick tick) clock = record { counter = refl; last = inr refl }
effect-near at (Tai seconds) clock = record { counter = refl; last = inr refl }
effect-near at (LeapSecond by tai) clock = record { counter = refl; last = inr refl }
effect-near at Suspend clock = record { counter = refl; last = inr refl }
effect-near at (Resume away) clock = record { counter = refl; last = inr refl }

after_or-near : (at : ℕ) (refusal : Option Refusal) (after before : State) →
    IsNear at before after → IsNear at before (after_or refusal after before)
after_or-near at None after before h = h
after_or-near at (Some refusal) after before h = still at before

given-near : (at : ℕ) (cmd : Command) (clock : State) → IsNear at clock (given at cmd clock)
given-near at cmd clock =
    after_or-near at (state_refusal clock at cmd) (effect clock at cmd) clock
    (effect-near at cmd clock)

given_any-near : (at : ℕ) (cmd : Option Command) (clock : State) →
    IsNear at clock (given_any at cmd clock)
given_any-near at None clock = still at clock
given_any-near at (Some cmd) clock = given-near at cmd clock

pub given_change-near : (at : ℕ) (change : Change) (clock : State) →
    IsNear at clock (given_change at change clock)
given_change-near at change clock =
    let ticked = given_any at (tick_command change) clock in
    joined at clock ticked (given_any at (frequency_command change) ticked)
    (given_any-near at (tick_command change) clock)
    (given_any-near at (frequency_command change) ticked)

leapt_unless-near : (refusal : Option Refusal) (at : ℕ) (leap : Leap) (steered : SteeredClock) →
    IsNear at steered.clock (leapt_unless refusal at leap steered).clock
leapt_unless-near (Some refusal) at leap steered = still at steered.clock
leapt_unless-near None at leap steered =
    effect-near at (leap_of_clock leap steered.clock) steered.clock

pub leapt-near : (at : ℕ) (leap : Leap) (steered : SteeredClock) →
    IsNear at steered.clock (leapt at leap steered).clock
leapt-near at leap steered =
    leapt-by (λ (s : SteeredClock). IsNear at steered.clock s.clock) at leap steered
    (still at steered.clock) (λ refusal. leapt_unless-near refusal at leap steered)

pub second-near : (at : ℕ) (steered : SteeredClock) →
    IsNear at steered.clock (second_begun_at at steered).clock
second-near at steered =
    let begun = with_next_second at steered in
    let leap = leap_at steered.steering.ntp steered.next in
    let after = leapt at leap begun in
    let change = commands after.clock.base.counter (rate_in_force after.clock) after.steering in
    joined at steered.clock after.clock (given_change at change after.clock)
    (leapt-near at leap begun) (given_change-near at change after.clock)

-- two readings from the second's on stay in order
pub order-near : (at : ℕ) (before after : State) (earlier later : ℕ) → IsNear at before after →
    distance before.base at ≤ distance before.base earlier →
    distance before.base earlier ≤ distance before.base later →
    distance after.base earlier ≤ distance after.base later
order-near at before after earlier later near h k =
    let goal : Counter → ℕ → Type 0 =
    λ counter last. gap counter last earlier ≤ gap counter last later in
    subst (λ counter. goal counter after.base.last) (sym near.counter)
    (elim near.last as (λ _. goal before.base.counter after.base.last) [
      | inl e ↦ subst (goal before.base.counter) (sym e) k
      | inr e ↦ subst (goal before.base.counter) (sym e)
          (order_kept before.base.counter before.base.last at earlier later h k)
    ])

-- the seconds up to an earlier reading, and those after it, are the seconds up to the later one
pub at_once : (earlier reading : ℕ) (before middle after : SteeredClock) →
    IsAdvanced earlier before middle → IsAdvanced reading middle after →
    distance before.clock.base earlier ≤ distance before.clock.base reading →
    IsAdvanced reading before after
at_once earlier reading before middle after (Arrived steered none) later order = later
at_once earlier reading before middle after (Begins steered end at due rest) later order =
    Begins steered after at (record { first = due.first; until = omega (arith, due.until, order) })
    (at_once earlier reading (second_begun_at at steered) end after rest later
    (order-near at steered.clock (second_begun_at at steered).clock earlier reading
    (second-near at steered) due.until order))

-- no second up to the reading is left
pub none_left : (begun : ℕ → SteeredClock → SteeredClock) (reading : ℕ)
    (before after : SteeredClock) → IsAdvancedBy begun reading before after →
    IsNoneDue after reading
none_left begun reading before after (Arrived steered none) = none
none_left begun reading before after (Begins steered end at due rest) =
    none_left begun reading (begun at steered) end rest
