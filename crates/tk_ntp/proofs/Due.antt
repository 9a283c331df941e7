-- No second is due up to a reading at which REALTIME is before the next one.
use Rattle.std.proofs.Common.{◌≡◌, ◌∙◌, ap, refl, sym, subst, ℕ, ◌*◌, ◌^◌, ◌<◌, Option, Some, None, arith}
use Rattle.std.specs.Prelude.{ℤ, pos, ◌+ℤ◌, ◌*ℤ◌, ◌<ℤ◌, ◌≤ℤ◌, Ok, Err, Result, MatchOption, ⊤, unsigned_abs}
use Rattle.std.proofs.lemmas.Int.{ints}
use Rattle.tk_clock.specs.declared.clock_id.ClockId.TheVariants.{Realtime}
use Rattle.tk_clock.specs.declared.command.Command.TheVariants.{Update}
use Rattle.tk_clock.specs.declared.refusal.ReadError.{ReadError}
use Rattle.tk_clock.specs.declared.refusal.Refusal.{Refusal}
use Rattle.tk_clock.specs.Refusal.{first_of, order_refusal, state_refusal}
use Rattle.tk_clock.specs.Reach.{distance}
use Rattle.tk_clock.specs.Read.{read_of, unless_refused}
use Rattle.tk_clock.specs.State.{base_value}
use Rattle.tk_clock.specs.Time.{nanoseconds}
use Rattle.tk_clock.proofs.Lines.{value_ahead, value_rises}
use Rattle.tk_ntp.specs.Advance.{Arrived, IsAdvanced, IsNoneDue, second_time}
use Rattle.tk_ntp.specs.Applied.{IsFollowed}
use Rattle.tk_ntp.specs.Asked.{IsCommanded}
use Rattle.tk_ntp.specs.Staged.{IsEarly, IsSettled}
use Rattle.tk_ntp.specs.SteeredClock.{SteeredClock}

apart : (a b c : ℤ) → c ≤ℤ a → a ≤ℤ b → b <ℤ c → ⊥
apart a b c reached rise early = absurd (omega (arith, ints, reached, rise, early))

value_read : (refusal : Option ReadError) (value : ℤ) (nanos : ℕ) →
    unless_refused refusal value ≡ Ok nanos → unsigned_abs value ≡ nanos
value_read None value nanos is = cc
value_read (Some refusal) value nanos is = absurd (cc)

below_second : (value : ℤ) (nanos next : ℕ) → unsigned_abs value ≡ nanos →
    nanos < next * 10 ^ 9 → value <ℤ (pos next *ℤ pos (10 ^ 9) +ℤ pos 0)
below_second value nanos next is low = omega (arith, ints, is, low)

module _ (steered : SteeredClock) (reading : ℕ) (early : IsEarly steered reading) where
  value : unsigned_abs (base_value steered.clock.base Realtime reading) ≡ early.read.0
  unfolding read_of
  value = value_read _ (base_value steered.clock.base Realtime reading) early.read.0 early.read.1

  pub none_due : IsNoneDue steered reading
  none_due at ahead order reached =
      let base = steered.clock.base in
      let low =
      below_second (base_value base Realtime reading) early.read.0 steered.next value early.read.2 in
      let second = nanoseconds (second_time steered.next) in
      apart _ _ second
      (subst (λ v. second ≤ℤ v) (value_ahead base Realtime at ahead.1) reached.1)
      (value_rises base Realtime (distance base at) (distance base reading) order)
      (subst (λ v. v <ℤ second) (value_ahead base Realtime reading early.ahead) low)

followed-by : (state order : Option Refusal) (reading : ℕ) (before after : SteeredClock)
    (result : Result ⊤ Refusal) → IsNoneDue before reading → order ≡ None →
    state_refusal before.clock reading Update ≡ state →
    IsCommanded reading Update before result after →
    MatchOption (first_of state order)
    ((advanced : SteeredClock) × IsAdvanced reading before advanced
    × IsCommanded reading Update advanced result after)
    (λ refusal. (result ≡ Err refusal) × (after ≡ before))
followed-by None None reading before after result none is is' h =
    (before, Arrived before none, h)
followed-by None (Some refusal) reading before after result none is is' h = absurd (cc is)
followed-by (Some refusal) order reading before after (Ok done) none is is' h =
    absurd (cc (sym is' ∙ h.0))
followed-by (Some refusal) order reading before after (Err given) none is is' h =
    (ap (λ r. Err r) (same given refusal (sym h.0 ∙ is')), h.1)
  where
    same : (a b : Refusal) → Some a ≡ Some b → a ≡ b
    same a b e = cc e

-- an update of settled clocks, before which no second begins
pub followed : (reading : ℕ) (before after : SteeredClock) (result : Result ⊤ Refusal) →
    IsSettled before reading → IsCommanded reading Update before result after →
    IsFollowed reading Update before result after
followed reading before after result settled h =
    followed-by (state_refusal before.clock reading Update)
    (order_refusal before.clock.base.counter before.last_account reading Update) reading before after
    result settled.none settled.order refl h
