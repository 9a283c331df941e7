-- The lag stays small as seconds begin.
use Rattle.std.proofs.Common.{◌≡◌, ◌∙◌, sym, ap, subst, ℕ, ◌+◌, ◌*◌, ◌≤◌, false, arith}
use Rattle.std.specs.Prelude.{ℤ, pos, ◌+ℤ◌, ◌-ℤ◌, ◌*ℤ◌, ◌≤ℤ◌, unsigned_abs}
use Rattle.std.proofs.lemmas.Int.{ints}
use Rattle.std.proofs.Math.IntN.{zero-*ℤ, pos-*ℤ-pos}
use Rattle.tk_counter.specs.Counter.{Counter, IsCounter, second}
use Rattle.tk_ntp.specs.Account.{cycles_to, lag_to, IsLeft, IsWithin}
use Rattle.tk_ntp.specs.Advance.{IsAdvanced, Arrived, Begins, second_begun_at, with_next_second}
use Rattle.tk_ntp.specs.Lag.{greatest_lag, made_up, short_of}
use Rattle.tk_ntp.specs.Ntp.{second_length}
use Rattle.tk_ntp.specs.Rate.{nominal, IsInRange, IsGiven}
use Rattle.tk_ntp.specs.Request.{frequency_unit}
use Rattle.tk_ntp.specs.Steady.{AreSmall, HasRate, IsSecondLong, IsSince, IsSmall, StaysSmall}
use Rattle.tk_ntp.specs.SteeredClock.{SteeredClock}
use Rattle.tk_ntp.proofs.Account.{kept_whole}
use Rattle.tk_ntp.proofs.Contracted.{contracted}
use Rattle.tk_ntp.proofs.Made.{second-made}
use Rattle.tk_ntp.proofs.MadeUp.{divided, made_up-small, second_some, within, IsQuotient}
use Rattle.tk_ntp.proofs.Often.{second-near}
use Rattle.tk_ntp.proofs.Scaled.{scaled_added, scaled_sum}
use borrow.Author.Differences.{abs_is}

-- what a cycle adds to the lag at a multiplier that gives a second its length and d: z minus the
-- part that makes up for d
record IsAdded (k w : ℕ) (short d z : ℤ) : Type 0 where
  since : pos 0 ≤ℤ z
  most : z ≤ℤ pos w
  is : short ≡ z -ℤ pos k *ℤ d

whole : (length : ℤ) → IsInRange length → length ≡ pos (unsigned_abs length)
whole length range = let low = range.0 in omega (arith, ints, abs_is, low)

apart : (x y part m : ℤ) → x +ℤ part ≡ y → x -ℤ m ≡ (y -ℤ m) -ℤ part
apart x y part m h = omega (arith, ints, h)

added : (counter : Counter) (length d : ℤ) (m : ℕ) → IsInRange (length +ℤ d) →
    IsGiven counter (length +ℤ d) m →
    IsAdded counter.mult (nominal + counter.mult * frequency_unit) (short_of counter length m) d
    (pos (counter.mult * unsigned_abs (length +ℤ d)) -ℤ pos m *ℤ pos nominal)
added counter length d m range given =
    let k = counter.mult in
    let n = unsigned_abs (length +ℤ d) in
    let product : pos m *ℤ pos nominal ≡ pos (m * nominal) = pos-*ℤ-pos m nominal in
    let sum : pos k *ℤ length +ℤ pos k *ℤ d ≡ pos (k * n) =
    sym (scaled_added k length d)
    ∙ ap (λ z. pos k *ℤ z) (whole (length +ℤ d) range)
    ∙ pos-*ℤ-pos k n in
    let low = given.at_most in
    let high = given.at_least in
    record {
      since = rw product (omega (arith, ints, low));
      most = rw product (omega (arith, ints, high));
      is = apart (pos k *ℤ length) (pos (k * n)) (pos k *ℤ d) (pos m *ℤ pos nominal) sum;
    }

long : (k : ℕ) → 20 * k ≤ nominal + k * frequency_unit
long k = omega arith

-- cycles at a rate that was chosen for a small lag leave a small lag
pub stays : (counter : Counter) (length chosen : ℤ) (m cycles : ℕ) → 256 ≤ counter.mult →
    IsSmall counter chosen → IsInRange (length +ℤ made_up counter chosen) →
    IsGiven counter (length +ℤ made_up counter chosen) m → IsSecondLong counter cycles →
    IsSmall counter (chosen +ℤ pos cycles *ℤ short_of counter length m)
stays counter length chosen m cycles few small range given short =
    let k = counter.mult in
    let s = second counter in
    let w = nominal + k * frequency_unit in
    let d = made_up counter chosen in
    let q : IsQuotient s chosen d =
    subst (IsQuotient s chosen) (sym (made_up-small counter chosen few small))
    (divided chosen s (second_some counter)) in
    let z = pos (k * unsigned_abs (length +ℤ d)) -ℤ pos m *ℤ pos nominal in
    let a = added counter length d m range given in
    let left =
    contracted k s cycles w chosen d z short (long k) a.since a.most q.low q.high
    (record { low = small.low; high = small.high }) in
    subst (λ n. IsSmall counter (chosen +ℤ pos cycles *ℤ n)) (sym a.is)
    (record { low = left.low; high = left.high })

regrouped : (chosen x y z : ℤ) → z ≡ x +ℤ y → chosen +ℤ x +ℤ y ≡ chosen +ℤ z
regrouped chosen x y z h = omega (arith, ints, h)

not_dropped : (z lag : ℤ) → z -ℤ lag ≡ pos 0 → lag ≡ z
not_dropped z lag h = omega (arith, ints, h)

-- the lag at a later account: nothing of it is dropped
pub left-since : (s : SteeredClock) (at : ℕ) (lag chosen : ℤ) (cycles : ℕ) →
    IsSince chosen cycles s → IsSecondLong s.clock.base.counter (cycles + cycles_to at s) →
    IsLeft false at lag s →
    let base = s.clock.base in
    (lag
    ≡ chosen
    +ℤ pos (cycles + cycles_to at s)
    *ℤ short_of base.counter (second_length s.steering.ntp) base.mult)
    × IsSmall base.counter lag
left-since s at lag chosen cycles since long left =
    let base = s.clock.base in
    let counter = base.counter in
    let length = second_length s.steering.ntp in
    let short = short_of counter length base.mult in
    let more = cycles_to at s in
    let after = chosen +ℤ pos (cycles + more) *ℤ short in
    let few : 256 ≤ counter.mult = since.counter.mult_low in
    let small =
    stays counter length chosen base.mult (cycles + more) few since.small since.rate.range
    since.rate.given long in
    let to : lag_to at s ≡ after =
    ap (λ z. z +ℤ pos more *ℤ short) since.lag
    ∙ regrouped chosen (pos cycles *ℤ short) (pos more *ℤ short) (pos (cycles + more) *ℤ short)
    (scaled_sum cycles more short) in
    let inside : IsWithin at s =
    subst (λ z. unsigned_abs z ≤ greatest_lag counter) (sym to)
    (within counter after few small) in
    let is : lag ≡ after = not_dropped (lag_to at s) lag (left inside) ∙ to in
    (is, subst (IsSmall counter) (sym is) small)

no_cycles : (lag short : ℤ) → lag ≡ lag +ℤ pos 0 *ℤ short
no_cycles lag short = rw (zero-*ℤ short) (omega (arith, ints))

-- the lag as a second begins
second-small : (at : ℕ) (s : SteeredClock) (chosen : ℤ) (cycles : ℕ) → IsSince chosen cycles s →
    IsSecondLong s.clock.base.counter (cycles + cycles_to at s) →
    IsSmall s.clock.base.counter (second_begun_at at s).steering.lag
second-small at s chosen cycles since long =
    subst (IsSmall s.clock.base.counter) (sym (second-made at s).lag)
    (left-since s at (with_next_second at s).steering.lag chosen cycles since long
    (λ inside. kept_whole (greatest_lag s.clock.base.counter) (lag_to at s) inside)).1

-- after a second that begins, the rate in force is the one for the lag as it begins
next-since : (at : ℕ) (s : SteeredClock) (chosen : ℤ) (cycles : ℕ) → IsSince chosen cycles s →
    IsSecondLong s.clock.base.counter (cycles + cycles_to at s) →
    HasRate (second_begun_at at s).steering.lag (second_begun_at at s) →
    IsSince (second_begun_at at s).steering.lag 0 (second_begun_at at s)
next-since at s chosen cycles since long rate =
    let next = second_begun_at at s in
    let counter = sym (second-near at s).counter in
    record {
      counter = subst IsCounter counter since.counter;
      rate = rate;
      small =
          subst (λ (c : Counter). IsSmall c next.steering.lag) counter
          (second-small at s chosen cycles since long);
      lag =
          no_cycles next.steering.lag
          (short_of next.clock.base.counter (second_length next.steering.ntp) next.clock.base.mult);
    }

small-of : (reading : ℕ) (before after : SteeredClock) (h : IsAdvanced reading before after)
    (chosen : ℤ) (cycles : ℕ) → IsSince chosen cycles before →
    AreSmall reading chosen cycles before after h
small-of reading before after (Arrived steered none) chosen cycles since = since
small-of reading before after (Begins steered end at due rest) chosen cycles since = λ long.
    let next = second_begun_at at steered in (
      second-small at steered chosen cycles since long,
      λ rate. small-of reading next end rest next.steering.lag 0
          (next-since at steered chosen cycles since long rate),
    )

pub stays_small : (reading : ℕ) (before after : SteeredClock) →
    IsAdvanced reading before after → StaysSmall reading before after
stays_small reading before after h = record {
  begun = h;
  small = small-of reading before after h;
}
