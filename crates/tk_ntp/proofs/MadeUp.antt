-- What a second makes up for, while the lag is small.
use Rattle.std.proofs.Common.{◌≡◌, ◌∙◌, sym, ap, subst, ℕ, ◌+◌, ◌*◌, ◌/◌, ◌<◌, ◌≤◌, inl, inr, arith}
use Rattle.std.specs.Prelude.{ℤ, pos, negsuc, neg_ℤ, ◌+ℤ◌, ◌-ℤ◌, ◌*ℤ◌, ◌≤ℤ◌, unsigned_abs}
use Rattle.std.specs.Int.{int_div_euclid}
use Rattle.std.proofs.lemmas.Int.{ints, clamps}
use Rattle.std.proofs.lemmas.Nat.{pow_pos}
use Rattle.std.proofs.Math.IntN.{pos-*ℤ-pos}
use Rattle.std.proofs.Math.Nat.{div-mul-le_self, lt-div-mul-add, mul-le-mul_left}
use Rattle.tk_counter.specs.Counter.{Counter, second}
use Rattle.tk_ntp.specs.Lag.{greatest_lag, made_up, most_made_up}
use Rattle.tk_ntp.specs.Length.{max_frequency}
use Rattle.tk_ntp.specs.Loops.{clamped_by}
use Rattle.tk_ntp.specs.Rate.{nominal}
use Rattle.tk_ntp.specs.Request.{frequency_unit}
use Rattle.tk_ntp.specs.Steady.{IsSmall}
use Rattle.tk_ntp.proofs.Contracted.{by_order, negated, swapped}
use Rattle.tk_ntp.proofs.Scaled.{scaled_added, scaled_order}
use borrow.Author.Differences.{abs_is}

-- a lag divided by a second
pub record IsQuotient (s : ℕ) (lag d : ℤ) : Type 0 where
  pub low : (pos s *ℤ d) ≤ℤ lag
  pub high : lag ≤ℤ (pos s *ℤ d +ℤ pos s)

pub divided : (lag : ℤ) (s : ℕ) → 0 < s → IsQuotient s lag (int_div_euclid lag (pos s))
divided (pos a) s some =
    let low = div-mul-le_self a s in
    let high = lt-div-mul-add {a = a} some in
    record {
      low = omega (arith, ints, low);
      high = omega (arith, ints, high);
    }
divided (negsuc a) s some =
    let low = div-mul-le_self a s in
    let high = lt-div-mul-add {a = a} some in
    record {
      low = omega (arith, ints, high);
      high = omega (arith, ints, low);
    }

more_than : (s a b : ℕ) → 0 < s → a < b → s * a < s * b
more_than s a b some h =
    let next : s * (a + 1) ≤ s * b = mul-le-mul_left s (omega (arith, h)) in
    omega (arith, next, some)

too_high : (s w m : ℕ) → 0 < s → 6 * w < 5 * m → s * m ≤ 6 * (s * w) / 5 → ⊥
too_high s w m some h k =
    absurd (omega (arith, more_than s (6 * w) (5 * m) some h, k))

too_low : (s w k m : ℕ) → 0 < s → 3 * w + 20 * k < 20 * m → s * m ≤ k * s + 3 * (s * w) / 20 → ⊥
too_low s w k m some h less =
    absurd (omega (arith, more_than s (3 * w + 20 * k) (20 * m) some h, less))

at_least : (s k m w : ℕ) (lag d : ℤ) → 0 < s → 6 * w < 5 * (k * m) →
    (pos s *ℤ d) ≤ℤ lag → (pos k *ℤ lag) ≤ℤ pos (6 * (s * w) / 5) → pos m ≤ℤ d → ⊥
at_least s k m w lag d some far low high h =
    let more : pos (k * m) ≤ℤ (pos k *ℤ d) =
    subst (λ n. n ≤ℤ (pos k *ℤ d)) (pos-*ℤ-pos k m) (scaled_order k (pos m) d h) in
    let whole : pos (s * (k * m)) ≤ℤ (pos s *ℤ (pos k *ℤ d)) =
    subst (λ n. n ≤ℤ (pos s *ℤ (pos k *ℤ d))) (pos-*ℤ-pos s (k * m))
    (scaled_order s (pos (k * m)) (pos k *ℤ d) more) in
    let below : (pos s *ℤ (pos k *ℤ d)) ≤ℤ (pos k *ℤ lag) =
    subst (λ n. n ≤ℤ (pos k *ℤ lag)) (swapped k s d) (scaled_order k (pos s *ℤ d) lag low) in
    too_high s w (k * m) some far (omega (arith, ints, whole, below, high))

at_most : (s k m w : ℕ) (lag d : ℤ) → 0 < s → 3 * w + 20 * k < 20 * (k * m) →
    lag ≤ℤ (pos s *ℤ d +ℤ pos s) → neg_ℤ (pos (3 * (s * w) / 20)) ≤ℤ (pos k *ℤ lag) →
    d ≤ℤ (pos 0 -ℤ pos m) → ⊥
at_most s k m w lag d some far high low h =
    let less : (pos k *ℤ d) ≤ℤ (pos 0 -ℤ pos (k * m)) =
    subst (λ n. (pos k *ℤ d) ≤ℤ n) (negated k (pos m) ∙ ap (λ n. pos 0 -ℤ n) (pos-*ℤ-pos k m))
    (scaled_order k d (pos 0 -ℤ pos m) h) in
    let whole : (pos s *ℤ (pos k *ℤ d)) ≤ℤ (pos 0 -ℤ pos (s * (k * m))) =
    subst (λ n. (pos s *ℤ (pos k *ℤ d)) ≤ℤ n)
    (negated s (pos (k * m)) ∙ ap (λ n. pos 0 -ℤ n) (pos-*ℤ-pos s (k * m)))
    (scaled_order s (pos k *ℤ d) (pos 0 -ℤ pos (k * m)) less) in
    let above : (pos k *ℤ lag) ≤ℤ (pos s *ℤ (pos k *ℤ d) +ℤ pos (k * s)) =
    subst (λ n. (pos k *ℤ lag) ≤ℤ n)
    (scaled_added k (pos s *ℤ d) (pos s)
    ∙ ap (λ n. n +ℤ pos k *ℤ pos s) (swapped k s d)
    ∙ ap (λ n. pos s *ℤ (pos k *ℤ d) +ℤ n) (pos-*ℤ-pos k s))
    (scaled_order k lag (pos s *ℤ d +ℤ pos s) high) in
    too_low s w k (k * m) some far (omega (arith, ints, whole, above, low))

-- the bound of what a second makes up for is beyond a small lag
far : (k : ℕ) → 256 ≤ k →
    6 * (nominal + k * frequency_unit) + 20 * k
    < 5 * (k * (max_frequency + 2 * nominal / k))
far k few =
    let some : 0 < k = omega (arith, few) in
    let whole = lt-div-mul-add {a = 2 * nominal} some in
    omega (arith, whole, few)

pub clamped_same : (m : ℕ) (z : ℤ) → unsigned_abs z ≤ m → clamped_by m z ≡ z
clamped_same m z h = omega (arith, ints, clamps, abs_is, h)

between : (m : ℕ) (z : ℤ) → z ≤ℤ pos m → (pos 0 -ℤ pos m) ≤ℤ z → unsigned_abs z ≤ m
between m z h k = omega (arith, ints, abs_is, h, k)

pub second_some : (counter : Counter) → 0 < second counter
second_some counter = let some = pow_pos counter.shift in omega (arith, some)

-- a small lag is made up for in a second, rounded down
pub made_up-small : (counter : Counter) (lag : ℤ) → 256 ≤ counter.mult → IsSmall counter lag →
    made_up counter lag ≡ int_div_euclid lag (pos (second counter))
made_up-small counter lag few small =
    let k = counter.mult in
    let s = second counter in
    let w = nominal + k * frequency_unit in
    let m = most_made_up counter in
    let d = int_div_euclid lag (pos s) in
    let q = divided lag s (second_some counter) in
    let beyond = far k few in
    let high : d ≤ℤ pos m = elim (by_order d (pos m)) as (λ _. d ≤ℤ pos m) [
      | inl h ↦ h
      | inr h ↦ absurd
          (at_least s k m w lag d (second_some counter) (omega (arith, beyond)) q.low small.high h)
    ] in
    let low : (pos 0 -ℤ pos m) ≤ℤ d =
    elim (by_order (pos 0 -ℤ pos m) d) as (λ _. (pos 0 -ℤ pos m) ≤ℤ d) [
      | inl h ↦ h
      | inr h ↦ absurd
          (at_most s k m w lag d (second_some counter) (omega (arith, beyond)) q.high small.low h)
    ] in
    clamped_same m d (between m d high low)

beyond_half : (k : ℕ) → 256 ≤ k →
    6 * (nominal + k * frequency_unit) + 20 * k < 5 * (k * (nominal / 2))
beyond_half k few = omega (arith, few)

-- a small lag is within its bound
pub within : (counter : Counter) (lag : ℤ) → 256 ≤ counter.mult → IsSmall counter lag →
    unsigned_abs lag ≤ greatest_lag counter
within counter lag few small =
    let k = counter.mult in
    let s = second counter in
    let w = nominal + k * frequency_unit in
    let g = greatest_lag counter in
    let half = nominal / 2 in
    let some = second_some counter in
    let beyond = beyond_half k few in
    let same : pos s *ℤ pos half ≡ pos g = pos-*ℤ-pos s half in
    let high : lag ≤ℤ pos g = elim (by_order lag (pos g)) as (λ _. lag ≤ℤ pos g) [
      | inl h ↦ h
      | inr h ↦ absurd
          (at_least s k half w lag (pos half) some (omega (arith, beyond))
          (subst (λ n. n ≤ℤ lag) (sym same) h) small.high (omega (arith, ints)))
    ] in
    let low : (pos 0 -ℤ pos g) ≤ℤ lag =
    elim (by_order (pos 0 -ℤ pos g) lag) as (λ _. (pos 0 -ℤ pos g) ≤ℤ lag) [
      | inl h ↦ h
      | inr h ↦ absurd
          (at_most s k half w lag (pos 0 -ℤ pos half) some (omega (arith, beyond))
          (less (pos s *ℤ (pos 0 -ℤ pos half)) lag s g
          (negated s (pos half) ∙ ap (λ n. pos 0 -ℤ n) same) h) small.low (omega (arith, ints)))
    ] in
    between g lag high low
  where
    less : (z lag : ℤ) (s g : ℕ) → z ≡ pos 0 -ℤ pos g → lag ≤ℤ (pos 0 -ℤ pos g) →
        lag ≤ℤ (z +ℤ pos s)
    less z lag s g e h = omega (arith, ints, e, h)
