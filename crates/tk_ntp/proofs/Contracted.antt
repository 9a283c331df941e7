-- A lag shrinks as a second makes up for it.
use Rattle.std.proofs.Common.{◌≡◌, ◌∙◌, sym, ap, subst, ℕ, ◌*◌, ◌/◌, ◌≤◌, ◌⊎◌, inl, inr, arith}
use Rattle.std.specs.Prelude.{ℤ, pos, neg_ℤ, ◌+ℤ◌, ◌-ℤ◌, ◌*ℤ◌, ◌≤ℤ◌}
use Rattle.std.proofs.lemmas.Int.{ints}
use Rattle.std.proofs.Math.IntN.{*ℤ-zero, pos-*ℤ-pos}
use Rattle.std.proofs.Math.Nat.{mul-le-mul_right, mul_comm}
use Rattle.tk_ntp.proofs.Scaled.{scaled_added, scaled_difference, scaled_more, scaled_order, scaled_twice}

pub by_order : (a b : ℤ) → (a ≤ℤ b) ⊎ (b ≤ℤ a)
by_order a b = grind (arith, ints)

-- bounds of a lag y, in which p is what it makes up for in a nominal second, and v how far that is
-- from the most that the rate can lose
pub record IsBound (q : ℕ) (y : ℤ) : Type 0 where
  pub low : neg_ℤ (pos (3 * q / 20)) ≤ℤ y
  pub high : y ≤ℤ pos (6 * q / 5)

high_more : (y p more t : ℤ) (q r : ℕ) → 20 * r ≤ q → neg_ℤ (pos (3 * q / 20)) ≤ℤ y →
    y ≤ℤ (p +ℤ pos r) → more ≤ℤ t → (pos 8 *ℤ t) ≤ℤ (pos 9 *ℤ (pos q -ℤ p)) →
    (y +ℤ more) ≤ℤ pos (6 * q / 5)
high_more y p more t q r few low near h k = omega (arith, ints, few, low, near, h, k)

high_less : (y more t : ℤ) (q : ℕ) → y ≤ℤ pos (6 * q / 5) → more ≤ℤ t → t ≤ℤ pos 0 →
    (y +ℤ more) ≤ℤ pos (6 * q / 5)
high_less y more t q high h k = omega (arith, ints, high, h, k)

low_more : (y p more t : ℤ) (q : ℕ) → y ≤ℤ pos (6 * q / 5) → p ≤ℤ y → (pos 0 -ℤ t) ≤ℤ more →
    (pos 8 *ℤ t) ≤ℤ (pos 9 *ℤ p) → neg_ℤ (pos (3 * q / 20)) ≤ℤ (y +ℤ more)
low_more y p more t q high near h k = omega (arith, ints, high, near, h, k)

low_less : (y more t : ℤ) (q : ℕ) → neg_ℤ (pos (3 * q / 20)) ≤ℤ y → (pos 0 -ℤ t) ≤ℤ more →
    t ≤ℤ pos 0 → neg_ℤ (pos (3 * q / 20)) ≤ℤ (y +ℤ more)
low_less y more t q low h k = omega (arith, ints, low, h, k)

eight : (x s : ℕ) (v : ℤ) → 8 * x ≤ 9 * s → pos 0 ≤ℤ v →
    (pos 8 *ℤ (pos x *ℤ v)) ≤ℤ (pos 9 *ℤ (pos s *ℤ v))
eight x s v few since =
    rw (scaled_twice 8 x v, scaled_twice 9 s v) (scaled_more (8 * x) (9 * s) v few since)

none : (x : ℕ) (v : ℤ) → v ≤ℤ pos 0 → (pos x *ℤ v) ≤ℤ pos 0
none x v h = subst (λ n. (pos x *ℤ v) ≤ℤ n) (*ℤ-zero (pos x)) (scaled_order x v (pos 0) h)

pub negated : (x : ℕ) (v : ℤ) → pos x *ℤ (pos 0 -ℤ v) ≡ pos 0 -ℤ pos x *ℤ v
negated x v = scaled_difference x (pos 0) v ∙ ap (λ n. n -ℤ pos x *ℤ v) (*ℤ-zero (pos x))

pub swapped : (k s : ℕ) (d : ℤ) → pos k *ℤ (pos s *ℤ d) ≡ pos s *ℤ (pos k *ℤ d)
swapped k s d =
    scaled_twice k s d ∙ ap (λ (n : ℕ). pos n *ℤ d) (mul_comm k s) ∙ sym (scaled_twice s k d)

-- a lag after c cycles, if each adds z to it and takes what the lag made up for: d for a second
pub contracted : (k s c w : ℕ) (lag d z : ℤ) → 8 * (k * c) ≤ 9 * s → 20 * k ≤ w →
    pos 0 ≤ℤ z → z ≤ℤ pos w → (pos s *ℤ d) ≤ℤ lag → lag ≤ℤ (pos s *ℤ d +ℤ pos s) →
    IsBound (s * w) (pos k *ℤ lag) →
    IsBound (s * w) (pos k *ℤ (lag +ℤ pos c *ℤ (z -ℤ pos k *ℤ d)))
contracted k s c w lag d z few wide since most low high small =
    let part = pos k *ℤ d in
    let x = k * c in
    let q = s * w in
    let y = pos k *ℤ lag in
    let p = pos s *ℤ part in
    let more = pos x *ℤ (z -ℤ part) in
    let room = pos w -ℤ part in
    let below : p ≤ℤ y =
    subst (λ n. n ≤ℤ y) (swapped k s d) (scaled_order k (pos s *ℤ d) lag low) in
    let above : y ≤ℤ (p +ℤ pos (k * s)) =
    subst (λ n. y ≤ℤ n)
    (scaled_added k (pos s *ℤ d) (pos s)
    ∙ ap (λ n. n +ℤ pos k *ℤ pos s) (swapped k s d)
    ∙ ap (λ n. p +ℤ n) (pos-*ℤ-pos k s)) (scaled_order k lag (pos s *ℤ d +ℤ pos s) high) in
    let rest : 20 * (k * s) ≤ q = omega (arith, mul-le-mul_right s wide) in
    let whole : pos s *ℤ room ≡ pos q -ℤ p =
    scaled_difference s (pos w) part ∙ ap (λ n. n -ℤ p) (pos-*ℤ-pos s w) in
    let up : more ≤ℤ (pos x *ℤ room) =
    scaled_order x (z -ℤ part) room (omega (arith, ints, most)) in
    let down : (pos 0 -ℤ pos x *ℤ part) ≤ℤ more =
    subst (λ n. n ≤ℤ more) (negated x part)
    (scaled_order x (pos 0 -ℤ part) (z -ℤ part) (omega (arith, ints, since))) in
    subst (IsBound q)
    (sym
    (scaled_added k lag (pos c *ℤ (z -ℤ part))
    ∙ ap (λ n. y +ℤ n) (scaled_twice k c (z -ℤ part))))
    (record {
      low = elim (by_order part (pos 0)) as (λ _. neg_ℤ (pos (3 * q / 20)) ≤ℤ (y +ℤ more)) [
        | inl less ↦ low_less y more (pos x *ℤ part) q small.low down (none x part less)
        | inr no_less ↦ low_more y p more (pos x *ℤ part) q small.high below down
            (eight x s part few no_less)
      ];
      high = elim (by_order room (pos 0)) as (λ _. (y +ℤ more) ≤ℤ pos (6 * q / 5)) [
        | inl less ↦ high_less y more (pos x *ℤ room) q small.high up (none x room less)
        | inr no_less ↦ high_more y p more (pos x *ℤ room) q (k * s) rest small.low above up
            (subst (λ n. (pos 8 *ℤ (pos x *ℤ room)) ≤ℤ (pos 9 *ℤ n)) whole
            (eight x s room few no_less))
      ];
    })
