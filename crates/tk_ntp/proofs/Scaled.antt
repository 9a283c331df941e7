-- Naturals times integers.
use Rattle.std.proofs.Common.{◌≡◌, ◌∙◌, sym, ap, subst, ℕ, zero, suc, ◌+◌, ◌-◌, ◌*◌, ◌≤◌, arith}
use Rattle.std.specs.Prelude.{ℤ, pos, ◌+ℤ◌, ◌-ℤ◌, ◌*ℤ◌, ◌≤ℤ◌}
use Rattle.std.proofs.lemmas.Int.{ints}
use Rattle.std.proofs.Math.IntN.{suc_ℤ-*ℤ, zero-*ℤ, *ℤ-zero}

moved : (x y z : ℤ) → x +ℤ y +ℤ z ≡ x +ℤ z +ℤ y
moved x y z = omega (arith, ints)

-- by a sum
pub scaled_sum : (a b : ℕ) (z : ℤ) → pos (a + b) *ℤ z ≡ pos a *ℤ z +ℤ pos b *ℤ z
scaled_sum zero b z =
    let none : zero + b ≡ b = omega arith in
    rw (none, zero-*ℤ z) (omega (arith, ints))
scaled_sum (suc a) b z =
    let next : suc a + b ≡ suc (a + b) = omega arith in
    ap (λ (n : ℕ). pos n *ℤ z) next
    ∙ suc_ℤ-*ℤ (pos (a + b)) z
    ∙ ap (λ y. y +ℤ z) (scaled_sum a b z)
    ∙ moved (pos a *ℤ z) (pos b *ℤ z) z
    ∙ ap (λ y. y +ℤ pos b *ℤ z) (sym (suc_ℤ-*ℤ (pos a) z))

-- by a product
pub scaled_twice : (a b : ℕ) (z : ℤ) → pos a *ℤ (pos b *ℤ z) ≡ pos (a * b) *ℤ z
scaled_twice zero b z =
    let none : zero * b ≡ zero = omega arith in
    zero-*ℤ (pos b *ℤ z) ∙ sym (ap (λ (n : ℕ). pos n *ℤ z) none ∙ zero-*ℤ z)
scaled_twice (suc a) b z =
    let next : a * b + b ≡ suc a * b = omega arith in
    suc_ℤ-*ℤ (pos a) (pos b *ℤ z)
    ∙ ap (λ y. y +ℤ pos b *ℤ z) (scaled_twice a b z)
    ∙ sym (scaled_sum (a * b) b z)
    ∙ ap (λ (n : ℕ). pos n *ℤ z) next

both : (x y a b : ℤ) → x ≤ℤ y → a ≤ℤ b → (x +ℤ a) ≤ℤ (y +ℤ b)
both x y a b h k = omega (arith, ints, h, k)

same : (z : ℤ) → z ≤ℤ z
same z = omega (arith, ints)

-- in the order of the integers
pub scaled_order : (n : ℕ) (a b : ℤ) → a ≤ℤ b → (pos n *ℤ a) ≤ℤ (pos n *ℤ b)
scaled_order zero a b h = rw (zero-*ℤ a, zero-*ℤ b) (same (pos 0))
scaled_order (suc n) a b h =
    rw (suc_ℤ-*ℤ (pos n) a, suc_ℤ-*ℤ (pos n) b)
    (both (pos n *ℤ a) (pos n *ℤ b) a b (scaled_order n a b h) h)

pub scaled_since : (n : ℕ) (z : ℤ) → pos 0 ≤ℤ z → pos 0 ≤ℤ (pos n *ℤ z)
scaled_since n z h =
    subst (λ y. y ≤ℤ (pos n *ℤ z)) (*ℤ-zero (pos n)) (scaled_order n (pos 0) z h)

further : (x y z : ℤ) → z ≡ x +ℤ y → pos 0 ≤ℤ y → x ≤ℤ z
further x y z h k = omega (arith, ints, h, k)

-- by a greater natural
pub scaled_more : (m n : ℕ) (z : ℤ) → m ≤ n → pos 0 ≤ℤ z → (pos m *ℤ z) ≤ℤ (pos n *ℤ z)
scaled_more m n z order since =
    let rest : n ≡ m + (n - m) = omega (arith, order) in
    further (pos m *ℤ z) (pos (n - m) *ℤ z) (pos n *ℤ z)
    (ap (λ (k : ℕ). pos k *ℤ z) rest ∙ scaled_sum m (n - m) z)
    (scaled_since (n - m) z since)

-- a sum and a difference
pub scaled_added : (c : ℕ) (a b : ℤ) → pos c *ℤ (a +ℤ b) ≡ pos c *ℤ a +ℤ pos c *ℤ b
scaled_added zero a b = rw (zero-*ℤ (a +ℤ b), zero-*ℤ a, zero-*ℤ b) (omega (arith, ints))
scaled_added (suc c) a b =
    rw (suc_ℤ-*ℤ (pos c) (a +ℤ b), suc_ℤ-*ℤ (pos c) a, suc_ℤ-*ℤ (pos c) b)
    (one_more (pos c *ℤ (a +ℤ b)) (pos c *ℤ a) (pos c *ℤ b) a b (scaled_added c a b))
  where
    one_more : (x y z a b : ℤ) → x ≡ y +ℤ z → x +ℤ (a +ℤ b) ≡ (y +ℤ a) +ℤ (z +ℤ b)
    one_more x y z a b h = omega (arith, ints, h)

pub scaled_difference : (c : ℕ) (a b : ℤ) → pos c *ℤ (a -ℤ b) ≡ pos c *ℤ a -ℤ pos c *ℤ b
scaled_difference zero a b = rw (zero-*ℤ (a -ℤ b), zero-*ℤ a, zero-*ℤ b) (omega (arith, ints))
scaled_difference (suc c) a b =
    rw (suc_ℤ-*ℤ (pos c) (a -ℤ b), suc_ℤ-*ℤ (pos c) a, suc_ℤ-*ℤ (pos c) b)
    (one_more (pos c *ℤ (a -ℤ b)) (pos c *ℤ a) (pos c *ℤ b) a b (scaled_difference c a b))
  where
    one_more : (x y z a b : ℤ) → x ≡ y -ℤ z → x +ℤ (a -ℤ b) ≡ (y +ℤ a) -ℤ (z +ℤ b)
    one_more x y z a b h = omega (arith, ints, h)
