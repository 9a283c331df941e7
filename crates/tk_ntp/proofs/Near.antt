-- How near the length of a second is to the length at its tick and its frequency.
use Rattle.std.proofs.Common.{◌≡◌, ◌∙◌, ap, refl, ℕ, zero, suc, ◌+◌, ◌*◌, ◌/◌, ◌<◌, ◌≤◌, ℤ, pos, ◌+ℤ◌, ◌-ℤ◌, ◌*ℤ◌, ◌<ℤ◌, unsigned_abs, arith}
use Rattle.std.proofs.lemmas.Int.{ints, unsigned_abs-mul}
use Rattle.std.proofs.Math.IntN.{suc_ℤ-*ℤ, *ℤ_comm, *ℤ-zero, pos-*ℤ-pos}
use Rattle.std.proofs.Math.Nat.{div-mul-le_self, mul-le-mul_right, lt-div-mul-add}
use Rattle.tk_ntp.specs.Length.{max_phase, max_frequency, second_of}
use borrow.Author.Differences.{abs_is}

grow : (z : ℤ) (n : ℕ) → z *ℤ pos (suc n) ≡ z *ℤ pos n +ℤ z
grow z n = *ℤ_comm z (pos (suc n)) ∙ suc_ℤ-*ℤ (pos n) z ∙ ap (λ k. k +ℤ z) (*ℤ_comm (pos n) z)

regroup : (x y z a b : ℤ) → x ≡ y +ℤ z → x +ℤ (a +ℤ b) ≡ (y +ℤ a) +ℤ (z +ℤ b)
regroup x y z a b h = omega (arith, ints, h)

distributes : (a b : ℤ) (n : ℕ) → (a +ℤ b) *ℤ pos n ≡ a *ℤ pos n +ℤ b *ℤ pos n
distributes a b zero = rw (*ℤ-zero (a +ℤ b), *ℤ-zero a, *ℤ-zero b) refl
distributes a b (suc n) =
    rw (grow (a +ℤ b) n, grow a n, grow b n)
    (regroup ((a +ℤ b) *ℤ pos n) (a *ℤ pos n) (b *ℤ pos n) a b (distributes a b n))

-- a part of the length that was rounded down, and the rest of it
rounded : (whole given adjust : ℤ) (low w m hz : ℕ) → whole ≡ pos w → unsigned_abs adjust ≤ m →
    low ≤ w → w < low + hz →
    unsigned_abs (pos low +ℤ (given +ℤ adjust) -ℤ (whole +ℤ given)) ≤ m + hz
rounded whole given adjust low w m hz is h k l = omega (arith, ints, abs_is)

-- the length of a second, and the length that its tick, its frequency and a part of an offset make
pub as_long : (w : ℕ) (whole part adjust : ℤ) (hz m : ℕ) → whole ≡ pos w → 0 < hz →
    unsigned_abs adjust * hz ≤ m →
    unsigned_abs
    ((pos (w / hz) +ℤ (part +ℤ adjust)) *ℤ pos hz -ℤ (whole +ℤ part *ℤ pos hz)) ≤ m + hz
as_long w whole part adjust hz m is some h =
    let short : unsigned_abs (adjust *ℤ pos hz) ≤ m = rw (unsigned_abs-mul adjust (pos hz)) h in
    rw (distributes (pos (w / hz)) (part +ℤ adjust) hz, distributes part adjust hz, pos-*ℤ-pos (w / hz) hz)
    (rounded whole (part *ℤ pos hz) (adjust *ℤ pos hz) (w / hz * hz) w m hz is short
    (div-mul-le_self w hz) (lt-div-mul-add some))

-- hz shares of half a second and of 500 microseconds
pub shares : (x hz : ℕ) → x ≤ max_phase / hz + max_frequency / hz → x * hz ≤ max_phase + max_frequency
shares x hz h =
    let wide : x * hz ≤ (max_phase / hz + max_frequency / hz) * hz = mul-le-mul_right hz h in
    omega (arith, div-mul-le_self max_phase hz, div-mul-le_self max_frequency hz)

close : (whole phase : ℤ) (low w m hz : ℕ) → whole ≡ pos w → unsigned_abs phase ≤ m →
    low ≤ w → w < low + hz → unsigned_abs (pos low +ℤ phase -ℤ whole) ≤ m + hz
close whole phase low w m hz is h k l = omega (arith, ints, abs_is)

-- the length of a second with any phase
pub near : (w : ℕ) (whole phase : ℤ) (hz m : ℕ) → whole ≡ pos w → 0 < hz →
    unsigned_abs phase * hz ≤ m →
    unsigned_abs ((pos (w / hz) +ℤ phase) *ℤ pos hz -ℤ whole) ≤ m + hz
near w whole phase hz m is some h =
    let short : unsigned_abs (phase *ℤ pos hz) ≤ m = rw (unsigned_abs-mul phase (pos hz)) h in
    rw (distributes (pos (w / hz)) phase hz, pos-*ℤ-pos (w / hz) hz)
    (close whole (phase *ℤ pos hz) (w / hz * hz) w m hz is short (div-mul-le_self w hz)
    (lt-div-mul-add some))

-- the length of a second without phase is positive
pub is_whole : (tick : ℕ) (frequency : ℤ) → 9000 ≤ tick → unsigned_abs frequency ≤ max_frequency →
    let whole = pos (tick * 429496729600000) +ℤ frequency in whole ≡ pos (unsigned_abs whole)
is_whole tick frequency low held = omega (arith, ints, abs_is)

-- a length so near to that of its tick and its frequency is positive
pub positive_near : (length : ℤ) (tick : ℕ) (frequency : ℤ) (hz : ℕ) → hz ≤ 1024 → 9000 ≤ tick →
    unsigned_abs frequency ≤ max_frequency →
    unsigned_abs (length -ℤ second_of tick frequency) ≤ max_phase + max_frequency + hz →
    pos 0 <ℤ length
positive_near length tick frequency hz few low held near = omega (arith, ints, abs_is)
