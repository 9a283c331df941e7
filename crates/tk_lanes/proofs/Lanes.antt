-- Eight lanes at a time: the value that is computed in each.
use Rattle.std.proofs.Common.{◌≡◌, ℕ, ◌+◌, ◌-◌, ◌*◌, ◌/◌, ◌%◌, ◌^◌, ◌<◌, ◌≤◌, Bool, cond, ltb, List, [], ◌∷◌, map, length, bit_and, bit_or, w64, replicate, refl, false, inl, inr, sym, ap, ap₂, ◌∙◌, subst, arith}
use Rattle.std.proofs.lemmas.Nat.{le_or_l, le_or_r, and_mask, le-div, mod_below, mul-le, pow-add, pow_pos, shr_split}
use Rattle.std.proofs.lemmas.Simd.{zip2_of_maps, splat_is_map, tops_compared, Each1-weaker}
use Rattle.std.specs.Simd.Lanes.{zip2, sel_l, fold_l, Each1}
use Rattle.std.proofs.lemmas.Bool.{le-ltb, lt-ltb, cases_lt}
use Rattle.std.proofs.lemmas.List.{length-map}
use Rattle.std.proofs.Math.Nat.{mod-eq_of_lt, add-mul-mod_self_left, mul-add-div, mul-le-mul_right, div-mul-le_self, pow-le-pow_right}
use lib.Lanes.{top}
use Rattle.tk_lanes.specs.declared.segment.Segment.{Segment}
use Rattle.tk_lanes.specs.Segment.{segment_cycles, segment_nanos, nanos_after, IsNear, IsEachNear, IsFitting}

itself : (v : List ℕ) → v ≡ map (λ x. x) v
itself [] = refl
itself (x ∷ xs) = ap (λ r. x ∷ r) (itself xs)

selected : (m : ℕ → Bool) (f g : ℕ → ℕ) (v : List ℕ) {ms : List Bool} {a b : List ℕ} →
    ms ≡ map m v → a ≡ map f v → b ≡ map g v →
    sel_l ms a b ≡ map (λ x. cond (m x) (f x) (g x)) v
selected m f g v {ms} {a} {b} p q r =
    ap (λ l. sel_l l a b) p ∙ ap₂ (λ k l. sel_l (map m v) k l) q r ∙ of_maps v
  where
    of_maps : (v : List ℕ) →
        sel_l (map m v) (map f v) (map g v) ≡ map (λ x. cond (m x) (f x) (g x)) v
    of_maps [] = refl
    of_maps (x ∷ xs) = ap (λ r. cond (m x) (f x) (g x) ∷ r) (of_maps xs)

-- no number of a list is greater than the OR of all
most_is_or : (a : ℕ) (xs : List ℕ) (most : ℕ) → fold_l bit_or a xs ≤ most →
    (a ≤ most) × Each1 (λ x. x ≤ most) xs
most_is_or a [] most low = (low, tt)
most_is_or a (x ∷ xs) most low =
    let later = most_is_or (bit_or a x) xs most low in
    let here = later.0 in
    (omega (arith, le_or_l a x), (omega (arith, le_or_r a x), later.1))

each_of_map : (f : ℕ → ℕ) (P Q : ℕ → Type 0) → ((x : ℕ) → P (f x) → Q x) → (v : List ℕ) →
    Each1 P (map f v) → Each1 Q v
each_of_map f P Q step [] all = tt
each_of_map f P Q step (x ∷ xs) all = (step x all.0, each_of_map f P Q step xs all.1)

both : (P Q R : ℕ → Type 0) → ((x : ℕ) → P x → Q x → R x) → (v : List ℕ) → Each1 P v → Each1 Q v →
    Each1 R v
both P Q R step [] p q = tt
both P Q R step (x ∷ xs) p q = (step x p.0 q.0, both P Q R step xs p.1 q.1)

abbrev wrap_sub : ℕ → ℕ → ℕ
wrap_sub a b = (a + (18446744073709551616 - b)) % 18446744073709551616

abbrev wrap_add : ℕ → ℕ → ℕ
wrap_add a b = (a + b) % 18446744073709551616

abbrev wrap_mul : ℕ → ℕ → ℕ
wrap_mul a b = (a * b) % 18446744073709551616

abbrev shr : ℕ → ℕ → ℕ
shr a b = a / 2 ^ b

abbrev gaps : Segment → List ℕ → List ℕ
gaps segment v = zip2 bit_and (zip2 wrap_sub v (replicate 8 segment.last)) (replicate 8 segment.mask)

abbrev cycles : Segment → List ℕ → List ℕ
cycles segment v =
    sel_l (map (top 63) (zip2 (λ a b. cond (ltb a b) 18446744073709551615 0)
    (replicate 8 segment.half) (gaps segment v))) (replicate 8 0) (gaps segment v)

abbrev reaches : Segment → List ℕ → ℕ → List ℕ
reaches segment v bias = zip2 wrap_add (cycles segment v) (replicate 8 bias)

-- the nanoseconds of 2^32 cycles
abbrev pub step_of : Segment → ℕ
step_of segment = (segment.mult * 2 ^ (32 - segment.shift)) % 18446744073709551616

-- the nanoseconds of the high halves of the cycles
abbrev highs : List ℕ → ℕ → List ℕ
highs counts step = zip2 wrap_mul (zip2 shr counts (replicate 8 32)) (replicate 8 step)

-- the segment's values after the low halves of the cycles
abbrev lows : Segment → List ℕ → ℕ → ℕ → List ℕ
lows segment counts mult shift =
    zip2 wrap_add
    (zip2 shr
    (zip2 wrap_add (zip2 wrap_mul (zip2 bit_and counts (replicate 8 4294967295)) (replicate 8 mult))
    (replicate 8 segment.frac))
    (replicate 8 shift))
    (replicate 8 segment.base)

-- one lane of them
high_lane : Segment → ℕ → ℕ
high_lane segment cycles = wrap_mul (shr cycles 32) (step_of segment)

abbrev low_units : Segment → ℕ → ℕ
low_units segment cycles = wrap_add (wrap_mul (bit_and cycles 4294967295) segment.mult) segment.frac

low_lane : Segment → ℕ → ℕ
low_lane segment cycles = wrap_add (shr (low_units segment cycles) segment.shift) segment.base

splat : (v : List ℕ) → length v ≡ 8 → (y : ℕ) → replicate 8 y ≡ map (λ _. y) v
splat v long y = splat_is_map v 8 y long

gap_of : Segment → ℕ → ℕ
gap_of segment x = bit_and (wrap_sub x segment.last) segment.mask

gaps-map : (segment : Segment) (v : List ℕ) → length v ≡ 8 → gaps segment v ≡ map (gap_of segment) v
unfolding gap_of
gaps-map segment v long =
    zip2_of_maps bit_and (λ x. wrap_sub x segment.last) (λ _. segment.mask) v
    (zip2_of_maps wrap_sub (λ x. x) (λ _. segment.last) v (itself v) (splat v long segment.last))
    (splat v long segment.mask)

pub cycles-map : (segment : Segment) (v : List ℕ) → length v ≡ 8 →
    cycles segment v ≡ map (segment_cycles segment) v
unfolding gap_of segment_cycles
cycles-map segment v long =
    selected (λ x. ltb segment.half (gap_of segment x)) (λ _. 0) (gap_of segment) v
    (tops_compared w64 ltb (replicate 8 segment.half) (gaps segment v)
    ∙ zip2_of_maps ltb (λ _. segment.half) (gap_of segment) v (splat v long segment.half)
    (gaps-map segment v long))
    (splat v long 0)
    (gaps-map segment v long)

highs-map : (segment : Segment) (counts : List ℕ) → length counts ≡ 8 →
    highs counts (step_of segment) ≡ map (high_lane segment) counts
unfolding high_lane
highs-map segment counts long =
    zip2_of_maps wrap_mul (λ x. shr x 32) (λ _. step_of segment) counts
    (zip2_of_maps shr (λ x. x) (λ _. 32) counts (itself counts) (splat counts long 32))
    (splat counts long (step_of segment))

lows-map : (segment : Segment) (counts : List ℕ) → length counts ≡ 8 →
    lows segment counts segment.mult segment.shift ≡ map (low_lane segment) counts
unfolding low_lane
lows-map segment counts long =
    let low_half =
    zip2_of_maps bit_and (λ x. x) (λ _. 4294967295) counts (itself counts)
    (splat counts long 4294967295) in
    let units_are =
    zip2_of_maps wrap_add (λ x. wrap_mul (bit_and x 4294967295) segment.mult) (λ _. segment.frac)
    counts
    (zip2_of_maps wrap_mul (λ x. bit_and x 4294967295) (λ _. segment.mult) counts low_half
    (splat counts long segment.mult))
    (splat counts long segment.frac) in
    zip2_of_maps wrap_add (λ x. shr (low_units segment x) segment.shift) (λ _. segment.base) counts
    (zip2_of_maps shr (low_units segment) (λ _. segment.shift) counts units_are
    (splat counts long segment.shift))
    (splat counts long segment.base)

-- a word that is at most a value below 2^64 is not wrapped
unwrapped : (n : ℕ) → n < 18446744073709551616 → n % 18446744073709551616 ≡ n
unwrapped n fits = mod-eq_of_lt fits

-- one lane holds the segment's value
module _ (segment : Segment) (cycles : ℕ) (shift : segment.shift ≤ 32)
    (mult : segment.mult < 4294967296) (frac : segment.frac < 2 ^ segment.shift)
    (value : (cycles * segment.mult + segment.frac) / 2 ^ segment.shift + segment.base
    < 18446744073709551616) where
  abbrev top_half : ℕ
  top_half = cycles / 2 ^ 32

  abbrev bottom_half : ℕ
  bottom_half = cycles % 2 ^ 32

  abbrev up : ℕ
  up = 2 ^ (32 - segment.shift)

  abbrev down : ℕ
  down = 2 ^ segment.shift

  -- the product of the low half, with the part below a nanosecond
  abbrev rest : ℕ
  rest = bottom_half * segment.mult + segment.frac

  rest_fits : rest < 18446744073709551616
  rest_fits =
      let two : 0 < 2 = omega arith in
      let few : down ≤ 2 ^ 32 = pow-le-pow_right two shift in
      let product : bottom_half * segment.mult ≤ 4294967295 * 4294967295 =
      mul-le bottom_half segment.mult 4294967295 4294967295
      (omega (arith, mod_below cycles (2 ^ 32) (omega arith))) (omega (arith, mult)) in
      omega (arith, few, product, frac)

  whole : cycles * segment.mult + segment.frac ≡ down * (top_half * segment.mult * up) + rest
  whole =
      let parts : top_half * 2 ^ 32 + bottom_half ≡ cycles = shr_split cycles 32 in
      let bits : 32 ≡ (32 - segment.shift) + segment.shift = omega (arith, shift) in
      let scale : 2 ^ 32 ≡ up * down =
      ap (λ k. 2 ^ k) bits ∙ pow-add 2 (32 - segment.shift) segment.shift in
      ap (λ n. n * segment.mult + segment.frac) (sym parts)
      ∙ ap (λ n. (top_half * n + bottom_half) * segment.mult + segment.frac) scale
      ∙ omega arith

  quotient : (cycles * segment.mult + segment.frac) / down ≡ top_half * segment.mult * up + rest / down
  quotient =
      ap (λ n. n / down) whole
      ∙ mul-add-div (pow_pos segment.shift) (top_half * segment.mult * up) rest

  -- the shift of the multiplier loses no bit
  step_is : step_of segment ≡ segment.mult * up
  step_is =
      let two : 0 < 2 = omega arith in
      let less : 32 - segment.shift ≤ 32 = omega arith in
      let few : up ≤ 2 ^ 32 = pow-le-pow_right two less in
      let product : segment.mult * up ≤ 4294967295 * 4294967296 =
      mul-le segment.mult up 4294967295 4294967296 (omega (arith, mult)) (omega (arith, few)) in
      unwrapped _ (omega (arith, product))

  low_is : low_lane segment cycles ≡ rest / down + segment.base
  unfolding low_lane
  low_is =
      let product : wrap_mul (bit_and cycles 4294967295) segment.mult ≡ bottom_half * segment.mult =
      ap (λ n. wrap_mul n segment.mult) (and_mask cycles 32)
      ∙ unwrapped _ (omega (arith, rest_fits)) in
      let units : low_units segment cycles ≡ rest =
      ap (λ n. wrap_add n segment.frac) product ∙ unwrapped _ rest_fits in
      ap (λ n. wrap_add (n / down) segment.base) units
      ∙ unwrapped _ (omega (arith, quotient, value))

  high_is : high_lane segment cycles ≡ top_half * segment.mult * up
  unfolding high_lane
  high_is =
      ap (wrap_mul top_half) step_is
      ∙ ap (λ n. n % 18446744073709551616) (turned top_half segment.mult up)
      ∙ unwrapped _ (omega (arith, quotient, value))
    where
      turned : (a b c : ℕ) → a * (b * c) ≡ a * b * c
      turned a b c = omega arith

  -- the low half is enough if it is the whole
  near_is : cycles < 4294967296 →
      low_lane segment cycles ≡ (cycles * segment.mult + segment.frac) / down + segment.base
  near_is few =
      low_is
      ∙ ap (λ n. (n * segment.mult + segment.frac) / down + segment.base) (mod-eq_of_lt few)

  far_is : wrap_add (high_lane segment cycles) (low_lane segment cycles)
      ≡ (cycles * segment.mult + segment.frac) / down + segment.base
  far_is =
      ap₂ wrap_add high_is low_is
      ∙ unwrapped _ (omega (arith, quotient, value)) ∙ omega (arith, quotient)

-- two functions that agree at each stamp give the same list of lanes
same_maps : (f g : ℕ → ℕ) (P : ℕ → Type 0) → ((x : ℕ) → P x → f x ≡ g x) → (v : List ℕ) →
    Each1 P v → map f v ≡ map g v
same_maps f g P same [] all = refl
same_maps f g P same (x ∷ xs) all =
    ap₂ (λ y ys. y ∷ ys) (same x all.0) (same_maps f g P same xs all.1)

-- a greater number has no smaller quotient
div_grows : (a b k : ℕ) → 0 < k → a ≤ b → a / k ≤ b / k
div_grows a b k some grown = le-div (a / k) b k some (omega (arith, div-mul-le_self a k, grown))

-- the segment's value within its span fits a word
value_low : (segment : Segment) → IsFitting segment → (gap : ℕ) → gap ≤ segment.span →
    (gap * segment.mult + segment.frac) / 2 ^ segment.shift + segment.base < 18446744073709551616
unfolding nanos_after
value_low segment fitting gap within =
    let product : gap * segment.mult ≤ segment.span * segment.mult =
    mul-le-mul_right segment.mult within in
    let grown : (gap * segment.mult + segment.frac) / 2 ^ segment.shift
    ≤ (segment.span * segment.mult + segment.frac) / 2 ^ segment.shift =
    div_grows _ _ _ (pow_pos segment.shift) (omega (arith, product)) in
    omega (arith, grown, fitting.value)

-- each lane holds the segment's value after its number of cycles
module _ (segment : Segment) (fitting : IsFitting segment) (few : segment.mult < 4294967296)
    (counts : List ℕ) (long : length counts ≡ 8) (near : Each1 (λ gap. gap ≤ segment.span) counts)
    (mult shift : ℕ) (p : mult ≡ segment.mult) (q : shift ≡ segment.shift) where
  lows_are : lows segment counts mult shift ≡ map (low_lane segment) counts
  lows_are = ap₂ (lows segment counts) p q ∙ lows-map segment counts long

  -- without the high halves, if they are 0
  pub near_nanos : fold_l bit_or 0 counts < 4294967296 →
      lows segment counts mult shift ≡ map (nanos_after segment) counts
  unfolding nanos_after
  near_nanos small =
      let each = (most_is_or 0 counts 4294967295 (omega (arith, small))).1 in
      let P : ℕ → Type 0 = λ gap. (gap ≤ segment.span) × (gap ≤ 4294967295) in
      lows_are
      ∙ same_maps (low_lane segment) (nanos_after segment) P
      (λ gap given.
      near_is segment gap fitting.shift few fitting.frac (value_low segment fitting gap given.0)
      (omega (arith, given.1))) counts
      (both (λ gap. gap ≤ segment.span) (λ gap. gap ≤ 4294967295) P (λ gap a b. (a, b)) counts near
      each)

  pub far_nanos : (step : ℕ) → step ≡ step_of segment →
      zip2 wrap_add (highs counts step) (lows segment counts mult shift)
      ≡ map (nanos_after segment) counts
  unfolding nanos_after
  far_nanos step r =
      zip2_of_maps wrap_add (high_lane segment) (low_lane segment) counts
      (ap (highs counts) r ∙ highs-map segment counts long) lows_are
      ∙ same_maps (λ gap. wrap_add (high_lane segment gap) (low_lane segment gap))
      (nanos_after segment) (λ gap. gap ≤ segment.span)
      (λ gap within.
      far_is segment gap fitting.shift few fitting.frac (value_low segment fitting gap within)) counts
      near

-- if a gap is within the span, the stamp is not behind
near_gap : (segment : Segment) → segment.span ≤ segment.half → (x : ℕ) → gap_of segment x ≤ segment.span →
    gap_of segment x ≡ segment_cycles segment x
unfolding gap_of segment_cycles
near_gap segment leads x low =
    let ahead : ltb segment.half (gap_of segment x) ≡ false = le-ltb _ _ (omega (arith, low, leads)) in
    rw ahead refl

pub cycles-long : (segment : Segment) (v : List ℕ) → length v ≡ 8 → length (cycles segment v) ≡ 8
cycles-long segment v long = ap length (cycles-map segment v long) ∙ length-map v (segment_cycles segment)
    ∙ long

-- the segment's values after the cycles of each stamp are its values at each stamp
pub nanos_at_each : (segment : Segment) (v counts : List ℕ) → counts ≡ map (segment_cycles segment) v →
    map (nanos_after segment) counts ≡ map (segment_nanos segment) v
nanos_at_each segment v counts e = ap (map (nanos_after segment)) e ∙ fused v
  where
    fused : (v : List ℕ) →
        map (nanos_after segment) (map (segment_cycles segment) v) ≡ map (segment_nanos segment) v
    fused [] = refl
    fused (x ∷ xs) = ap (λ r. segment_nanos segment x ∷ r) (fused xs)

abbrev word_of : Segment → ℕ → ℕ
word_of segment x = wrap_sub x segment.last

abbrev words : Segment → List ℕ → List ℕ
words segment v = zip2 wrap_sub v (replicate 8 segment.last)

words-map : (segment : Segment) (v : List ℕ) → length v ≡ 8 → words segment v ≡ map (word_of segment) v
words-map segment v long =
    zip2_of_maps wrap_sub (λ x. x) (λ _. segment.last) v (itself v) (splat v long segment.last)

pub words-long : (segment : Segment) (v : List ℕ) → length v ≡ 8 → length (words segment v) ≡ 8
words-long segment v long = ap length (words-map segment v long) ∙ length-map v (word_of segment) ∙ long

-- the cycles of near stamps are within the span
pub each_near : (segment : Segment) (v : List ℕ) → IsEachNear segment v →
    Each1 (λ gap. gap ≤ segment.span) (map (segment_cycles segment) v)
each_near segment [] near = tt
each_near segment (x ∷ xs) near = (near.0.near, each_near segment xs near.1)

-- a stamp that is no farther ahead of the last reading than `segment.ahead`
module _ (segment : Segment) (fitting : IsFitting segment)
    (masked : segment.mask < 18446744073709551616) where
  word_is : (x : ℕ) → x < 18446744073709551616 → word_of segment x ≤ segment.ahead →
      word_of segment x + segment.last ≡ x
  word_is x fits low =
      elim (cases_lt x segment.last) [
        | inl below ↦
            let e : word_of segment x ≡ x + (18446744073709551616 - segment.last) =
            mod-eq_of_lt (omega (arith, below, fitting.read, masked)) in
            omega (arith, e, below, low, fitting.read, masked)
        | inr above ↦
            let e : x + (18446744073709551616 - segment.last)
            ≡ (x - segment.last) + 18446744073709551616 * 1 = omega (arith, above, fitting.read, masked) in
            let w : word_of segment x ≡ x - segment.last =
            ap (λ n. n % 18446744073709551616) e
            ∙ add-mul-mod_self_left (x - segment.last) 18446744073709551616 1
            ∙ mod-eq_of_lt (omega (arith, fits)) in
            omega (arith, w, above)
      ]

  abbrev IsAhead : ℕ → Type 0
  IsAhead x = (word_of segment x ≡ segment_cycles segment x) × IsNear segment x

  is_ahead : (x : ℕ) → x < 18446744073709551616 → word_of segment x ≤ segment.ahead → IsAhead x
  unfolding gap_of
  is_ahead x fits low =
      let at = word_is x fits low in
      let gap : gap_of segment x ≡ word_of segment x =
      fitting.whole (word_of segment x) (omega (arith, low, fitting.read)) in
      let cycles : word_of segment x ≡ segment_cycles segment x =
      sym gap ∙ near_gap segment fitting.leads x (omega (arith, gap, low, fitting.near)) in (
        cycles,
        record {
          near = omega (arith, cycles, low, fitting.near);
          read = omega (arith, at, low, fitting.read);
        },
      )

  each_ahead : (v : List ℕ) → length v ≡ 8 → Each1 (λ x. x < 18446744073709551616) v →
      fold_l bit_or 0 (words segment v) ≤ segment.ahead → Each1 IsAhead v
  each_ahead v long fits low =
      let ors : fold_l bit_or 0 (map (word_of segment) v) ≤ segment.ahead =
      subst (λ l. fold_l bit_or 0 l ≤ segment.ahead) (words-map segment v long) low in
      both _ _ IsAhead is_ahead v fits
      (each_of_map (word_of segment) (λ y. y ≤ segment.ahead) (λ x. word_of segment x ≤ segment.ahead)
      (λ x p. p) v
      (most_is_or 0 _ segment.ahead ors).1)

  pub words-are_cycles : (v : List ℕ) → length v ≡ 8 →
      Each1 (λ x. x < 18446744073709551616) v →
      fold_l bit_or 0 (words segment v) ≤ segment.ahead → words segment v ≡ map (segment_cycles segment) v
  words-are_cycles v long fits low =
      words-map segment v long
      ∙ same_maps (word_of segment) (segment_cycles segment) IsAhead (λ x p. p.0) v
      (each_ahead v long fits low)

  pub near_by_words : (v : List ℕ) → length v ≡ 8 → Each1 (λ x. x < 18446744073709551616) v →
      fold_l bit_or 0 (words segment v) ≤ segment.ahead → IsEachNear segment v
  near_by_words v long fits low =
      Each1-weaker IsAhead (IsNear segment) (λ x p. p.1) v (each_ahead v long fits low)

  pub words-near : (v : List ℕ) → length v ≡ 8 → Each1 (λ x. x < 18446744073709551616) v →
      fold_l bit_or 0 (words segment v) ≤ segment.ahead →
      Each1 (λ gap. gap ≤ segment.span) (words segment v)
  words-near v long fits low =
      subst (λ l. Each1 (λ gap. gap ≤ segment.span) l) (sym (words-are_cycles v long fits low))
      (each_near segment v (near_by_words v long fits low))

-- a sum with this bias has no top bit, so the cycles are within the span
within_span : (cycles span bias : ℕ) → cycles < 9223372036854775808 →
    bias + span + 1 ≡ 9223372036854775808 →
    wrap_add cycles bias ≤ 9223372036854775807 → cycles ≤ span
within_span cycles span bias few e low =
    let plain : wrap_add cycles bias ≡ cycles + bias = mod-eq_of_lt (omega arith) in
    omega (arith, plain)

cycles_low : (segment : Segment) (x : ℕ) → segment_cycles segment x ≤ segment.half
unfolding segment_cycles gap_of
cycles_low segment x =
    let g = gap_of segment x in
    elim (cases_lt segment.half g) [
      | inl behind ↦ let t = lt-ltb _ _ behind in rw t (omega arith)
      | inr forward ↦ let t = le-ltb _ _ forward in rw t forward
    ]

pub near_by_reaches : (segment : Segment) (v : List ℕ) (bias : ℕ) → length v ≡ 8 →
    segment.half < 9223372036854775808 →
    bias + segment.span + 1 ≡ 9223372036854775808 → fold_l bit_or 0 v ≤ segment.mask →
    fold_l bit_or 0 (reaches segment v bias) < 9223372036854775808 → IsEachNear segment v
near_by_reaches segment v bias long halved e read low =
    let reach : ℕ → ℕ = λ x. wrap_add (segment_cycles segment x) bias in
    let mapped : reaches segment v bias ≡ map reach v =
    zip2_of_maps wrap_add (segment_cycles segment) (λ _. bias) v (cycles-map segment v long)
    (splat v long bias) in
    let ors : fold_l bit_or 0 (map reach v) ≤ 9223372036854775807 =
    subst (λ l. fold_l bit_or 0 l ≤ 9223372036854775807) mapped (omega (arith, low)) in
    both _ _ (IsNear segment)
    (λ x p q. record {
      near =
          within_span (segment_cycles segment x) segment.span bias (omega (arith, cycles_low segment x)) e p;
      read = q;
    }) v
    (each_of_map reach (λ y. y ≤ 9223372036854775807) (λ x. reach x ≤ 9223372036854775807)
    (λ x p. p) v
    (most_is_or 0 _ 9223372036854775807 ors).1)
    (most_is_or 0 v segment.mask read).1

pub cycles-near : (segment : Segment) (v : List ℕ) → length v ≡ 8 → IsEachNear segment v →
    Each1 (λ gap. gap ≤ segment.span) (cycles segment v)
cycles-near segment v long near =
    subst (λ l. Each1 (λ gap. gap ≤ segment.span) l) (sym (cycles-map segment v long))
    (each_near segment v near)
