-- Gaps from a reading, and from a later one.
use Rattle.std.proofs.Common.{◌≡◌, ◌∙◌, sym, ap, ℕ, ◌+◌, ◌-◌, ◌*◌, ◌/◌, ◌%◌, ◌^◌, ◌<◌, ◌≤◌, arith}
use Rattle.std.proofs.Math.Nat.{div-add-mod, mod-lt, mod-mod, add-mod-mod, mod-add-mod, add-mul-mod_self_left}
use Rattle.std.proofs.lemmas.Nat.{pow_pos}
use Rattle.tk_counter.specs.Counter.{Counter, gap, half}
use Rattle.tk_counter.proofs.Gaps.{counted_gap}

-- a reading, and the gap from it to another one
reached : (d last x : ℕ) → 0 < d → (last + (x + (d - last % d)) % d) % d ≡ x % d
reached d last x some =
    let whole : d * (last / d) + last % d ≡ last = div-add-mod last d in
    let rest : last % d < d = mod-lt last some in
    let e : last + (x + (d - last % d)) ≡ x + d * (last / d + 1) = omega arith in
    add-mod-mod last (x + (d - last % d)) d
    ∙ ap (λ n. n % d) e
    ∙ add-mul-mod_self_left x d (last / d + 1)

difference : (last g h : ℕ) → last + h - (last + g) ≡ h - g
difference last g h = omega arith

within : (last g h d : ℕ) → h < d → last + h - (last + g) < d
within last g h d low = omega arith

-- the gap from a reading to one that is no nearer to the last one
pub later_gap : (counter : Counter) (last at x : ℕ) →
    gap counter last at ≤ gap counter last x →
    gap counter at x ≡ gap counter last x - gap counter last at
later_gap counter last at x order =
    let d = 2 ^ counter.bits in
    let some = pow_pos counter.bits in
    let g = gap counter last at in
    let h = gap counter last x in
    let near : h < d = mod-lt (x + (d - last % d)) some in
    sym (mod-add-mod x d (d - at % d))
    ∙ ap (λ n. (x % d + (d - n)) % d) (sym (mod-mod at d))
    ∙ ap (λ n. (n + (d - at % d % d)) % d) (sym (reached d last x some))
    ∙ ap (λ n. ((last + h) % d + (d - n % d)) % d) (sym (reached d last at some))
    ∙ counted_gap d (last + g) (last + h) some (omega arith) (within last g h d near)
    ∙ difference last g h

-- two readings that are no nearer than `at` are in the same order from there
pub order_kept : (counter : Counter) (last at earlier later : ℕ) →
    gap counter last at ≤ gap counter last earlier →
    gap counter last earlier ≤ gap counter last later →
    gap counter at earlier ≤ gap counter at later
order_kept counter last at earlier later h k =
    let e = later_gap counter last at earlier h in
    let f : gap counter at later ≡ gap counter last later - gap counter last at =
    later_gap counter last at later (omega arith) in
    omega arith

-- a gap that starts where another one ends
pub sum_gap : (counter : Counter) (last last_account x : ℕ) →
    gap counter last last_account + gap counter last_account x < 2 ^ counter.bits →
    gap counter last x ≡ gap counter last last_account + gap counter last_account x
sum_gap counter last last_account x few =
    let d = 2 ^ counter.bits in
    let some = pow_pos counter.bits in
    let g = gap counter last last_account in
    let k = gap counter last_account x in
    let e : last + g + k ≡ last + (g + k) = omega arith in
    sym (mod-add-mod x d (d - last % d))
    ∙ ap (λ n. (x % d + (d - n)) % d) (sym (mod-mod last d))
    ∙ ap (λ n. (n + (d - last % d % d)) % d) (sym (reached d last_account x some))
    ∙ ap (λ n. (n + (d - last % d % d)) % d) (sym (mod-add-mod last_account d k))
    ∙ ap (λ n. ((n + k) % d + (d - last % d % d)) % d) (sym (reached d last last_account some))
    ∙ ap (λ n. (n + (d - last % d % d)) % d) (mod-add-mod (last + g) d k)
    ∙ ap (λ n. (n % d + (d - last % d % d)) % d) e
    ∙ counted_gap d last (last + (g + k)) some (omega arith) (omega (arith, few))
    ∙ omega arith

-- a reading ahead of another one, which is ahead of the last one, is no nearer to the last one
pub further : (counter : Counter) (last last_account x : ℕ) → gap counter last last_account ≤ half counter →
    gap counter last_account x ≤ half counter → gap counter last last_account ≤ gap counter last x
further counter last last_account x h k =
    let some = pow_pos counter.bits in
    let few : gap counter last last_account + gap counter last_account x < 2 ^ counter.bits =
    halves (2 ^ counter.bits) (gap counter last last_account) (gap counter last_account x) some h k in
    rw (sum_gap counter last last_account x few) (omega arith)
  where
    halves : (d g k : ℕ) → 0 < d → g ≤ (d - 1) / 2 → k ≤ (d - 1) / 2 → g + k < d
    halves d g k some p q = omega arith
