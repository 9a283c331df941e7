-- With an honest counter, the cycles of a journal are true cycles.
use Rattle.std.proofs.Common.{◌≡◌, ℕ, zero, suc, ◌+◌, ◌-◌, ◌/◌, ◌%◌, ◌^◌, ◌<◌, ◌≤◌, length, refl, ◌∙◌, ap, arith, Bool, true, false}
use Rattle.std.specs.Prelude.{if◌then◌else◌}
use Rattle.std.proofs.lemmas.Nat.{pow_pos}
use Rattle.tk_counter.specs.Counter.{gap}
use Rattle.tk_counter.proofs.Gaps.{counted_gap}
use Rattle.tk_clock.specs.Journal.{Journal, reading_at, is_asleep_at}
use Rattle.tk_clock.specs.Monotonic.{awake_cycles}
use Rattle.tk_clock.specs.Honest.{IsHonest, counted_cycles}

below : (d : ℕ) (n : ℕ) → 0 < d → n ≤ (d - 1) / 2 → n < d
below d n some low = omega arith

-- the gap between two readings of an honest counter
honest_gap : (journal : Journal) (count : ℕ → ℕ) (place : ℕ) → IsHonest journal count →
    suc place ≤ length journal.entries →
    is_asleep_at journal place ≡ false →
    gap journal.opening.counter (reading_at journal place) (reading_at journal (suc place))
    ≡ count (suc place) - count place
honest_gap journal count place honest within awake =
    let d = 2 ^ journal.opening.counter.bits in
    let some : 0 < d = pow_pos journal.opening.counter.bits in
    ap (λ n. gap journal.opening.counter n (reading_at journal (suc place)))
    (honest.read place (omega arith))
    ∙ ap (λ n. gap journal.opening.counter (count place % d) n) (honest.read (suc place) within)
    ∙ counted_gap d (count place) (count (suc place)) some (honest.grows place within awake)
    (below d (count (suc place) - count place) some (honest.near place within awake))

either_way : (asleep : Bool) (before before' gap gap' : ℕ) → before ≡ before' →
    (asleep ≡ false → gap ≡ gap') →
    before + (if asleep then 0 else gap) ≡ before' + (if asleep then 0 else gap')
either_way true before before' gap gap' e f = ap (λ n. n + 0) e
either_way false before before' gap gap' e f = let g = f refl in omega arith

pub awake_cycles-honest : (journal : Journal) (count : ℕ → ℕ) → IsHonest journal count →
    (place : ℕ) → place ≤ length journal.entries →
    awake_cycles journal place ≡ counted_cycles journal count place
awake_cycles-honest journal count honest zero within = refl
awake_cycles-honest journal count honest (suc place) within =
    either_way (is_asleep_at journal place) _ _ _ _
    (awake_cycles-honest journal count honest place (omega arith))
    (λ awake. honest_gap journal count place honest within awake)
