-- With an honest counter all listed readings are in the lives of their snapshots.
use Rattle.std.proofs.Common.{◌≡◌, ℕ, ◌+◌, ◌-◌, ◌/◌, ◌%◌, ◌^◌, ◌<◌, ◌≤◌, refl, sym, ap, ◌∙◌, arith, inl, inr, Bool, true, false}
use Rattle.std.proofs.lemmas.Nat.{pow_pos}
use Rattle.tk_counter.specs.Counter.{Counter, gap, half}
use Rattle.tk_counter.proofs.Gaps.{counted_gap}
use Rattle.tk_clock.specs.Journal.{Journal, reading_at, is_asleep_at}
use Rattle.tk_clock.specs.Life.{IsInLife}
use Rattle.tk_now.proofs.Honesty.{in_order}
use Rattle.tk_now.proofs.Lists.{there}
use Rattle.tk_now.specs.Life.{AnswersAreInLife}

below : (d : ℕ) (n : ℕ) → 0 < d → n ≤ (d - 1) / 2 → n < d
below d n some low = omega arith

-- the gap between readings of two true counts
pub true_gap : (counter : Counter) (c d r s : ℕ) → r ≡ c % 2 ^ counter.bits →
    s ≡ d % 2 ^ counter.bits → c ≤ d → d - c ≤ half counter → gap counter r s ≡ d - c
true_gap counter c d r s from to le near =
    let m = 2 ^ counter.bits in
    let some : 0 < m = pow_pos counter.bits in
    ap (λ n. gap counter n s) from ∙ ap (λ n. gap counter (c % m) n) to
    ∙ counted_gap m c d some le (below m (d - c) some near)

in_life_by : (asleep : Bool) (history : Journal) (place reading : ℕ) →
    is_asleep_at history place ≡ asleep →
    (is_asleep_at history place ≡ false →
    gap history.opening.counter (reading_at history place) reading
    ≤ gap history.opening.counter (reading_at history place) (reading_at history (place + 1))) →
    IsInLife history place reading
in_life_by true history place reading is near = inr (inl is)
in_life_by false history place reading is near = inr (inr (inr (near is)))

pub in_life : AnswersAreInLife
in_life history at command answer commands log readings ordered alive honest near falls i a at_a within =
    let counter = history.opening.counter in
    let r = a.taken.reading % 2 ^ counter.bits in
    let count = readings.count in
    let t = there commands a.place (omega arith) in
    let u = there commands (a.place + 1) (omega arith) in
    let counts = in_order at command answer counter.bits commands log ordered alive honest in
    let low = counts.after i a.place a t.0 at_a t.1 (omega arith) in
    let high = counts.before i (a.place + 1) a u.0 at_a u.1 (omega arith) in
    let from = sym (readings.each a.place t.0 t.1) ∙ (honest.commands_read a.place t.0 t.1).read in
    let to = sym (readings.each (a.place + 1) u.0 u.1)
    ∙ (honest.commands_read (a.place + 1) u.0 u.1).read in
    let mid = (honest.answers_read i a at_a).read in
    let lived = in_life_by (is_asleep_at history a.place) history a.place r refl
    (λ awake.
    let most = near a.place within awake in
    let short = true_gap counter (command a.place) (answer i) (reading_at history a.place)
    r from mid low (omega arith) in
    let long = true_gap counter (command a.place) (command (a.place + 1))
    (reading_at history a.place) (reading_at history (a.place + 1)) from to (omega arith) most in
    omega (arith, short, long, low, high)) in
    (lived, λ reading. falls a.place r reading within lived)
