-- The value of a clock by its line.
use Rattle.std.proofs.Common.{◌≡◌, ℕ, ◌+◌, ◌*◌, ◌/◌, ◌^◌, ◌<◌, ◌≤◌, true, false, Ok, sym, ap, ap₂, ◌∙◌, arith}
use Rattle.std.specs.Prelude.{pos, ◌+ℤ◌, ◌<ℤ◌, int_lt, nat_lt, unsigned_abs, ◌↔◌}
use Rattle.std.proofs.lemmas.Bool.{le-ltb, lt-ltb}
use Rattle.std.proofs.lemmas.Nat.{pow_pos}
use Rattle.std.proofs.lemmas.Int.{ints}
use Rattle.std.proofs.Math.Nat.{mul-add-div}
use Rattle.tk_counter.specs.Counter.{mask, half, second}
use Rattle.tk_clock.specs.declared.clock_id.ClockId.{ClockId}
use Rattle.tk_clock.specs.Limits.{limit}
use Rattle.tk_clock.specs.Origin.{units_at_last, mult_of, offset_of, value_after}
use Rattle.tk_clock.specs.Reach.{distance}
use Rattle.tk_clock.specs.Read.{read_of}
use Rattle.tk_clock.specs.State.{ReadBase, base_value}
use Rattle.tk_clock.proofs.Lines.{value_ahead}
use Rattle.tk_clock.proofs.Reaching.{nanos-rise}
use Rattle.tk_line.specs.declared.line.Line.{Line}
use Rattle.tk_line.specs.Line.{line_units, line_nanos}

module _ (base : ReadBase) (clock : ClockId) (line : Line) (offset most : ℕ)
    (mult : line.mult ≡ mult_of base clock) (shift : line.shift ≡ base.counter.shift)
    (start : pos offset ≡ offset_of base clock) (ends : pos most ≡ limit clock)
    (begun : line.sec * second base.counter + line.frac
    ≡ units_at_last base clock + offset * 2 ^ base.counter.shift) where
  -- the nanoseconds of a clock after it has gained some units
  gained : (units : ℕ) →
      (units_at_last base clock + units) / 2 ^ base.counter.shift + offset
      ≡ line.sec * 10 ^ 9 + (line.frac + units) / 2 ^ base.counter.shift
  gained units =
      let scale = 2 ^ base.counter.shift in
      let some = pow_pos base.counter.shift in
      let left : (scale * offset + (units_at_last base clock + units)) / scale
      ≡ offset + (units_at_last base clock + units) / scale =
      mul-add-div some offset (units_at_last base clock + units) in
      let right : (scale * (line.sec * 10 ^ 9) + (line.frac + units)) / scale
      ≡ line.sec * 10 ^ 9 + (line.frac + units) / scale =
      mul-add-div some (line.sec * 10 ^ 9) (line.frac + units) in
      let same : scale * offset + (units_at_last base clock + units)
      ≡ scale * (line.sec * 10 ^ 9) + (line.frac + units) = omega (arith, begun) in
      omega (arith, sym left ∙ ap (λ n. n / scale) same ∙ right)

  -- the clock is on its line
  on_line : (cycles : ℕ) → value_after base clock cycles ≡ pos (line_nanos line cycles)
  on_line cycles =
      ap (λ z. pos ((units_at_last base clock + cycles * mult_of base clock)
      / 2 ^ base.counter.shift) +ℤ z) (sym start)
      ∙ ap pos (gained (cycles * mult_of base clock))
      ∙ ap₂ (λ m s. pos (line.sec * 10 ^ 9 + (line.frac + cycles * m) / 2 ^ s)) (sym mult)
      (sym shift)

  -- the clock is below its limit as long as its line is
  pub below : (cycles : ℕ) →
      (line_nanos line cycles < most) ↔ (value_after base clock cycles <ℤ limit clock)
  below cycles =
      let value = on_line cycles in
      ((λ low. omega (arith, ints, value, ends, low)), (λ low. omega (arith, ints, value, ends, low)))

  -- the span of a line whose cycles gain at most `room` units
  pub spans_room : (room left : ℕ) →
      line.sec * 10 ^ 9 + line.frac / 2 ^ line.shift + left ≡ most →
      ((units : ℕ) → (units ≤ room)
      ↔ ((line.frac + units < 2 ^ 64)
      × ((line.frac + units) / 2 ^ line.shift < line.frac / 2 ^ line.shift + left))) →
      ((cycles : ℕ) → cycles ≤ half base.counter →
      (cycles < line.span) ↔ (cycles * line.mult ≤ room)) →
      (cycles : ℕ) → cycles ≤ half base.counter →
      (cycles < line.span)
      ↔ ((line_units line cycles < 2 ^ 64) × (value_after base clock cycles <ℤ limit clock))
  spans_room room left whole rooms spans cycles near =
      let gain = cycles * line.mult in (
        (λ inside.
            let both = (rooms gain).0 ((spans cycles near).0 inside) in
            (both.0, (below cycles).0 (omega (arith, both.1, whole)))),
        (λ both.
            let low = (below cycles).1 both.1 in
            (spans cycles near).1 ((rooms gain).1 (both.0, omega (arith, low, whole)))),
      )

  -- a clock at its limit has no span
  pub spans_none : line.span ≡ 0 → most ≤ line.sec * 10 ^ 9 + line.frac / 2 ^ line.shift →
      (cycles : ℕ) → cycles ≤ half base.counter →
      (cycles < line.span)
      ↔ ((line_units line cycles < 2 ^ 64) × (value_after base clock cycles <ℤ limit clock))
  spans_none none past cycles near = (
    (λ inside. absurd (omega (arith, inside, none))),
    (λ both.
        let low = (below cycles).1 both.1 in
        let risen = nanos-rise line.frac (line.frac + cycles * line.mult) line.shift (omega arith) in
        absurd (omega (arith, low, risen, past))),
  )

  -- a read ahead, of a clock below its limit, gives the line's value
  pub line_reads : (reading : ℕ) → reading ≤ mask base.counter →
      distance base reading ≤ half base.counter →
      value_after base clock (distance base reading) <ℤ limit clock →
      read_of base clock reading ≡ Ok (line_nanos line (distance base reading))
  unfolding read_of
  line_reads reading read near low =
      let value = value_ahead base clock reading near ∙ on_line (distance base reading) in
      let within : nat_lt (mask base.counter) reading ≡ false = le-ltb _ _ read in
      let ranged : int_lt (base_value base clock reading) (limit clock) ≡ true =
      ap₂ int_lt value (sym ends) ∙ lt-ltb _ _ ((below (distance base reading)).1 low) in
      rw (within, ranged) (ap (λ z. Ok (unsigned_abs z)) value)
