-- A segment that is drawn from a snapshot has its clock's values.
use Rattle.std.proofs.Common.{◌≡◌, ℕ, ◌+◌, ◌-◌, ◌*◌, ◌/◌, ◌%◌, ◌^◌, ◌<◌, ◌≤◌, true, false, bit_and, Ok, refl, sym, ap, ap₂, ◌∙◌, arith}
use Rattle.std.specs.Prelude.{ℤ, pos, ◌+ℤ◌, int_lt, nat_lt, if◌then◌else◌, unsigned_abs}
use Rattle.std.proofs.lemmas.Bool.{le-ltb, lt-ltb}
use Rattle.std.proofs.lemmas.Nat.{pow_pos, div_below, and_mask}
use Rattle.std.proofs.lemmas.Int.{ints}
use Rattle.std.proofs.Math.Nat.{mul-add-div, mod-eq_of_lt, mul-le-mul_right}
use Rattle.tk_counter.specs.Counter.{Counter, IsCounter, mask, half}
use Rattle.tk_counter.proofs.Gaps.{word_gap}
use Rattle.tk_clock.specs.declared.clock_id.ClockId.{ClockId}
use Rattle.tk_clock.specs.Monotonic.{cycles_since}
use Rattle.tk_clock.specs.State.{ReadBase, base_value}
use Rattle.tk_clock.specs.Limits.{limit}
use Rattle.tk_clock.specs.Read.{read_of}
use Rattle.tk_lanes.specs.declared.segment.Segment.{Segment}
use Rattle.tk_clock.specs.Origin.{is_coarse, units_at_last, running_mult, mult_of, offset_of}
use Rattle.tk_clock.proofs.Lines.{same_units, counted, value_is}
use Rattle.tk_lanes.specs.Segment.{segment_cycles, segment_nanos, nanos_after, IsNear}

-- a segment with a clock's numbers: the nanoseconds that the clock counts up to the last reading,
-- without its offset, and the nanoseconds to its limit
pub record IsDrawn (base : ReadBase) (clock : ClockId) (segment : Segment) (counts room : ℕ) : Type 0 where
  pub counter : IsCounter base.counter
  pub last : segment.last ≡ base.last
  pub last_low : base.last < 2 ^ 64
  pub mult : segment.mult ≡ mult_of base clock
  pub shift : segment.shift ≡ base.counter.shift
  pub units : units_at_last base clock ≡ counts * 2 ^ base.counter.shift + segment.frac
  pub start : pos segment.base ≡ pos counts +ℤ offset_of base clock
  pub masked : segment.mask ≡ mask base.counter
  pub halved : segment.half ≡ half base.counter
  pub in_range : segment.span * segment.mult + segment.frac < room * 2 ^ segment.shift
  pub ends : pos (segment.base + room) ≡ limit clock

-- the difference of two words
abbrev gap_word : ℕ → ℕ → ℕ
gap_word stamp last = (stamp + (2 ^ 64 - last)) % 2 ^ 64

-- its low bits, if they lead forward, and otherwise 0
abbrev ahead : ℕ → ℕ → ℕ → ℕ
ahead m h word = let g = bit_and word m in if nat_lt h g then 0 else g

-- the cycles of the lanes are the clock's cycles
cycles_are : (counter : Counter) (last m h stamp : ℕ) → IsCounter counter → last < 2 ^ 64 →
    m ≡ mask counter → h ≡ half counter →
    ahead m h (gap_word stamp last) ≡ cycles_since counter false last stamp
cycles_are counter last m h stamp held low p q =
    ap₂ (λ m h. ahead m h (gap_word stamp last)) p q
    ∙ ap (λ g. if nat_lt (half counter) g then 0 else g)
    (word_gap counter.bits last stamp held.bits_high low)

-- a gap up to the mask has no bit beyond it
pub whole_gap : (counter : Counter) (m gap : ℕ) → m ≡ mask counter → gap ≤ m →
    bit_and gap m ≡ gap
whole_gap counter m gap p low =
    ap (bit_and gap) p ∙ and_mask gap counter.bits
    ∙ mod-eq_of_lt (omega (arith, p, low, pow_pos counter.bits))

-- a value within the room below a limit
pub value_below : (units shift room : ℕ) → units < room * 2 ^ shift → units / 2 ^ shift < room
value_below units shift room low = div_below units (2 ^ shift) room (pow_pos shift) low

-- the value at the end of the span fits a word
pub span_value : (segment : Segment) (room : ℕ) →
    segment.span * segment.mult + segment.frac < room * 2 ^ segment.shift →
    segment.base + room < 2 ^ 64 → nanos_after segment segment.span < 2 ^ 64
unfolding nanos_after
span_value segment room in_range limit_low =
    omega (
      arith,
      value_below (segment.span * segment.mult + segment.frac) segment.shift room in_range,
      limit_low,
    )

module _ (base : ReadBase) (clock : ClockId) (segment : Segment) (counts room : ℕ)
    (drawn : IsDrawn base clock segment counts room)
    (stamp : ℕ) (near : IsNear segment stamp) where
  abbrev cycles : ℕ
  cycles = segment_cycles segment stamp

  cycles_of : segment_cycles segment stamp ≡ cycles_since base.counter false base.last stamp
  unfolding segment_cycles
  cycles_of =
      ap (λ l. ahead segment.mask segment.half (gap_word stamp l)) drawn.last
      ∙ cycles_are base.counter base.last segment.mask segment.half stamp drawn.counter drawn.last_low
      drawn.masked drawn.halved

  abbrev units : ℕ
  units = cycles * segment.mult + segment.frac

  grown : cycles * segment.mult ≤ segment.span * segment.mult
  grown = mul-le-mul_right segment.mult near.near

  abbrev nanos : ℕ
  nanos = units / 2 ^ segment.shift

  nanos_low : nanos < room
  nanos_low = value_below units segment.shift room (omega (arith, grown, drawn.in_range))

  segment_is : segment_nanos segment stamp ≡ nanos + segment.base
  unfolding nanos_after
  segment_is = refl

  counted_is : counted base clock stamp ≡ counts + nanos
  counted_is =
      let at = if is_coarse clock then base.last else stamp in
      let same : cycles * segment.mult
      ≡ cycles_since base.counter base.asleep base.last at * running_mult base clock =
      ap₂ (λ a b. a * b) cycles_of drawn.mult
      ∙ same_units base.asleep (is_coarse clock) base.counter base.last stamp
      (running_mult base clock) in
      let e : units_at_last base clock + cycles_since base.counter base.asleep base.last
      at * running_mult base clock
      ≡ 2 ^ base.counter.shift * counts + units =
      omega (arith, same, drawn.units) in
      ap (λ n. n / 2 ^ base.counter.shift) e
      ∙ mul-add-div (pow_pos base.counter.shift) counts units
      ∙ ap (λ k. counts + units / 2 ^ k) (sym drawn.shift)

  value : base_value base clock stamp ≡ pos (nanos + segment.base)
  value =
      value_is base clock stamp
      ∙ ap (λ n. pos n +ℤ offset_of base clock) counted_is
      ∙ together counts nanos segment.base (offset_of base clock) drawn.start
    where
      together : (a n b : ℕ) (o : ℤ) → pos b ≡ pos a +ℤ o → pos (a + n) +ℤ o ≡ pos (n + b)
      together a n b o e = omega (arith, ints)

  -- a read of the clock gives the segment's value
  pub drawn_reads : read_of base clock stamp ≡ Ok (segment_nanos segment stamp)
  unfolding read_of
  drawn_reads =
      let within : nat_lt (mask base.counter) stamp ≡ false =
      le-ltb _ _ (omega (arith, near.read, drawn.masked)) in
      let ranged : int_lt (base_value base clock stamp) (limit clock) ≡ true =
      ap₂ int_lt value (sym drawn.ends) ∙ lt-ltb _ _ (omega (arith, nanos_low)) in
      rw (within, ranged) (ap Ok (ap unsigned_abs value ∙ sym segment_is))
