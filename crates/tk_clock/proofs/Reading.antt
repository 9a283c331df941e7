-- A read of a clock, by its line since the last reading.
use Rattle.std.proofs.Common.{◌≡◌, ℕ, ◌*◌, ◌^◌, ◌<◌, ◌≤◌, inl, inr, true, false, Some, None, Result, Ok, Err, MatchResult, refl, sym, ap, ap₂, ◌∙◌, arith}
use Rattle.std.specs.Prelude.{pos, int_lt, nat_lt, unsigned_abs}
use Rattle.std.proofs.lemmas.Bool.{le-ltb, lt-ltb}
use Rattle.tk_counter.specs.Counter.{mask}
use Rattle.tk_clock.specs.declared.clock_id.ClockId.{ClockId}
use Rattle.tk_clock.specs.declared.origin.Origin.{Origin}
use Rattle.tk_clock.specs.declared.refusal.ReadError.{ReadError}
use Rattle.tk_clock.specs.declared.refusal.ReadError.TheVariants.{Range as PastLimit}
use Rattle.tk_clock.specs.Amount.{IsNanos}
use Rattle.tk_clock.specs.Limits.{limit, clock_end}
use Rattle.tk_clock.specs.Origin.{line_after, IsOrigin, awake}
use Rattle.tk_clock.specs.Read.{read_of, unless_refused}
use Rattle.tk_clock.specs.Refusal.{read_refusal}
use Rattle.tk_clock.specs.State.{ReadBase, base_cycles, base_value}
use Rattle.tk_clock.proofs.Lines.{line_reads}

module _ (base : ReadBase) (clock : ClockId) (line : Origin) (reading nanos : ℕ)
    (given : IsOrigin (awake base) clock line) (read : reading ≤ mask base.counter)
    (stated : IsNanos nanos (line_after base.counter line (base_cycles base reading))) where
  abbrev there : ℕ
  there = line_after base.counter line (base_cycles base reading)

  value : base_value base clock reading ≡ pos there
  value = line_reads base clock line reading given

  within : nat_lt (mask base.counter) reading ≡ false
  within = le-ltb _ _ read

  -- nanoseconds below the limit are the clock's value
  pub read_given : nanos < line.limit →
      (read_refusal base clock reading ≡ None) × (pos nanos ≡ base_value base clock reading)
      × (nanos < clock_end * 10 ^ 9)
  read_given low = elim stated [
    | inl exact ↦
        let same : pos nanos ≡ base_value base clock reading = ap pos exact ∙ sym value in
        let ranged : int_lt (base_value base clock reading) (limit clock) ≡ true =
        ap₂ int_lt (sym same) (sym given.ends) ∙ lt-ltb _ _ low in
        (rw (within, ranged) refl, same, omega (arith, low, given.ends_low))
    | inr beyond ↦ absurd (omega (arith, low, given.ends_low, beyond.1))
  ]

  -- otherwise the clock is at its limit or past it
  pub read_refused : line.limit ≤ nanos → read_refusal base clock reading ≡ Some PastLimit
  read_refused high =
      let past : line.limit ≤ there = elim stated [
        | inl exact ↦ omega (arith, exact, high)
        | inr beyond ↦ omega (arith, beyond.0, given.ends_low)
      ] in
      let ranged : int_lt (base_value base clock reading) (limit clock) ≡ false =
      ap₂ int_lt value (sym given.ends) ∙ le-ltb _ _ past in
      rw (within, ranged) refl

-- the result of a read is its value or its refusal
pub read_result : (base : ReadBase) (clock : ClockId) (reading : ℕ) (result : Result ℕ ReadError) →
    MatchResult result
    (λ nanos. (read_refusal base clock reading ≡ None)
    × (pos nanos ≡ base_value base clock reading) × (nanos < clock_end * 10 ^ 9))
    (λ refusal. read_refusal base clock reading ≡ Some refusal) →
    result ≡ read_of base clock reading
unfolding read_of
read_result base clock reading (Ok nanos) given =
    ap (λ z. Ok (unsigned_abs z)) given.1
    ∙ sym (ap (λ r. unless_refused r (base_value base clock reading)) given.0)
read_result base clock reading (Err refusal) stated =
    sym (ap (λ r. unless_refused r (base_value base clock reading)) stated)
