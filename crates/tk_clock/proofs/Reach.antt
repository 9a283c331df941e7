-- The first reading at which a clock has reached a time, from the fewest cycles after which it has.
use Rattle.std.proofs.Common.{◌≡◌, ℕ, ◌<◌, ◌≤◌, ◌⊎◌, inl, inr, Option, Some, None, MatchOption, refl, sym, ◌∙◌, ap, subst, arith}
use Rattle.std.specs.Prelude.{ℤ, ◌<ℤ◌, ◌≤ℤ◌, int_lt, nat_lt, true, false}
use Rattle.std.proofs.lemmas.Bool.{le-ltb}
use Rattle.std.proofs.lemmas.Int.{ints}
use Rattle.tk_counter.specs.Counter.{mask, half}
use Rattle.tk_clock.specs.declared.clock_id.ClockId.{ClockId}
use Rattle.tk_clock.specs.declared.refusal.ReadError.{ReadError}
use Rattle.tk_clock.specs.State.{ReadBase, base_value}
use Rattle.tk_clock.specs.Limits.{limit}
use Rattle.tk_clock.specs.Refusal.{read_refusal}
use Rattle.tk_clock.specs.Origin.{value_after}
use Rattle.tk_clock.specs.Reach.{distance, IsAhead, IsFirstReached, IsNeverReached, IsReadAt, GivesAgain}
use Rattle.tk_clock.proofs.Lines.{value_ahead, value_rises}

-- a value below its limit, as a test
is_below : (a b : ℤ) → a <ℤ b → int_lt a b ≡ true
is_below a b low = grind (arith, ints)

not_below : (a b : ℤ) → b ≤ℤ a → int_lt a b ≡ false
not_below a b high = grind (arith, ints)

-- a time between two values
between : (a b c : ℤ) → a <ℤ b → b ≤ℤ c → a <ℤ c
between a b c low high = omega (arith, ints, low, high)

apart : (a b : ℤ) → a <ℤ b → b ≤ℤ a → ⊥
apart a b low high = absurd (omega (arith, ints, low, high))

order : (a b : ℕ) → (a < b) ⊎ (b ≤ a)
order a b = grind arith

module _ (base : ReadBase) (clock : ClockId) (nanos : ℤ) where
  -- a read below the limit is not refused
  pub reads_below : (reading : ℕ) → reading ≤ mask base.counter →
      base_value base clock reading <ℤ limit clock → read_refusal base clock reading ≡ None
  reads_below reading read low =
      let within : nat_lt (mask base.counter) reading ≡ false = le-ltb _ _ read in
      let ranged = is_below (base_value base clock reading) (limit clock) low in
      rw (within, ranged) refl

  -- a read that is not refused is below the limit
  below_limit : (reading : ℕ) → reading ≤ mask base.counter →
      read_refusal base clock reading ≡ None → base_value base clock reading <ℤ limit clock
  below_limit reading read none =
      let within : nat_lt (mask base.counter) reading ≡ false = le-ltb _ _ read in
      let stated = rw within at none in
      grind (arith, ints, stated)

  -- a refused one is not
  at_limit : (reading : ℕ) (refusal : ReadError) → reading ≤ mask base.counter →
      read_refusal base clock reading ≡ Some refusal → limit clock ≤ℤ base_value base clock reading
  at_limit reading refusal read some =
      let within : nat_lt (mask base.counter) reading ≡ false = le-ltb _ _ read in
      let stated = rw within at some in
      grind (arith, ints, stated)

  -- no number of cycles is enough
  pub never_enough : ((cycles : ℕ) → cycles ≤ half base.counter →
      value_after base clock cycles <ℤ nanos) → IsNeverReached base clock nanos
  never_enough early reading ahead reached =
      apart _ _ (early (distance base reading) ahead.1)
      (subst (λ v. nanos ≤ℤ v) (value_ahead base clock reading ahead.1) reached.1)

  module _ (cycles reading : ℕ) (read : reading ≤ mask base.counter)
      (away : distance base reading ≡ cycles) (near : cycles ≤ half base.counter)
      (enough : nanos ≤ℤ value_after base clock cycles)
      (early : (fewer : ℕ) → fewer < cycles → value_after base clock fewer <ℤ nanos) where
    is_near : distance base reading ≤ half base.counter
    is_near = omega (arith, away, near)

    value : base_value base clock reading ≡ value_after base clock cycles
    value = value_ahead base clock reading is_near ∙ ap (value_after base clock) away

    value_reached : nanos ≤ℤ base_value base clock reading
    value_reached = subst (λ v. nanos ≤ℤ v) (sym value) enough

    early_at : (other : ℕ) → IsAhead base other → distance base other < distance base reading →
        base_value base clock other <ℤ nanos
    early_at other ahead nearer =
        subst (λ v. v <ℤ nanos) (sym (value_ahead base clock other ahead.1))
        (early (distance base other) (omega (arith, away, nearer)))

    -- the reading after the fewest cycles is the first one, if it can be read
    pub is_first : read_refusal base clock reading ≡ None →
        IsFirstReached base clock nanos reading
    is_first stated = record {
      ahead = (read, is_near);
      reached = (stated, value_reached);
      nearer = λ other ahead nearer.
          let low = early_at other ahead nearer in (
            reads_below other ahead.0
                (between _ _ _ low
                (below _ _ _ value_reached (below_limit reading read stated))),
            low,
          );
    }
      where
        below : (a b c : ℤ) → a ≤ℤ b → b <ℤ c → a ≤ℤ c
        below a b c low high = omega (arith, ints, low, high)

    -- the clock is at its limit there and after it
    pub is_never : (refusal : ReadError) → read_refusal base clock reading ≡ Some refusal →
        IsNeverReached base clock nanos
    is_never refusal stated other ahead reached =
        let end = at_limit reading refusal read stated in
        let low = below_limit other ahead.0 reached.0 in
        let v = value_ahead base clock other ahead.1 in
        let low' : value_after base clock (distance base other) <ℤ limit clock =
        subst (λ v. v <ℤ limit clock) v low in
        let end' : limit clock ≤ℤ value_after base clock cycles =
        subst (λ v. limit clock ≤ℤ v) value end in
        let reached' : nanos ≤ℤ value_after base clock (distance base other) =
        subst (λ v. nanos ≤ℤ v) v reached.1 in
        elim (order (distance base other) cycles) [
          | inl few ↦ apart _ _ (early (distance base other) few) reached'
          | inr many ↦ apart _ _ low'
              (along _ _ _ end' (value_rises base clock cycles (distance base other) many))
        ]
      where
        along : (a b c : ℤ) → a ≤ℤ b → b ≤ℤ c → a ≤ℤ c
        along a b c low high = omega (arith, ints, low, high)

  -- a time that a read returns is returned again at the first reading that has reached it
  pub gives_again : (result : Option ℕ) →
      MatchOption result (IsNeverReached base clock nanos)
      (λ first. IsFirstReached base clock nanos first) →
      (reading : ℕ) → IsReadAt base clock nanos reading → GivesAgain base clock nanos reading result
  gives_again None never reading stated =
      never reading stated.0 (stated.1, same_le _ _ (sym stated.2))
    where
      same_le : (a b : ℤ) → a ≡ b → a ≤ℤ b
      same_le a b e = omega (arith, ints, e)
  gives_again (Some first) found reading stated =
      let near : distance base first ≤ distance base reading = elim
      (order (distance base reading) (distance base first)) [
        | inl nearer ↦ absurd (not_same _ _ (found.nearer reading stated.0 nearer).1 stated.2)
        | inr far ↦ far
      ] in
      let most : base_value base clock first ≤ℤ base_value base clock reading =
      subst (λ v. v ≤ℤ base_value base clock reading)
      (sym (value_ahead base clock first found.ahead.1))
      (subst (λ v. value_after base clock (distance base first) ≤ℤ v)
      (sym (value_ahead base clock reading stated.0.1))
      (value_rises base clock (distance base first) (distance base reading) near)) in
      ((found.ahead, found.reached.0, same _ _ _ found.reached.1 most stated.2), near)
    where
      not_same : (a b : ℤ) → a <ℤ b → a ≡ b → ⊥
      not_same a b low e = absurd (omega (arith, ints, low, e))

      same : (n v w : ℤ) → n ≤ℤ v → v ≤ℤ w → w ≡ n → v ≡ n
      same n v w low high e = omega (arith, ints, low, high, e)
