-- A time that a clock reaches only after the readings that are searched.
use Rattle.std.proofs.Common.{◌≡◌, ℕ, ◌<◌, ◌≤◌, sym, subst, arith}
use Rattle.std.specs.Prelude.{ℤ, ◌<ℤ◌, ◌≤ℤ◌, pos, None}
use Rattle.std.specs.Int.{int_max}
use Rattle.std.proofs.lemmas.Int.{ints, clamps}
use Rattle.tk_counter.specs.Counter.{mask, half}
use Rattle.tk_clock.specs.declared.clock_id.ClockId.{ClockId}
use Rattle.tk_clock.specs.State.{ReadBase, base_value}
use Rattle.tk_clock.specs.Limits.{limit}
use Rattle.tk_clock.specs.Refusal.{read_refusal}
use Rattle.tk_clock.specs.Origin.{mult_of, value_after}
use Rattle.tk_clock.specs.Reach.{distance}
use Rattle.tk_clock.specs.Further.{IsFurther}
use Rattle.tk_clock.proofs.Lines.{value_ahead, value_rises}
use Rattle.tk_clock.proofs.Reach.{reads_below}

below : (a b c : ℤ) → a ≤ℤ b → b <ℤ c → a <ℤ c
below a b c low high = omega (arith, ints, low, high)

above : (a b c : ℤ) → a <ℤ b → b <ℤ c → a <ℤ c
above a b c low high = omega (arith, ints, low, high)

-- a read is earlier than a time exactly if it is earlier than the time from 0 on
pub earlier : (last from_zero : ℕ) (value time : ℤ) → pos last ≡ value →
    pos from_zero ≡ int_max (pos 0) time → last < from_zero → value <ℤ time
earlier last from_zero value time e f low = omega (arith, ints, clamps, e, f, low)

pub later : (last from_zero : ℕ) (value time : ℤ) → pos last ≡ value →
    pos from_zero ≡ int_max (pos 0) time → value <ℤ time → last < from_zero
later last from_zero value time e f low = omega (arith, ints, clamps, e, f, low)

module _ (base : ReadBase) (clock : ClockId) (nanos : ℤ) (last : ℕ)
    (away : distance base last ≡ half base.counter) where
  -- if the farthest read returns an earlier time, so do all reads ahead
  pub is_further : 0 < mult_of base clock → nanos <ℤ limit clock →
      base_value base clock last <ℤ nanos → IsFurther base clock nanos
  is_further counts low early =
      let far : value_after base clock (half base.counter) <ℤ nanos =
      subst (λ d. value_after base clock d <ℤ nanos) away
      (subst (λ v. v <ℤ nanos) (value_ahead base clock last (omega (arith, away))) early) in
      record {
        counts = counts;
        below = low;
        early = λ reading ahead.
            let value = value_ahead base clock reading ahead.1 in
            let before = subst (λ v. v <ℤ nanos) (sym value)
            (below _ _ _ (value_rises base clock (distance base reading) (half base.counter)
            ahead.1) far) in
            (reads_below base clock nanos reading ahead.0 (above _ _ _ before low), before);
      }

  -- and the farthest read of a time that is further away returns an earlier one
  pub is_before : last ≤ mask base.counter → IsFurther base clock nanos →
      (read_refusal base clock last ≡ None) × (base_value base clock last <ℤ nanos)
  is_before read further = further.early last (read, omega (arith, away))
