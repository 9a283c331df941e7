-- REALTIME at the reading of the command that set it.
use Rattle.std.proofs.Common.{◌≡◌, refl, sym, subst, ℕ, ◌+◌, ◌*◌, ◌/◌, ◌^◌, ◌≤◌, false, arith}
use Rattle.std.specs.Prelude.{ℤ, pos, ◌+ℤ◌, ◌<ℤ◌, unsigned_abs, Ok, nat_lt}
use Rattle.std.proofs.lemmas.Grind.{common_steps}
use Rattle.std.proofs.lemmas.Int.{ints}
use Rattle.tk_counter.specs.Counter.{mask}
use Rattle.tk_clock.specs.declared.clock_id.ClockId.TheVariants.{Realtime, RealtimeCoarse}
use Rattle.tk_clock.specs.Limits.{limit, clock_end}
use Rattle.tk_clock.specs.Read.{read_of}
use Rattle.tk_clock.specs.State.{ReadBase, base_value}
use Rattle.tk_clock.proofs.Settings.{is_below}

not_less : (most reading : ℕ) → reading ≤ most → nat_lt most reading ≡ false
not_less most reading h = grind (arith, common_steps)

-- REALTIME can be read at the last reading, and a coarse clock's value is the one there
pub real_read : (base : ReadBase) (reading : ℕ) → reading ≤ mask base.counter →
    base_value base Realtime base.last <ℤ limit Realtime →
    read_of base RealtimeCoarse reading ≡ Ok (unsigned_abs (base_value base Realtime base.last))
unfolding read_of
real_read base reading low h =
    let value = base_value base Realtime base.last in
    rw (not_less (mask base.counter) reading low, is_below value (limit Realtime) h) refl

seconds_low : (mono offset : ℕ) → (pos mono +ℤ pos offset) <ℤ pos (clock_end * 10 ^ 9) →
    unsigned_abs (pos mono +ℤ pos offset) / 10 ^ 9 + 1 ≤ clock_end
seconds_low mono offset h = omega (arith, ints)

-- the next second after a time below the limit is at most the limit
pub next_low : (mono offset : ℕ) (real_offset : ℤ) → pos offset ≡ real_offset →
    (pos mono +ℤ real_offset) <ℤ pos (clock_end * 10 ^ 9) →
    unsigned_abs (pos mono +ℤ real_offset) / 10 ^ 9 + 1 ≤ clock_end
next_low mono offset real_offset is h =
    subst (λ z. unsigned_abs (pos mono +ℤ z) / 10 ^ 9 + 1 ≤ clock_end) is
    (seconds_low mono offset
    (subst (λ z. (pos mono +ℤ z) <ℤ pos (clock_end * 10 ^ 9)) (sym is) h))
