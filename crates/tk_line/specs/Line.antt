-- A clock as a line of plain numbers, by which a program computes it as the kernel's vDSO does
-- (struct vdso_timestamp, lib/vdso/gettimeofday.c): one product of 64 bits, and no offset.
use Rattle.std.specs.Prelude.{◌≡◌, ◌<◌, ◌≤◌, ℕ, ◌+◌, ◌*◌, ◌/◌, ◌^◌, pos, ◌+ℤ◌, ◌*ℤ◌, ◌<ℤ◌, Ok, ◌↔◌}
use Rattle.tk_counter.specs.Counter.{mask, half, second}
use Rattle.tk_clock.specs.declared.clock_id.ClockId.{ClockId}
use Rattle.tk_line.specs.declared.line.Line.{Line}
use Rattle.tk_clock.specs.Limits.{limit}
use Rattle.tk_clock.specs.Origin.{units_at_last, mult_of, offset_of, value_after}
use Rattle.tk_clock.specs.Reach.{distance}
use Rattle.tk_clock.specs.Read.{read_of}
use Rattle.tk_clock.specs.State.{ReadBase}

-- the units of 2^-shift nanoseconds below a second of the line, some cycles after its beginning
abbrev pub line_units : Line → ℕ → ℕ
line_units line cycles = line.frac + cycles * line.mult

-- the line's value some cycles after its beginning, in nanoseconds
abbrev pub line_nanos : Line → ℕ → ℕ
line_nanos line cycles = line.sec * 10 ^ 9 + line_units line cycles / 2 ^ line.shift

-- a clock's line after the last reading. Its span is the number of cycles, from 0 up to half the
-- counter's range, after which the units fit in 64 bits and the clock is below its limit
pub record IsLine (base : ReadBase) (clock : ClockId) (line : Line) : Type 0 where
  pub last : line.last ≡ base.last
  pub greatest : line.mask ≡ mask base.counter
  pub mult : line.mult ≡ mult_of base clock
  pub shift : line.shift ≡ base.counter.shift
  pub start : pos (line.sec * second base.counter + line.frac)
      ≡ pos (units_at_last base clock) +ℤ offset_of base clock *ℤ pos (2 ^ base.counter.shift)
  pub frac_low : line.frac < second base.counter
  pub span_high : line.span ≤ half base.counter + 1
  pub spans : (cycles : ℕ) → cycles ≤ half base.counter →
      (cycles < line.span)
      ↔ ((line_units line cycles < 2 ^ 64) × (value_after base clock cycles <ℤ limit clock))
  pub reads : (reading : ℕ) → reading ≤ mask base.counter → distance base reading < line.span →
      read_of base clock reading ≡ Ok (line_nanos line (distance base reading))
