-- The result of reading a clock (clock_gettime(2)).
use Rattle.std.specs.Prelude.{ℕ, ℤ, unsigned_abs, Option, Some, None, Result, Ok, Err}
use Rattle.tk_clock.specs.declared.clock_id.ClockId.{ClockId}
use Rattle.tk_clock.specs.declared.refusal.ReadError.{ReadError}
use Rattle.tk_clock.specs.State.{ReadBase, base_value}
use Rattle.tk_clock.specs.Refusal.{read_refusal}

-- the value, or the error of a refused read
abbrev pub unless_refused : Option ReadError → ℤ → Result ℕ ReadError
unless_refused (Some refusal) value = Err refusal
unless_refused None value = Ok (unsigned_abs value)

-- the value of a clock of a base at a reading, in nanoseconds, or the first test that the read
-- fails
unfoldable pub read_of : ReadBase → ClockId → ℕ → Result ℕ ReadError
read_of base clock reading =
    unless_refused (read_refusal base clock reading) (base_value base clock reading)
