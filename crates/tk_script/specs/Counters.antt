-- The counter that the first record of a script describes.
use Rattle.std.specs.Prelude.{ℕ, is_none, Option, Some, None, Result, if◌then◌else◌}
use Rattle.std.specs.Option.{ok_or}
use Rattle.tk_counter.specs.Counter.{Counter}
use Rattle.tk_counter.specs.Description.{first_fault}
use Rattle.tk_counter.specs.Frequency as frequency
use Rattle.tk_script.specs.declared.opening.Telling.{Telling}
use Rattle.tk_script.specs.declared.opening.Telling.TheVariants as tellings
use Rattle.tk_script.specs.declared.script_error.ScriptError.{ScriptError}
use Rattle.tk_script.specs.declared.script_error.ScriptError.TheVariants as errors

-- the counter with these values, if they describe one
abbrev pub scaled_counter : Counter → Option Counter
scaled_counter counter = if is_none (first_fault counter) then Some counter else None

-- the counter of `bits` bits at `hz` Hz, for gaps of up to `maxsec` seconds, if there is one
abbrev pub timed_counter : ℕ → ℕ → ℕ → Option Counter
timed_counter bits hz maxsec =
    if is_none (frequency.frequency_fault bits hz maxsec)
    then frequency.from_frequency frequency.hertz bits hz maxsec else None

-- the counter of `bits` bits from two more numbers: mult and shift, or its frequency in Hz and the
-- longest gap in seconds
abbrev pub counter_of : Telling → ℕ → ℕ → ℕ → Result Counter ScriptError
counter_of tellings.Scale bits mult shift =
    ok_or (scaled_counter (record { bits = bits; mult = mult; shift = shift })) (errors.Opening 1)
counter_of tellings.Frequency bits hz maxsec =
    ok_or (timed_counter bits hz maxsec) (errors.Opening 1)
