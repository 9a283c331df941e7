-- Which numbers describe a counter, and which fault other numbers have.
use Rattle.std.specs.Prelude.{◌-◌, ◌^◌, Option, Some, None, ◌||◌, nat_lt, if◌then◌else◌}
use Rattle.tk_counter.specs.Counter.{Counter, fastest}
use Rattle.tk_counter.specs.declared.desc_error.DescError.{DescError}
use Rattle.tk_counter.specs.declared.desc_error.DescError.TheVariants.{Bits, Shift, Mult, Adjust}

-- the first fault of a description, in the order of these tests; `None` means that it has no fault
abbrev pub first_fault : Counter → Option DescError
first_fault counter =
    if nat_lt counter.bits 8 || nat_lt 64 counter.bits then Some Bits
    else if nat_lt 32 counter.shift then Some Shift
    else if nat_lt counter.mult 256 then Some Mult
    else if nat_lt (2 ^ 32 - 1) (fastest counter) then Some Adjust
    else None
