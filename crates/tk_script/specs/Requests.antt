-- The record of a request to steered clocks (adjtimex(2)).
use Rattle.std.specs.Prelude.{ℕ, List, Result, Ok}
use Rattle.tk_ntp.specs.declared.timex.Timex.{Timex}
use Rattle.tk_script.specs.Field.{◌>>=◌, number32_at, reading_of, signed_at}
use Rattle.tk_script.specs.declared.row.Row.{Row}
use Rattle.tk_script.specs.declared.row.Row.TheVariants.{Ask}
use Rattle.tk_script.specs.declared.script_error.ScriptError.{ScriptError}

-- the request in the fields after the reading: modes, offset, freq, maxerror, esterror, status,
-- constant, tick, sec and sub
unfoldable pub request_of : ℕ → List (List ℕ) → Result Timex ScriptError
request_of row fields = do
  modes ← number32_at row fields 2
  offset ← signed_at row fields 3
  freq ← signed_at row fields 4
  maxerror ← signed_at row fields 5
  esterror ← signed_at row fields 6
  status ← number32_at row fields 7
  constant ← signed_at row fields 8
  tick ← signed_at row fields 9
  sec ← signed_at row fields 10
  sub ← signed_at row fields 11
  Ok (record {
    modes = modes;
    offset = offset;
    freq = freq;
    maxerror = maxerror;
    esterror = esterror;
    status = status;
    constant = constant;
    tick = tick;
    sec = sec;
    sub = sub;
  })

-- the row of a request: a reading (cycles), and the fields of the request
unfoldable pub ask_of : ℕ → List (List ℕ) → Result Row ScriptError
ask_of row fields = do
  reading ← reading_of row fields 12
  request ← request_of row fields
  Ok (Ask reading request)
