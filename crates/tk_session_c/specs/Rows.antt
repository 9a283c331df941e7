-- The fields that are written to C's storage for a row: struct tkc_row of include/tkcore_session.h.
use Rattle.std.specs.Prelude.{◌≡◌, ℕ, ℤ, pos, List, replicate, Option, Some, None, MatchBool, MatchResult}
use Rattle.tk_clock.specs.declared.clock_id.ClockId.{ClockId}
use Rattle.tk_clock.specs.declared.clock_id.ClockId.TheVariants as clocks
use Rattle.tk_clock.specs.declared.command.Command.{Command}
use Rattle.tk_clock.specs.declared.command.Command.TheVariants.{Update, SetTime, Step, Freq, Tick, Tai, Leap, Suspend, Resume}
use Rattle.tk_counter.specs.Counter.{Counter}
use Rattle.tk_ntp.specs.declared.timex.Timex.{Timex}
use Rattle.tk_script.specs.Plain.{cut_at_commas, is_plain_line}
use Rattle.tk_script.specs.Rows.{row_of}
use Rattle.tk_script.specs.declared.row.Row.{Row}
use Rattle.tk_script.specs.declared.row.Row.TheVariants.{Act, Look, Change, Ask}
use Rattle.tk_session_c.specs.Codes.{code_of_script, number_of}
use Rattle.tk_session_c.specs.declared.code.Code.TheVariants.{Done, NotPlain}
use Rattle.tk_session_c.specs.declared.request_storage.RequestStorage.{RequestStorage}
use Rattle.tk_session_c.specs.declared.row_storage.RowStorage.{RowStorage}

-- a request: the other fields of struct tkc_timex, and its padding, are 0
abbrev pub request_storage : Timex → RequestStorage
request_storage request = record {
  modes = request.modes;
  modes_padding = 0;
  offset = request.offset;
  freq = request.freq;
  maxerror = request.maxerror;
  esterror = request.esterror;
  status = request.status;
  status_padding = 0;
  constant = request.constant;
  limits = replicate 2 0;
  sec = request.sec;
  sub = request.sub;
  tick = request.tick;
  rest = replicate 14 0;
}

-- no request: all its fields are 0
abbrev pub no_request : Timex
no_request = record {
  modes = 0;
  offset = pos 0;
  freq = pos 0;
  maxerror = pos 0;
  esterror = pos 0;
  status = 0;
  constant = pos 0;
  tick = pos 0;
  sec = pos 0;
  sub = pos 0;
}

-- a row of this kind at a reading: all other fields are 0
abbrev pub blank : ℕ → ℕ → RowStorage
blank kind reading = record {
  reading = reading;
  number = pos 0;
  value = 0;
  first = 0;
  kind = kind;
  command = 0;
  nsec = 0;
  clock = 0;
  has_value = 0;
  bits = 0;
  mult = 0;
  shift = 0;
  timex = request_storage no_request;
}

-- the command with a number of enum tkc_command, and its arguments
abbrev pub numbered : ℕ → ℕ → ℤ → ℕ → RowStorage
numbered reading command number nsec = record (blank 0 reading) {
  command = command;
  number = number;
  nsec = nsec;
}

-- a command. No record makes a leap, whose arguments aren't written
abbrev pub command_storage : ℕ → Command → RowStorage
command_storage reading Update = numbered reading 0 (pos 0) 0
command_storage reading (SetTime time) = numbered reading 1 time.sec time.nsec
command_storage reading (Step time) = numbered reading 2 time.sec time.nsec
command_storage reading (Freq frequency) = numbered reading 3 frequency 0
command_storage reading (Tick tick) = numbered reading 4 tick 0
command_storage reading (Tai tai) = numbered reading 5 tai 0
command_storage reading Suspend = numbered reading 6 (pos 0) 0
command_storage reading (Resume time) = numbered reading 7 time.sec time.nsec
command_storage reading (Leap by tai) = numbered reading 8 (pos 0) 0

-- the number of a clock, as in clock_gettime(2)
abbrev pub clock_number : ClockId → ℕ
clock_number clocks.Realtime = 0
clock_number clocks.Monotonic = 1
clock_number clocks.MonotonicRaw = 4
clock_number clocks.RealtimeCoarse = 5
clock_number clocks.MonotonicCoarse = 6
clock_number clocks.Boottime = 7
clock_number clocks.Tai = 11

-- a read of a clock, and the value in ns that its record states, if it states one
abbrev pub read_storage : ℕ → ClockId → Option ℕ → RowStorage
read_storage reading clock None = record (blank 1 reading) { clock = clock_number clock }
read_storage reading clock (Some value) = record (blank 1 reading) {
  clock = clock_number clock;
  has_value = 1;
  value = value;
}

-- a change to a counter, which goes on from its reading `first`
abbrev pub change_storage : ℕ → Counter → ℕ → RowStorage
change_storage reading counter first = record (blank 2 reading) {
  bits = counter.bits;
  mult = counter.mult;
  shift = counter.shift;
  first = first;
}

-- a row
abbrev pub row_storage : Row → RowStorage
row_storage (Act reading cmd) = command_storage reading cmd
row_storage (Look reading clock expected) = read_storage reading clock expected
row_storage (Change reading counter first) = change_storage reading counter first
row_storage (Ask reading request) = record (blank 3 reading) { timex = request_storage request }

-- the answer for a line as the record with this number of a script: its row is written, or it has a
-- fault, and nothing is written
abbrev pub IsParsed : ℕ → List ℕ → RowStorage → RowStorage → ℕ → Type 0
IsParsed number line old new code = MatchBool (is_plain_line line)
    (MatchResult (row_of number (cut_at_commas line))
    (λ row. (code ≡ number_of Done) × (new ≡ row_storage row))
    (λ error. (code ≡ number_of (code_of_script error)) × (new ≡ old)))
    ((code ≡ number_of NotPlain) × (new ≡ old))
