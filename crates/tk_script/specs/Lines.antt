-- The lines of a report.
use Rattle.std.specs.Prelude.{◌≡◌, ℕ, ◌<◌, List, ◌++◌, codes, decimal, pos, unsigned_abs}
use Rattle.tk_counter.specs.Counter.{Counter}
use Rattle.tk_clock.specs.declared.timespec.Timespec.{Timespec}
use Rattle.tk_clock.specs.declared.clock_id.ClockId.{ClockId}
use Rattle.tk_clock.specs.declared.clock_id.ClockId.TheVariants.{Realtime, RealtimeCoarse}
use Rattle.tk_clock.specs.declared.refusal.Refusal.{Refusal}
use Rattle.tk_script.specs.Word.{clock_name, refusal_name}
use Rattle.tk_script.specs.Utc.{nine_digits, IsUtcText}
use Rattle.tk_clock.specs.Limits.{clock_end}

-- a time that can be written: 0 to 9,223,372,035 seconds, and fewer than 10^9 nanoseconds
abbrev pub IsWritable : Timespec → Type 0
IsWritable time =
    (unsigned_abs time.sec < clock_end) × (time.sec ≡ pos (unsigned_abs time.sec))
    × (time.nsec < 1000000000)

-- a time in text: seconds, a dot, and nanoseconds as nine digits
abbrev pub time_text : Timespec → List ℕ
time_text time = decimal (unsigned_abs time.sec) ++ codes "." ++ nine_digits time.nsec

-- the line of the opening: `open,BITS,MULT,SHIFT`
abbrev pub open_line : Counter → List ℕ
open_line counter =
    codes "open," ++ decimal counter.bits ++ codes "," ++ decimal counter.mult
    ++ codes "," ++ decimal counter.shift
    ++ codes "\n"

-- the line of an accepted command, with the number of its entry: `ok,NUMBER,TIME`
abbrev pub ok_line : ℕ → Timespec → List ℕ
ok_line n time = codes "ok," ++ decimal n ++ codes "," ++ time_text time ++ codes "\n"

-- the line of a refused command or read: `no,WORD`
abbrev pub no_line : Refusal → List ℕ
no_line refusal = codes "no," ++ refusal_name refusal ++ codes "\n"

-- the line after that of a read which does not give the expected value, in ns: `differs,RECORD,VALUE`
abbrev pub differs_line : ℕ → ℕ → List ℕ
differs_line row value =
    codes "differs," ++ decimal row ++ codes "," ++ decimal value ++ codes "\n"

-- a clock's time, without the end of the line: `at,CLOCK,TIME`
abbrev pub at_text : ClockId → Timespec → List ℕ
at_text clock time = codes "at," ++ clock_name clock ++ codes "," ++ time_text time

-- the line of a clock's time with the same time as UTC text: `at,CLOCK,TIME,UTC`
abbrev pub IsUtcLine : ClockId → Timespec → List ℕ → Type 0
IsUtcLine clock time text = (utc : List ℕ) × IsUtcText (unsigned_abs time.sec) time.nsec utc
    × (text ≡ at_text clock time ++ codes "," ++ utc ++ codes "\n")

-- the line of a clock's time: with UTC text for the clocks that count from 1970, and without it for
-- the others
abbrev pub IsAtLine : ClockId → Timespec → List ℕ → Type 0
IsAtLine Realtime time text = IsUtcLine Realtime time text
IsAtLine RealtimeCoarse time text = IsUtcLine RealtimeCoarse time text
IsAtLine clock time text = text ≡ at_text clock time ++ codes "\n"

-- a text is followed by the line of a clock's time
abbrev pub AppendsAtLine : ClockId → Timespec → List ℕ → List ℕ → Type 0
AppendsAtLine clock time old new =
    (text : List ℕ) × (new ≡ old ++ text) × IsAtLine clock time text
