-- The bits of `status` and of `modes` (adjtimex(2), include/uapi/linux/timex.h).
use Rattle.std.specs.Prelude.{ℕ, Bool, not, nat_eq, bit_and}
use Rattle.std.specs.Int.{bit_not, w32}

-- whether a word has a bit of a mask
abbrev pub has : ℕ → ℕ → Bool
has word mask = not (nat_eq (bit_and word mask) 0)

-- a word without the bits of a mask
abbrev pub without : ℕ → ℕ → ℕ
without word mask = bit_and word (bit_not w32 mask)

-- offsets steer the clock
abbrev pub sta_pll : ℕ
sta_pll = 0x1

-- the pulses of a signal set the frequency
abbrev pub sta_ppsfreq : ℕ
sta_ppsfreq = 0x2

-- the pulses of a signal set the offset
abbrev pub sta_ppstime : ℕ
sta_ppstime = 0x4

-- late offsets steer by the FLL
abbrev pub sta_fll : ℕ
sta_fll = 0x8

-- a second is to be inserted at the end of the day
abbrev pub sta_ins : ℕ
sta_ins = 0x10

-- the last second of the day is to be deleted
abbrev pub sta_del : ℕ
sta_del = 0x20

-- the clock is not synchronized
abbrev pub sta_unsync : ℕ
sta_unsync = 0x40

-- offsets leave the frequency as it is
abbrev pub sta_freqhold : ℕ
sta_freqhold = 0x80

-- a pulse has come in the last seconds
abbrev pub sta_ppssignal : ℕ
sta_ppssignal = 0x100

-- the last pulse came at a wrong time, or its offset was far from the one before
abbrev pub sta_ppsjitter : ℕ
sta_ppsjitter = 0x200

-- the frequency changed too much at the last pulse
abbrev pub sta_ppswander : ℕ
sta_ppswander = 0x400

-- the last pulse ended an interval that was too long
abbrev pub sta_ppserror : ℕ
sta_ppserror = 0x800

-- the clock's hardware is at fault
abbrev pub sta_clockerr : ℕ
sta_clockerr = 0x1000

-- offsets and times are in nanoseconds
abbrev pub sta_nano : ℕ
sta_nano = 0x2000

-- the last offset steered by the FLL
abbrev pub sta_mode : ℕ
sta_mode = 0x4000

-- the bits that no request changes by its status (STA_RONLY)
abbrev pub sta_ronly : ℕ
sta_ronly = 0xff00

-- `offset` is given
abbrev pub adj_offset : ℕ
adj_offset = 0x1

-- `freq` is given
abbrev pub adj_frequency : ℕ
adj_frequency = 0x2

-- `maxerror` is given
abbrev pub adj_maxerror : ℕ
adj_maxerror = 0x4

-- `esterror` is given
abbrev pub adj_esterror : ℕ
adj_esterror = 0x8

-- `status` is given
abbrev pub adj_status : ℕ
adj_status = 0x10

-- `constant` is the time constant
abbrev pub adj_timeconst : ℕ
adj_timeconst = 0x20

-- `constant` is the TAI offset
abbrev pub adj_tai : ℕ
adj_tai = 0x80

-- REALTIME is stepped by the time
abbrev pub adj_setoffset : ℕ
adj_setoffset = 0x100

-- offsets and times are in microseconds from now on
abbrev pub adj_micro : ℕ
adj_micro = 0x1000

-- offsets and times are in nanoseconds from now on
abbrev pub adj_nano : ℕ
adj_nano = 0x2000

-- `tick` is given
abbrev pub adj_tick : ℕ
adj_tick = 0x4000

-- the old call adjtime (ADJ_ADJTIME)
abbrev pub adj_adjtime : ℕ
adj_adjtime = 0x8000

-- the old call adjtime only reads (ADJ_OFFSET_READONLY)
abbrev pub adj_readonly : ℕ
adj_readonly = 0x2000
