-- A request and its reply in C, in the fields of struct timex (adjtimex(2),
-- include/uapi/linux/timex.h).
use Rattle.std.specs.Prelude.{ℕ, pos}
use Rattle.tk_ntp.specs.declared.timex.Timex.{Timex}
use Rattle.tk_ntp.specs.declared.reply.Reply.{Reply}
use Rattle.tk_ntp.specs.declared.reply.TimeState.{TimeState}
use Rattle.tk_ntp.specs.declared.pps_reply.PpsReply.{PpsReply}
use Rattle.tk_ntp.specs.declared.reply.TimeState.TheVariants.{Ok, Ins, Del, Oop, Wait, Error}
use Rattle.tk_c.specs.declared.timex.KernelTimex.{KernelTimex}

-- the request in a struct: no other field of it counts
abbrev pub request_of : KernelTimex → Timex
request_of timex = record {
  modes = timex.modes;
  offset = timex.offset;
  freq = timex.freq;
  maxerror = timex.maxerror;
  esterror = timex.esterror;
  status = timex.status;
  constant = timex.constant;
  tick = timex.tick;
  sec = timex.sec;
  sub = timex.sub;
}

-- the fields of the pulse per second are those of a signal (pps_fill_timex)
abbrev pub shown_reply : KernelTimex → PpsReply → KernelTimex
shown_reply timex reply = record timex {
  ppsfreq = reply.ppsfreq;
  jitter = reply.jitter;
  shift = pos reply.shift;
  stabil = reply.stabil;
  jitcnt = reply.jitcnt;
  calcnt = reply.calcnt;
  errcnt = reply.errcnt;
  stbcnt = reply.stbcnt;
}

-- the fields of the pulse per second are 0, for clocks without a signal
abbrev pub without_pulse : KernelTimex → KernelTimex
without_pulse timex = record timex {
  ppsfreq = pos 0;
  jitter = pos 0;
  shift = pos 0;
  stabil = pos 0;
  jitcnt = pos 0;
  calcnt = pos 0;
  errcnt = pos 0;
  stbcnt = pos 0;
}

-- the struct after a reply: modes and the padding stay as they were (__do_adjtimex). The precision
-- is 1 us, and the tolerance 500 ppm
abbrev pub answered : KernelTimex → Reply → KernelTimex
answered timex reply = record (without_pulse timex) {
  offset = reply.timex.offset;
  freq = reply.timex.freq;
  maxerror = reply.timex.maxerror;
  esterror = reply.timex.esterror;
  status = reply.timex.status;
  constant = reply.timex.constant;
  precision = pos 1;
  tolerance = pos 32768000;
  sec = reply.timex.sec;
  sub = reply.timex.sub;
  tick = reply.timex.tick;
  tai = reply.tai;
}

-- the number of a clock's state: the result of adjtimex(2)
abbrev pub state_number : TimeState → ℕ
state_number Ok = 0
state_number Ins = 1
state_number Del = 2
state_number Oop = 3
state_number Wait = 4
state_number Error = 5
