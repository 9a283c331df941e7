-- A signal of a pulse per second, as a C caller keeps it next to steered clocks.
use Rattle.std.specs.Prelude.{ℕ, Bool, true, false, pos, if◌then◌else◌}
use Rattle.tk_ntp.specs.declared.reply.TimeState.TheVariants.{Error}
use Rattle.tk_ntp.specs.Pps.{Pps}
use Rattle.tk_ntp.specs.PpsReply.{is_signal_error, reply_jitter}
use Rattle.tk_ntp.specs.Pulsed.{with_lost}
use Rattle.tk_ntp.specs.Reply.{reply_freq}
use Rattle.tk_c.specs.declared.counted_ntp.SteeredCount.{SteeredCount}
use Rattle.tk_c.specs.declared.pps_storage.PpsStorage.{PpsStorage}
use Rattle.tk_c.specs.declared.timex.KernelTimex.{KernelTimex}
use Rattle.tk_c.specs.Timex.{state_number}

-- the fields that are written to C's storage for the state of a signal
abbrev pub pps_storage : Pps → PpsStorage
pps_storage pps = record {
  valid = pps.valid;
  shift = pps.shift;
  jitter = pps.jitter;
  stabil = pps.stabil;
  correction = pps.correction;
  balance = pps.balance;
  frequency = pps.frequency;
  start = pps.start;
  calcnt = pps.calcnt;
  jitcnt = pps.jitcnt;
  stbcnt = pps.stbcnt;
  errcnt = pps.errcnt;
}

-- the clocks after the signal was lost, if it was
abbrev pub lost_if : Bool → SteeredCount → SteeredCount
lost_if true counted = record counted { steered = with_lost counted.steered }
lost_if false counted = counted

-- a reply with the fields of a signal (pps_fill_timex, kernel/time/ntp.c)
abbrev pub shown : KernelTimex → Pps → KernelTimex
shown timex pps = record timex {
  ppsfreq = reply_freq pps.frequency;
  jitter = pos (reply_jitter timex.status pps);
  shift = pos pps.shift;
  stabil = pos pps.stabil;
  jitcnt = pos pps.jitcnt;
  calcnt = pos pps.calcnt;
  errcnt = pos pps.errcnt;
  stbcnt = pos pps.stbcnt;
}

-- the number of the clock's state in it: a status may make it an error because of the signal
abbrev pub shown_state : ℕ → ℕ → ℕ
shown_state status state = if is_signal_error status then state_number Error else state
