-- The part of a reply that shows a signal (is_error_status, pps_fill_timex, kernel/time/ntp.c, with
-- CONFIG_NTP_PPS).
use Rattle.std.specs.Prelude.{ℕ, ◌/◌, Bool, not, ◌&&◌, ◌||◌, pos, if◌then◌else◌}
use Rattle.tk_ntp.specs.declared.reply.Reply.{Reply}
use Rattle.tk_ntp.specs.declared.reply.TimeState.{TimeState}
use Rattle.tk_ntp.specs.declared.reply.TimeState.TheVariants.{Error}
use Rattle.tk_ntp.specs.declared.pps_reply.PpsReply.{PpsReply}
use Rattle.tk_ntp.specs.Bits.{has, sta_nano, sta_ppsfreq, sta_ppstime, sta_ppssignal, sta_ppsjitter, sta_ppswander, sta_ppserror}
use Rattle.tk_ntp.specs.Reply.{reply_freq}
use Rattle.tk_ntp.specs.Pps.{Pps}

-- whether the signal was asked for and isn't there
abbrev pub lacks_signal : ℕ → Bool
lacks_signal status =
    (has status sta_ppsfreq || has status sta_ppstime) && not (has status sta_ppssignal)

-- whether it sets the offset, and its last pulse is faulty
abbrev pub has_faulty_time : ℕ → Bool
has_faulty_time status = has status sta_ppstime && has status sta_ppsjitter

-- whether it sets the frequency, and its last interval is faulty
abbrev pub has_faulty_frequency : ℕ → Bool
has_faulty_frequency status =
    has status sta_ppsfreq && (has status sta_ppswander || has status sta_ppserror)

-- whether a status makes the state an error because of the signal
abbrev pub is_signal_error : ℕ → Bool
is_signal_error status =
    lacks_signal status || (has_faulty_time status || has_faulty_frequency status)

-- the clock's state in a reply, if its owner knows the signal
abbrev pub pps_state : Reply → TimeState
pps_state reply = if is_signal_error reply.timex.status then Error else reply.state

-- the mean jitter in a reply: in nanoseconds, or in microseconds rounded down
abbrev pub reply_jitter : ℕ → Pps → ℕ
reply_jitter status pps = if has status sta_nano then pps.jitter else pps.jitter / 1000

-- the fields of a reply that show the signal
abbrev pub pps_reply : Reply → Pps → PpsReply
pps_reply reply pps = record {
  state = pps_state reply;
  ppsfreq = reply_freq pps.frequency;
  jitter = pos (reply_jitter reply.timex.status pps);
  shift = pps.shift;
  stabil = pos pps.stabil;
  jitcnt = pos pps.jitcnt;
  calcnt = pos pps.calcnt;
  errcnt = pos pps.errcnt;
  stbcnt = pos pps.stbcnt;
}
