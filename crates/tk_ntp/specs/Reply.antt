-- The reply to a request (__do_adjtimex, kernel/time/ntp.c).
use Rattle.std.specs.Prelude.{◌≡◌, true, false, ℕ, ◌/◌, ◌^◌, ℤ, pos, ◌*ℤ◌, unsigned_abs, if◌then◌else◌}
use Rattle.std.specs.Int.{int_div_euclid}
use Rattle.tk_counter.specs.Counter.{clamped}
use Rattle.tk_clock.specs.declared.timespec.Timespec.{Timespec}
use Rattle.tk_ntp.specs.declared.timex.Timex.{Timex}
use Rattle.tk_ntp.specs.declared.reply.Reply.{Reply}
use Rattle.tk_ntp.specs.declared.reply.TimeState.{TimeState}
use Rattle.tk_ntp.specs.declared.reply.TimeState.TheVariants.{Ok, Ins, Del, Oop, Wait, Error}
use Rattle.tk_ntp.specs.declared.leap_plan.LeapState.{LeapState}
use Rattle.tk_ntp.specs.declared.leap_plan.LeapState.TheVariants.{Idle, Inserting, Deleting, InProgress, Over}
use Rattle.tk_ntp.specs.Bits.{has, sta_nano, adj_offset, adj_frequency, adj_adjtime}
use Rattle.tk_ntp.specs.Length.{one, toward_zero}
use Rattle.tk_ntp.specs.Ntp.{Ntp}
use Rattle.tk_ntp.specs.Modes.{requested, asked, asked_tai}

-- the phase still to give, in nanoseconds or in microseconds
abbrev pub reply_offset : Ntp → ℤ
reply_offset ntp =
    let nanos = toward_zero (ntp.offset *ℤ pos ntp.hz) one in
    if has ntp.status sta_nano then nanos else toward_zero nanos 1000

-- a frequency in 2^-16 ppm: the first division rounds down, the second toward zero
-- (PPM_SCALE_INV)
abbrev pub reply_freq : ℤ → ℤ
reply_freq frequency =
    toward_zero (int_div_euclid frequency (pos (2 ^ 19)) *ℤ pos 34359739) one

-- the name of the leap second's state
abbrev pub named : LeapState → TimeState
named Idle = Ok
named Inserting = Ins
named Deleting = Del
named InProgress = Oop
named Over = Wait

-- the bits of a status that make the state an error: STA_UNSYNC and STA_CLOCKERR
abbrev pub error_bits : ℕ
error_bits = 0x1040

-- the clock's state (is_error_status)
abbrev pub reply_state : Ntp → TimeState
reply_state ntp = if has ntp.status error_bits then Error else named ntp.plan.state

-- the part of a second in a reply: in nanoseconds, or in microseconds rounded down
abbrev pub reply_sub : Ntp → ℕ → ℤ
reply_sub ntp nsec = if has ntp.status sta_nano then pos nsec else pos (nsec / 1000)

-- the reply with an offset, at a time of REALTIME and a TAI offset
abbrev pub reply_with : ℕ → ℤ → Timespec → ℕ → Ntp → Reply
reply_with modes offset real tai ntp = record {
  state = reply_state ntp;
  tai = tai;
  timex = record {
    modes = modes;
    offset = offset;
    freq = reply_freq ntp.frequency;
    maxerror = pos ntp.maxerror;
    esterror = pos ntp.esterror;
    status = ntp.status;
    constant = pos ntp.constant;
    tick = pos ntp.tick;
    sec = real.sec;
    sub = reply_sub ntp real.nsec;
  };
}

-- the offset of the reply to a request: what adjtime had left, or the phase still to give
abbrev pub asked_offset : Timex → ℕ → Ntp → ℤ
asked_offset request now ntp =
    if has request.modes adj_adjtime then ntp.adjust else reply_offset (requested request now ntp)

-- the reply to a request at a time of REALTIME and a TAI offset
abbrev pub reply_to : Timex → Timespec → ℕ → Ntp → Reply
reply_to request real tai ntp =
    let now = unsigned_abs real.sec in
    reply_with request.modes (asked_offset request now ntp) real (asked_tai request tai)
    (asked request now ntp)

-- a frequency that is given without an offset reads back exactly, clamped to its limits
abbrev pub ReadsBack : Timex → Reply → Type 0
ReadsBack request reply =
    has request.modes adj_frequency ≡ true → has request.modes adj_offset ≡ false →
    reply.timex.freq ≡ clamped request.freq
