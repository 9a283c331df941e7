-- A second of REALTIME begins (second_overflow, kernel/time/ntp.c).
use Rattle.std.specs.Prelude.{ℕ, ◌+◌, ◌≤◌, min, pos, ◌+ℤ◌, ◌-ℤ◌, ◌*ℤ◌, unsigned_abs, bit_or, nat_lt, if◌then◌else◌}
use Rattle.tk_ntp.specs.declared.leap.Leap.{Leap}
use Rattle.tk_ntp.specs.Bits.{has, sta_ins, sta_del, sta_unsync}
use Rattle.tk_ntp.specs.Request.{error_limit}
use Rattle.tk_ntp.specs.Leap.{plan_in, leap_in}
use Rattle.tk_ntp.specs.Length.{max_frequency}
use Rattle.tk_ntp.specs.Phase.{part_of, adjust_part, adjust_rest}
use Rattle.tk_ntp.specs.Ntp.{Ntp, plain_length, second_length}

-- the leap second moves on
abbrev pub with_plan : Ntp → ℕ → Ntp
with_plan ntp sec = record ntp {
  plan = plan_in ntp.plan.state ntp.plan (has ntp.status sta_ins) (has ntp.status sta_del) sec;
}

-- the leap that comes with the second
abbrev pub leap_at : Ntp → ℕ → Leap
leap_at ntp sec =
    leap_in ntp.plan.state ntp.plan (has ntp.status sta_ins) (has ntp.status sta_del) sec

-- the greatest error after a second: 500 microseconds more (MAXFREQ / NSEC_PER_USEC)
abbrev pub grown : ℕ → ℕ
grown maxerror = maxerror + 500

-- the greatest error grows; at its limit the clock counts as not synchronized
abbrev pub with_error : Ntp → Ntp
with_error ntp = record ntp {
  maxerror = min (grown ntp.maxerror) error_limit;
  status =
      if nat_lt error_limit (grown ntp.maxerror) then bit_or ntp.status sta_unsync
      else ntp.status;
}

-- the second gets its phase: a part of the offset, and of what adjtime has still to give
abbrev pub with_phase : Ntp → Ntp
with_phase ntp = record ntp {
  phase = part_of ntp.offset ntp.constant ntp.status +ℤ adjust_part ntp.adjust ntp.hz;
  offset = ntp.offset -ℤ part_of ntp.offset ntp.constant ntp.status;
  adjust = adjust_rest ntp.adjust;
}

-- the state after a second has begun
abbrev pub begun : Ntp → ℕ → Ntp
begun ntp sec = with_error (with_phase (with_plan ntp sec))

-- the second that began is as long as the tick and the frequency make it, plus the part of the
-- offset that it gives, up to 500 microseconds for adjtime and hz units of 2^-32 ns for rounding
abbrev pub IsAsLong : Ntp → Ntp → Type 0
IsAsLong before after =
    unsigned_abs
    (second_length after
    -ℤ (plain_length before
    +ℤ part_of before.offset before.constant before.status *ℤ pos before.hz))
    ≤ max_frequency + before.hz
