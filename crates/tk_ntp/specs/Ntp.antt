-- The state of a discipline (kernel/time/ntp.c).
use Rattle.std.specs.Prelude.{ℕ, ◌+◌, ◌/◌, ◌^◌, ◌<◌, ◌≤◌, ℤ, pos, ◌+ℤ◌, ◌*ℤ◌, unsigned_abs, bit_or, None}
use Rattle.tk_ntp.specs.declared.discipline.Discipline.TheInside.{Inside}
use Rattle.tk_ntp.specs.Bits.{sta_unsync}
use Rattle.tk_ntp.specs.Request.{error_limit, greatest_constant}
use Rattle.tk_ntp.specs.Leap.{LeapPlan, no_plan}
use Rattle.tk_ntp.specs.Length.{base_of, second_of, max_phase, max_frequency}

pub record Ntp : Type 0 where
  -- the parts of a second that phases are divided into: the kernel's ticks
  pub hz : ℕ
  -- the bits of the status
  pub status : ℕ
  -- the leap second
  pub plan : LeapPlan
  -- the phase still to give in each of hz parts, a length
  pub offset : ℤ
  -- the time constant of the PLL
  pub constant : ℕ
  -- the greatest and the estimated error, in microseconds
  pub maxerror : ℕ
  pub esterror : ℕ
  -- the tick, in microseconds
  pub tick : ℕ
  -- what each second gains, a length
  pub frequency : ℤ
  -- the second of REALTIME at the last offset
  pub reftime : ℕ
  -- what adjtime has still to give, in microseconds
  pub adjust : ℤ
  -- what each of hz parts of the present second gets beyond its base, a length
  pub phase : ℤ

-- the state that the fields of a discipline contain
abbrev pub ntp_of : Inside → Ntp
ntp_of a = record {
  hz = a.hz;
  status = a.status;
  plan = a.plan;
  offset = a.offset;
  constant = a.constant;
  maxerror = a.maxerror;
  esterror = a.esterror;
  tick = a.tick;
  frequency = a.frequency;
  reftime = a.reftime;
  adjust = a.adjust;
  phase = a.phase;
}

-- the ranges of a discipline's numbers
pub record IsNtp (ntp : Ntp) : Type 0 where
  pub hz_low : 0 < ntp.hz
  pub hz_high : ntp.hz ≤ 1024
  pub offset_short : unsigned_abs ntp.offset ≤ max_phase / ntp.hz
  pub constant_high : ntp.constant ≤ greatest_constant
  pub maxerror_high : ntp.maxerror ≤ error_limit
  pub esterror_high : ntp.esterror ≤ error_limit
  pub tick_low : 9000 ≤ ntp.tick
  pub tick_high : ntp.tick ≤ 11000
  pub frequency_low : unsigned_abs ntp.frequency ≤ max_frequency
  pub reftime_high : ntp.reftime < 2 ^ 63
  pub phase_short : unsigned_abs ntp.phase ≤ max_phase / ntp.hz + max_frequency / ntp.hz

-- a fresh discipline
abbrev pub fresh : ℕ → Ntp
fresh hz = record {
  hz = hz;
  status = sta_unsync;
  plan = no_plan;
  offset = pos 0;
  constant = 2;
  maxerror = error_limit;
  esterror = error_limit;
  tick = 10000;
  frequency = pos 0;
  reftime = 0;
  adjust = pos 0;
  phase = pos 0;
}

-- the state after REALTIME was set or stepped (ntp_clear): nothing is left to give, both errors are
-- at their limit, and the clock counts as not synchronized. The leap second keeps its state, but no
-- second at which it is due
abbrev pub cleared : Ntp → Ntp
cleared ntp = record ntp {
  status = bit_or ntp.status sta_unsync;
  plan = record { state = ntp.plan.state; due = None };
  offset = pos 0;
  maxerror = error_limit;
  esterror = error_limit;
  adjust = pos 0;
  phase = pos 0;
}

-- the length of a second at the tick and the frequency in force, without phase
abbrev pub plain_length : Ntp → ℤ
plain_length ntp = second_of ntp.tick ntp.frequency

-- the length of the present second: what the cycles of a nominal second shall add
abbrev pub second_length : Ntp → ℤ
second_length ntp =
    (pos (base_of ntp.hz ntp.tick ntp.frequency) +ℤ ntp.phase) *ℤ pos ntp.hz
