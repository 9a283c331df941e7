-- The session before its first record.
use Rattle.std.specs.Prelude.{false, pos}
use Rattle.tk_clock.specs.Limits.{listed_most}
use Rattle.tk_clock.specs.declared.timespec.Timespec.{Timespec}
use Rattle.tk_counter.specs.Counter.{Counter}
use Rattle.tk_ntp.specs.Course.{course_of}
use Rattle.tk_ntp.specs.SteeredClock.{SteeredClock, steered_opened}
use Rattle.tk_session.specs.Session.{Session}

-- the counter of its clocks: a reading has 64 bits, and a cycle lasts 1 ns
abbrev pub idle_counter : Counter
idle_counter = record { bits = 64; mult = 16777216; shift = 24 }

-- REALTIME of its clocks
abbrev pub epoch : Timespec
epoch = record { sec = pos 0; nsec = 0 }

-- its clocks at reading 0, and the discipline that doesn't steer them
abbrev pub idle : SteeredClock
idle = steered_opened idle_counter 0 epoch 100

-- a session that no record has opened
abbrev pub closed : Session
closed = record {
  clocks = record { clock = idle.clock; count = 0; since = 0; most = listed_most };
  course = course_of idle;
  is_steered = false;
  records = 0;
  differences = 0;
}
