-- Commands and requests to steered clocks, after the seconds up to their reading have begun
-- (do_settimeofday64, do_adjtimex, kernel/time/timekeeping.c).
use Rattle.std.specs.Prelude.{◌≡◌, ℕ, ◌+◌, ◌/◌, ◌^◌, ⊤, pos, Bool, not, ◌&&◌, nat_eq, unsigned_abs, Option, Some, None, option_map, Result, Err, MatchOption, MatchResult, if◌then◌else◌}
use Rattle.tk_clock.specs.declared.command.Command.{Command}
use Rattle.tk_clock.specs.declared.command.Command.TheVariants.{Step, Tai}
use Rattle.tk_clock.specs.declared.clock_id.ClockId.TheVariants.{Realtime}
use Rattle.tk_clock.specs.declared.refusal.Refusal.{Refusal}
use Rattle.tk_clock.specs.declared.refusal.Refusal.TheVariants.{Invalid}
use Rattle.tk_clock.specs.declared.timespec.Timespec.{Timespec}
use Rattle.tk_clock.specs.Command.{is_resume}
use Rattle.tk_clock.specs.Limits.{sets_real}
use Rattle.tk_clock.specs.Refusal.{first_of, state_refusal, read_refusal, refusal_of}
use Rattle.tk_clock.specs.State.{State, base_value, effect}
use Rattle.tk_clock.specs.Time.{timespec_of}
use Rattle.tk_ntp.specs.declared.timex.Timex.{Timex}
use Rattle.tk_ntp.specs.declared.reply.Reply.{Reply}
use Rattle.tk_ntp.specs.Advance.{IsAdvanced, tai_of_clock}
use Rattle.tk_ntp.specs.Bits.{has, adj_adjtime}
use Rattle.tk_ntp.specs.Fault.{is_faulty}
use Rattle.tk_ntp.specs.Modes.{asked, asked_tai}
use Rattle.tk_ntp.specs.Ntp.{cleared}
use Rattle.tk_ntp.specs.Reply.{reply_to}
use Rattle.tk_ntp.specs.Request.{step_of}
use Rattle.tk_ntp.specs.SteeredClock.{SteeredClock, reading_refusal, accounted_to, given, steered_at}

-- the second of REALTIME that begins next, by clocks that a command has just changed
abbrev pub second_after : State → ℕ
second_after clock = unsigned_abs (base_value clock.base Realtime clock.base.last) / 10 ^ 9 + 1

-- the state with clocks that were set or woken at a reading: the seconds that REALTIME jumped over
-- never begin, and its present second gets the rate that it needs
abbrev pub restarted : ℕ → State → SteeredClock → SteeredClock
restarted reading clock steered =
    steered_at reading
    (record steered { clock = clock; next = second_after clock; last_account = reading })

-- the state after the discipline has forgotten what steers the clocks (ntp_clear)
abbrev pub forgotten : SteeredClock → SteeredClock
forgotten steered = record steered {
  steering = record { ntp = cleared steered.steering.ntp; lag = pos 0 };
}

-- the state after a command that the clocks accepted, which left them as `clock`
abbrev pub after_command : ℕ → Command → State → SteeredClock → SteeredClock
after_command reading cmd clock steered =
    if sets_real cmd then restarted reading clock (forgotten steered)
    else if is_resume cmd then restarted reading clock steered
    else record (accounted_to reading steered) { clock = clock }

-- the result of a command at a reading, and the state after it: a refused command changes nothing
abbrev pub IsCommanded : ℕ → Command → SteeredClock → Result ⊤ Refusal → SteeredClock →
    Type 0
IsCommanded reading cmd before result after =
    MatchResult result
    (λ _. (state_refusal before.clock reading cmd ≡ None)
    × (after ≡ after_command reading cmd (effect before.clock reading cmd) before))
    (λ refusal. (state_refusal before.clock reading cmd ≡ Some refusal) × (after ≡ before))

-- the refusal of the step that a request may ask for
abbrev pub step_refusal : ℕ → Option Timespec → SteeredClock → Option Refusal
step_refusal reading None steered = None
step_refusal reading (Some by) steered = state_refusal steered.clock reading (Step by)

-- the state after that step (ADJ_SETOFFSET)
abbrev pub stepped : ℕ → Option Timespec → SteeredClock → SteeredClock
stepped reading None steered = steered
stepped reading (Some by) steered =
    after_command reading (Step by) (effect steered.clock reading (Step by)) steered

-- the refusal of another TAI offset; the one in force needs no command
abbrev pub tai_refusal : ℕ → ℕ → State → Option Refusal
tai_refusal reading tai clock =
    if nat_eq tai (tai_of_clock clock) then None else state_refusal clock reading (Tai (pos tai))

-- the clocks with another TAI offset, unless it is in force
abbrev pub given_tai : ℕ → ℕ → State → State
given_tai reading tai clock =
    if nat_eq tai (tai_of_clock clock) then clock else given reading (Tai (pos tai)) clock

-- the TAI offset after a request
abbrev pub tai_asked : Timex → SteeredClock → ℕ
tai_asked request steered = asked_tai request (tai_of_clock steered.clock)

-- whether the modes of a request act on the discipline: there are some, and the request isn't the
-- old call adjtime
abbrev pub acts : ℕ → Bool
acts modes = not (nat_eq modes 0) && not (has modes adj_adjtime)

-- ADJ_OFFSET, ADJ_FREQUENCY and ADJ_TICK
abbrev pub rate_modes : ℕ
rate_modes = 0x4003

-- whether the present second gets another rate at once
abbrev pub changes_rate : ℕ → Bool
changes_rate modes = has modes rate_modes && not (has modes adj_adjtime)

-- REALTIME at a reading
abbrev pub real_at : ℕ → State → Timespec
real_at reading clock = timespec_of (unsigned_abs (base_value clock.base Realtime reading))

-- the state with the lag accounted for, if a test holds
abbrev pub accounted_if : Bool → ℕ → SteeredClock → SteeredClock
accounted_if test reading steered = if test then accounted_to reading steered else steered

-- the state with the rate that the present second needs, if a test holds
abbrev pub steered_if : Bool → ℕ → SteeredClock → SteeredClock
steered_if test reading steered = if test then steered_at reading steered else steered

-- the state after the discipline has done what a request asks for at a time of REALTIME
abbrev pub with_asked : Timex → Timespec → SteeredClock → SteeredClock
with_asked request real steered = record steered {
  steering = record steered.steering {
    ntp = asked request (unsigned_abs real.sec) steered.steering.ntp;
  };
}

-- the state after a request without a step
abbrev pub after_request : ℕ → Timex → Timespec → SteeredClock → SteeredClock
after_request reading request real steered =
    steered_if (changes_rate request.modes) reading
    (with_asked request real (accounted_if (acts request.modes) reading steered))

-- why REALTIME can't be read at a reading
abbrev pub real_refusal : ℕ → State → Option Refusal
real_refusal reading clock = option_map refusal_of (read_refusal clock.base Realtime reading)

-- the refusal of a request without a step: REALTIME is past its limit, or the clocks refuse the TAI
-- offset
abbrev pub request_refusal : ℕ → Timex → SteeredClock → Option Refusal
request_refusal reading request steered =
    first_of (real_refusal reading steered.clock)
    (tai_refusal reading (tai_asked request steered) steered.clock)

-- the result of a request without a step, and the state after it
abbrev pub IsRequested : ℕ → Timex → SteeredClock → Result Reply Refusal → SteeredClock → Type 0
IsRequested reading request before result after =
    let real = real_at reading before.clock in
    MatchResult result
    (λ reply. (request_refusal reading request before ≡ None)
    × (reply ≡ reply_to request real (tai_of_clock before.clock) before.steering.ntp)
    × (after ≡ after_request reading request real
    (record before { clock = given_tai reading (tai_asked request before) before.clock })))
    (λ refusal. (request_refusal reading request before ≡ Some refusal) × (after ≡ before))

-- the result of a request, and the state after it: first the step, then all else
abbrev pub IsAsked : ℕ → Timex → SteeredClock → Result Reply Refusal → SteeredClock → Type 0
IsAsked reading request before result after =
    MatchOption (step_refusal reading (step_of request) before)
    (IsRequested reading request (stepped reading (step_of request) before) result after)
    (λ refusal. (result ≡ Err refusal) × (after ≡ before))

-- the refusal of a request before anything changes: its own fault, then the reading's
abbrev pub first_fault : ℕ → Timex → SteeredClock → Option Refusal
first_fault reading request steered =
    first_of (if is_faulty request then Some Invalid else None)
    (reading_refusal reading steered)

-- the result of a request at a reading, and the state after it: the seconds up to the reading begin
-- first
abbrev pub IsAnswered : ℕ → Timex → SteeredClock → Result Reply Refusal → SteeredClock → Type 0
IsAnswered reading request before result after =
    MatchOption (first_fault reading request before)
    ((advanced : SteeredClock) × IsAdvanced reading before advanced
    × IsAsked reading request advanced result after)
    (λ refusal. (result ≡ Err refusal) × (after ≡ before))
