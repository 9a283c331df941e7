-- The entries that a discipline makes in a journal: the commands that it gives the clocks, unless
-- they refuse them.
use Rattle.std.specs.Prelude.{ℕ, pos, Bool, true, false, nat_eq, Option, Some, None, List, [], ◌∷◌, ◌++◌, if◌then◌else◌}
use Rattle.tk_clock.specs.declared.command.Command.{Command}
use Rattle.tk_clock.specs.declared.command.Command.TheVariants.{Step, Tai}
use Rattle.tk_clock.specs.declared.command.Entry.{Entry}
use Rattle.tk_clock.specs.declared.refusal.Refusal.{Refusal}
use Rattle.tk_clock.specs.declared.timespec.Timespec.{Timespec}
use Rattle.tk_clock.specs.Command.{is_resume}
use Rattle.tk_clock.specs.Limits.{sets_real}
use Rattle.tk_clock.specs.Refusal.{state_refusal}
use Rattle.tk_clock.specs.State.{State, effect}
use Rattle.tk_ntp.specs.declared.leap.Leap.{Leap}
use Rattle.tk_ntp.specs.declared.timex.Timex.{Timex}
use Rattle.tk_ntp.specs.Advance.{leap_of_clock, leapt, second_begun_at, tai_of_clock, with_next_second}
use Rattle.tk_ntp.specs.Asked.{accounted_if, changes_rate, forgotten, given_tai, real_at, second_after, tai_asked, with_asked, acts}
use Rattle.tk_ntp.specs.Change.{frequency_command, tick_command}
use Rattle.tk_ntp.specs.Late.{second_begun_late, with_late_second}
use Rattle.tk_ntp.specs.Leap.{is_leap}
use Rattle.tk_ntp.specs.Second.{leap_at}
use Rattle.tk_ntp.specs.Steering.{commands}
use Rattle.tk_ntp.specs.SteeredClock.{SteeredClock, given_any, rate_in_force}

-- the entry of a command, unless it is refused
abbrev pub unless : Option Refusal → Entry → List Entry
unless None entry = entry ∷ []
unless (Some refusal) entry = []

-- the entry of a caller's command at a reading, unless the clocks refuse it; the command may be
-- missing
abbrev pub made_of : ℕ → ℕ → Option Command → State → List Entry
made_of who reading None clock = []
made_of who reading (Some cmd) clock =
    unless (state_refusal clock reading cmd) (record { who = who; reading = reading; cmd = cmd })

-- the entries for the rate that the present second needs: the tick, and then the frequency
abbrev pub rate_entries : ℕ → ℕ → SteeredClock → List Entry
rate_entries who reading steered =
    let clock = steered.clock in
    let change = commands clock.base.counter (rate_in_force clock) steered.steering in
    let tick = tick_command change in
    made_of who reading tick clock
    ++ made_of who reading (frequency_command change) (given_any reading tick clock)

-- the entry of a leap
abbrev pub leap_entries : ℕ → ℕ → Leap → SteeredClock → List Entry
leap_entries who reading leap steered =
    made_of who reading
    (if is_leap leap then Some (leap_of_clock leap steered.clock) else None) steered.clock

-- the entries of a second that has just begun in the discipline: its leap, and then its rate
abbrev pub entries_of_second : ℕ → ℕ → Leap → SteeredClock → List Entry
entries_of_second who reading leap begun =
    leap_entries who reading leap begun ++ rate_entries who reading (leapt reading leap begun)

-- the reading of the commands of a second that is due at a reading `at`: its own, or that of the
-- call if it begins late
abbrev pub given_at : Bool → ℕ → ℕ → ℕ
given_at is_late reading at = if is_late then reading else at

-- the state as the next second, due at a reading `at`, begins, late or not, before any command
abbrev pub with_second : Bool → ℕ → ℕ → SteeredClock → SteeredClock
with_second true reading at = with_late_second at reading
with_second false reading at = with_next_second at

-- the state after the next second, due at a reading `at`, has begun, late or not
abbrev pub second_begun : Bool → ℕ → ℕ → SteeredClock → SteeredClock
second_begun true reading at = second_begun_late at reading
second_begun false reading at = second_begun_at at

-- the entries of the next second, due at a reading `at`, late or not
abbrev pub second_entries : Bool → ℕ → ℕ → ℕ → SteeredClock → List Entry
second_entries is_late who reading at steered =
    entries_of_second who (given_at is_late reading at)
    (leap_at steered.steering.ntp steered.next) (with_second is_late reading at steered)

-- the entries for the rate of the present second after clocks were set or woken, which left them as
-- `clock`
abbrev pub restart_entries : ℕ → ℕ → State → SteeredClock → List Entry
restart_entries who reading clock steered =
    rate_entries who reading
    (record steered { clock = clock; next = second_after clock; last_account = reading })

-- the entries that the discipline makes after an accepted command, which left the clocks as `clock`
abbrev pub entries_after : ℕ → ℕ → Command → State → SteeredClock → List Entry
entries_after who reading cmd clock steered =
    if sets_real cmd then restart_entries who reading clock (forgotten steered)
    else if is_resume cmd then restart_entries who reading clock steered
    else []

-- the entries of an accepted command
abbrev pub command_entries : ℕ → ℕ → Command → SteeredClock → List Entry
command_entries who reading cmd steered =
    record { who = who; reading = reading; cmd = cmd }
    ∷ entries_after who reading cmd (effect steered.clock reading cmd) steered

-- the entries of the accepted step that a request may ask for
abbrev pub step_entries : ℕ → ℕ → Option Timespec → SteeredClock → List Entry
step_entries who reading None steered = []
step_entries who reading (Some by) steered = command_entries who reading (Step by) steered

-- the entry of another TAI offset
abbrev pub tai_entries : ℕ → ℕ → ℕ → State → List Entry
tai_entries who reading tai clock =
    if nat_eq tai (tai_of_clock clock) then []
    else made_of who reading (Some (Tai (pos tai))) clock

-- the entries for the rate, if a test holds
abbrev pub rate_entries_if : Bool → ℕ → ℕ → SteeredClock → List Entry
rate_entries_if test who reading steered = if test then rate_entries who reading steered else []

-- the entries of an accepted request without a step: the TAI offset, and then the rate
abbrev pub request_entries : ℕ → ℕ → Timex → SteeredClock → List Entry
request_entries who reading request steered =
    let tai = tai_asked request steered in
    let moved = record steered { clock = given_tai reading tai steered.clock } in
    tai_entries who reading tai steered.clock
    ++ rate_entries_if (changes_rate request.modes) who reading
    (with_asked request (real_at reading steered.clock)
    (accounted_if (acts request.modes) reading moved))
