-- Why a command or a read is refused: the first test that fails.
use Rattle.std.specs.Prelude.{◌≡◌, ℕ, nat_le, length, ℤ, Bool, not, ◌&&◌, ◌||◌, nat_lt, int_lt, Option, Some, None, if◌then◌else◌}
use Rattle.tk_counter.specs.Counter.{Counter, mask, half, gap}
use Rattle.tk_clock.specs.declared.timespec.Timespec.{Timespec}
use Rattle.tk_clock.specs.declared.command.Entry.{Entry}
use Rattle.tk_clock.specs.declared.command.Command.{Command}
use Rattle.tk_clock.specs.declared.clock_id.ClockId.{ClockId}
use Rattle.tk_clock.specs.declared.refusal.Refusal.{Refusal}
use Rattle.tk_clock.specs.declared.refusal.Refusal.TheVariants.{Full, Asleep, Awake, Invalid, Behind, Range, Memory}
use Rattle.tk_clock.specs.declared.refusal.ReadError.{ReadError}
use Rattle.tk_clock.specs.declared.refusal.ReadError.TheVariants.{Invalid as InvalidReading, Range as PastLimit}
use Rattle.tk_clock.specs.Command.{is_resume}
use Rattle.tk_clock.specs.Journal.{Journal, followed_by, last_reading, is_asleep, accepted_count}
use Rattle.tk_clock.specs.Clocks.{clock_value}
use Rattle.tk_clock.specs.State.{ReadBase, State, base_value, effect}
use Rattle.tk_clock.specs.Limits.{limit, listed_most, counted_most, is_settable, is_well_formed, is_past_limit, is_bad_setting}

-- the first of two refusals, if there is one
abbrev pub first_of : Option Refusal → Option Refusal → Option Refusal
first_of (Some refusal) later = Some refusal
first_of None later = later

-- the refusal of a command because of sleep: while asleep, the clocks accept only a resume; while
-- awake, they accept no resume
abbrev pub sleep_refusal : Bool → Command → Option Refusal
sleep_refusal asleep cmd =
    if asleep && not (is_resume cmd) then Some Asleep
    else if not asleep && is_resume cmd then Some Awake
    else None

-- the refusal of a reading above the mask, or of a command whose numbers are out of range
abbrev pub number_refusal : Counter → ℕ → Command → Option Refusal
number_refusal counter reading cmd =
    if nat_lt (mask counter) reading || not (is_well_formed cmd) then Some Invalid else None

-- the refusal of a reading behind the last one, except for a resume
abbrev pub order_refusal : Counter → ℕ → ℕ → Command → Option Refusal
order_refusal counter last reading cmd =
    if not (is_resume cmd) && nat_lt (half counter) (gap counter last reading) then Some Behind
    else None

-- the refusal of a command that leaves a clock at its limit or past it, or that sets REALTIME to a
-- bad time, by the clocks' values at the reading before the command and after it
abbrev pub value_refusal : (ClockId → ℤ) → (ClockId → ℤ) → Command → Option Refusal
value_refusal before after cmd =
    if is_past_limit after cmd then Some Range
    else if is_bad_setting before cmd then Some Invalid
    else None

-- the first refusal of the tests that don't depend on a clock's value
abbrev pub early_refusal : Counter → Bool → ℕ → ℕ → Command → Option Refusal
early_refusal counter asleep last reading cmd =
    first_of (sleep_refusal asleep cmd)
    (first_of (number_refusal counter reading cmd) (order_refusal counter last reading cmd))

-- why the clocks' own tests refuse an entry after a journal; the test for a full journal is not
-- one of them
abbrev pub clock_refusal : Journal → Entry → Option Refusal
clock_refusal journal entry =
    first_of
    (early_refusal journal.opening.counter (is_asleep journal) (last_reading journal) entry.reading
    entry.cmd)
    (value_refusal (λ clock. clock_value journal clock entry.reading)
    (λ clock. clock_value (followed_by journal entry) clock entry.reading) entry.cmd)

-- the refusal of a command in a state by the tests of the clocks' values
abbrev pub state_value_refusal : State → ℕ → Command → Option Refusal
state_value_refusal state reading cmd =
    value_refusal (λ clock. base_value state.base clock reading)
    (λ clock. base_value (effect state reading cmd).base clock reading) cmd

-- why a command is refused in a state
abbrev pub state_refusal : State → ℕ → Command → Option Refusal
state_refusal state reading cmd =
    first_of
    (early_refusal state.base.counter state.base.asleep state.base.last reading cmd)
    (state_value_refusal state reading cmd)

-- whether the journal is full: it lists or counts the most entries that it may
abbrev pub is_full : Journal → Bool
is_full journal =
    nat_le listed_most (length journal.entries) || nat_le counted_most (accepted_count journal)

-- why an entry is refused after a journal; the test for a full journal comes first
abbrev pub first_refusal : Journal → Entry → Option Refusal
first_refusal journal entry = if is_full journal then Some Full else clock_refusal journal entry

-- whether this is the refusal of an entry; it is `Memory` only if no test fails
abbrev pub IsRefusal : Journal → Entry → Refusal → Type 0
IsRefusal journal entry Memory = first_refusal journal entry ≡ None
IsRefusal journal entry refusal = first_refusal journal entry ≡ Some refusal

-- why clocks can't be opened: the reading is above the mask, or REALTIME can't be set to the time
abbrev pub opening_refusal : Counter → ℕ → Timespec → Option Refusal
opening_refusal counter reading real =
    if nat_lt (mask counter) reading || not (is_settable real) then Some Invalid else None

-- why a clock can't be read: the reading is above the mask, or the clock is at its limit or past it
abbrev pub read_refusal : ReadBase → ClockId → ℕ → Option ReadError
read_refusal base clock reading =
    if nat_lt (mask base.counter) reading then Some InvalidReading
    else if not (int_lt (base_value base clock reading) (limit clock)) then Some PastLimit
    else None

-- the refusal of a command that has the same reason as the refusal of a read
abbrev pub refusal_of : ReadError → Refusal
refusal_of InvalidReading = Invalid
refusal_of PastLimit = Range
