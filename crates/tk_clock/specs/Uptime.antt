-- Clocks that are opened with an uptime: the time that they count as having run before.
use Rattle.std.specs.Prelude.{◌≡◌, ℕ, ◌*◌, ◌^◌, ℤ, pos, ◌-ℤ◌, unsigned_abs, Bool, not, ◌&&◌, int_le, int_lt, nat_lt, Option, Some, None, if◌then◌else◌}
use Rattle.tk_counter.specs.Counter.{Counter}
use Rattle.tk_clock.specs.declared.timespec.Timespec.{Timespec}
use Rattle.tk_clock.specs.declared.clock_id.ClockId.TheVariants.{Realtime, Monotonic, Boottime, Tai, MonotonicRaw}
use Rattle.tk_clock.specs.declared.refusal.Refusal.{Refusal}
use Rattle.tk_clock.specs.declared.refusal.Refusal.TheVariants.{Invalid, Range}
use Rattle.tk_clock.specs.Journal.{opened}
use Rattle.tk_clock.specs.Limits.{limit}
use Rattle.tk_clock.specs.Refusal.{first_of, opening_refusal}
use Rattle.tk_clock.specs.State.{ReadBase, State, state_of, base_value}
use Rattle.tk_clock.specs.Time.{nanoseconds}

-- whether a time can be an uptime: it is not before 0 s, and its part below a second is in range
abbrev pub is_uptime : Timespec → Bool
is_uptime uptime = int_le (pos 0) uptime.sec && nat_lt uptime.nsec (10 ^ 9)

-- why clocks can't have run for this long: it is no uptime, MONOTONIC would be at its limit or past
-- it, or REALTIME would be below MONOTONIC
abbrev pub uptime_refusal : Timespec → Timespec → Option Refusal
uptime_refusal real uptime =
    if not (is_uptime uptime) then Some Invalid
    else if not (int_lt (nanoseconds uptime) (limit Monotonic)) then Some Range
    else if int_lt (nanoseconds real) (nanoseconds uptime) then Some Invalid
    else None

-- why clocks can't be opened with an uptime; the tests of an opening come first
abbrev pub running_refusal : Counter → ℕ → Timespec → Timespec → Option Refusal
running_refusal counter reading real uptime =
    first_of (opening_refusal counter reading real) (uptime_refusal real uptime)

-- the base with MONOTONIC and MONOTONIC_RAW at an amount, in units of 2^-shift nanoseconds, and
-- REALTIME minus MONOTONIC, in nanoseconds
abbrev pub with_uptime : ReadBase → ℕ → ℤ → ReadBase
with_uptime base units real_offset =
    record base { amount = units; raw_amount = units; real_offset = real_offset }

-- clocks that are opened with an uptime: MONOTONIC and MONOTONIC_RAW have counted it, REALTIME is
-- as given, and all else is as in newly opened clocks
abbrev pub opened_running : Counter → ℕ → Timespec → Timespec → State
opened_running counter reading real uptime =
    let fresh = state_of (opened counter reading real) in
    record fresh {
      base = with_uptime fresh.base (unsigned_abs (nanoseconds uptime) * 2 ^ counter.shift)
          (nanoseconds real -ℤ nanoseconds uptime);
    }

-- the times of the clocks at the opening, in nanoseconds
pub record HasRun (base : ReadBase) (reading : ℕ) (real uptime : Timespec) : Type 0 where
  pub monotonic : base_value base Monotonic reading ≡ nanoseconds uptime
  pub raw : base_value base MonotonicRaw reading ≡ nanoseconds uptime
  pub boottime : base_value base Boottime reading ≡ nanoseconds uptime
  pub realtime : base_value base Realtime reading ≡ nanoseconds real
  pub tai : base_value base Tai reading ≡ nanoseconds real
