-- A change of counter of steered clocks: the discipline goes on, and what the clocks lag behind is
-- carried over (change_clocksource, kernel/time/timekeeping.c, which drops it).
use Rattle.std.specs.Prelude.{◌≡◌, ℕ, ◌-◌, ◌^◌, ⊤, Bool, true, false, nat_le, ℤ, pos, ◌*ℤ◌, Option, Some, None, Result, Err, MatchOption, MatchResult, if◌then◌else◌}
use Rattle.std.specs.Int.{int_div_euclid}
use Rattle.tk_counter.specs.Counter.{Counter}
use Rattle.tk_clock.specs.declared.refusal.Refusal.{Refusal}
use Rattle.tk_clock.specs.ChangeCounter.{changed, change_refusal, reading_refusal}
use Rattle.tk_clock.specs.Refusal.{first_of}
use Rattle.tk_clock.specs.State.{State}
use Rattle.tk_ntp.specs.Advance.{IsAdvanced}
use Rattle.tk_ntp.specs.Lag.{greatest_lag}
use Rattle.tk_ntp.specs.Loops.{clamped_by}
use Rattle.tk_ntp.specs.SteeredClock as steered_clock
use Rattle.tk_ntp.specs.SteeredClock.{SteeredClock, accounted_to}

-- a lag of units of 2^-from nanoseconds, in units of 2^-to nanoseconds: exact, or rounded down
abbrev pub rescaled_lag : ℕ → ℕ → ℤ → ℤ
rescaled_lag from to lag =
    if nat_le from to then lag *ℤ pos (2 ^ (to - from))
    else int_div_euclid lag (pos (2 ^ (from - to)))

-- the lag of clocks that go on over another counter
abbrev pub lag_over : Counter → Counter → ℤ → ℤ
lag_over from to lag =
    rescaled_lag from.shift to.shift (clamped_by (greatest_lag from) lag)

-- the lag is accounted for up to a reading, unless the clocks are asleep
abbrev pub accounted_awake : Bool → ℕ → SteeredClock → SteeredClock
accounted_awake true reading steered = steered
accounted_awake false reading steered = accounted_to reading steered

-- the state with clocks that go on over another counter, from a reading of the present one to a
-- reading of that one
abbrev pub turned_over : ℕ → Counter → ℕ → State → SteeredClock → SteeredClock
turned_over reading counter first clock steered =
    let accounted = accounted_awake steered.clock.base.asleep reading steered in
    record {
      clock = clock;
      steering = record accounted.steering {
        lag = lag_over steered.clock.base.counter counter accounted.steering.lag;
      };
      next = steered.next;
      last_account = first;
    }

-- the state after a change
abbrev pub steered_over : ℕ → Counter → ℕ → SteeredClock → SteeredClock
steered_over reading counter first steered =
    turned_over reading counter first (changed steered.clock reading counter first) steered

-- why a change is refused before a second begins: `first` is above the mask of its counter, or the
-- clocks can't advance to the reading. Clocks that are asleep only test its range
abbrev pub turn_refusal : ℕ → Counter → ℕ → SteeredClock → Option Refusal
turn_refusal reading counter first steered =
    first_of (reading_refusal counter first)
    (if steered.clock.base.asleep then reading_refusal steered.clock.base.counter reading
    else steered_clock.reading_refusal reading steered)

-- the seconds up to a reading have begun, unless the clocks are asleep
abbrev pub IsAdvancedAwake : Bool → ℕ → SteeredClock → SteeredClock → Type 0
IsAdvancedAwake true reading before after = after ≡ before
IsAdvancedAwake false reading before after = IsAdvanced reading before after

-- the result of a change once these seconds have begun, and the state after it: a refused change
-- changes nothing
abbrev pub IsTurnedOver : ℕ → Counter → ℕ → SteeredClock → Result ⊤ Refusal → SteeredClock → Type 0
IsTurnedOver reading counter first before result after =
    MatchResult result
    (λ _. (change_refusal before.clock reading counter first ≡ None)
    × (after ≡ steered_over reading counter first before))
    (λ refusal. (change_refusal before.clock reading counter first ≡ Some refusal)
    × (after ≡ before))

-- the result of a change of counter, and the state after it: the seconds up to its reading begin
-- first
abbrev pub IsCounterChanged : ℕ → Counter → ℕ → SteeredClock → Result ⊤ Refusal → SteeredClock →
    Type 0
IsCounterChanged reading counter first before result after =
    MatchOption (turn_refusal reading counter first before)
    ((advanced : SteeredClock)
    × IsAdvancedAwake before.clock.base.asleep reading before advanced
    × IsTurnedOver reading counter first advanced result after)
    (λ refusal. (result ≡ Err refusal) × (after ≡ before))
