-- The counter of a rate with the finest mult for a longest gap, as a C caller gets it.
use Rattle.std.specs.Prelude.{◌≡◌, ◌≤◌, ◌<◌, ℕ, ◌+◌, ◌*◌, ◌^◌, Bool, true, false, nat_eq, nat_lt, nat_le, ◌&&◌, ◌||◌, Option, Some, None, if◌then◌else◌, MatchOption}
use Rattle.tk_counter.specs.Counter.{Counter, fastest, second}
use Rattle.tk_counter.specs.Frequency.{rounded_mult}
use Rattle.tk_counter.specs.declared.desc_error.DescError.{DescError}
use Rattle.tk_counter.specs.declared.desc_error.DescError.TheVariants.{Bits, Rate}
use Rattle.tk_c.specs.Codes.{number_of, code_of_fault}
use Rattle.tk_c.specs.Storage.{counter_storage}
use Rattle.tk_c.specs.declared.code.Code.TheVariants.{Done}
use Rattle.tk_c.specs.declared.storage.CounterStorage.{CounterStorage}

-- a counter at a rate in Hz: its mult is the one of the shift, rounded to the nearest
-- (clocks_calc_mult_shift, kernel/time/clocksource.c)
abbrev pub counter_at : ℕ → ℕ → ℕ → Counter
counter_at bits hz shift = record {
  bits = bits;
  mult = rounded_mult (10 ^ 9) hz shift;
  shift = shift;
}

-- whether a counter can be steered, and a number of cycles at any of its multipliers converts
-- within 64 bits, with the part below a second from before: the mult plus 11 percent fits in 32
-- bits, and a second plus the cycles at this multiplier is at most 2^64 units
unfoldable pub is_exact : Counter → ℕ → Bool
is_exact counter cycles =
    nat_lt (fastest counter) (2 ^ 32)
    && nat_le (second counter + cycles * fastest counter) (2 ^ 64)

-- the greatest shift from 1 to 32 at which gaps of up to `maxsec` seconds are exact
pub record IsFinest (bits hz maxsec shift : ℕ) : Type 0 where
  pub least : 1 ≤ shift
  pub most : shift ≤ 32
  pub exact : is_exact (counter_at bits hz shift) (maxsec * hz) ≡ true
  pub greatest : (above : ℕ) → shift < above → above ≤ 32 →
      is_exact (counter_at bits hz above) (maxsec * hz) ≡ false

-- the first fault of such numbers: first the bits, then a rate that is not 1 Hz to 10^12 Hz or a
-- span that is not 1 to 600 seconds
abbrev pub finest_fault : ℕ → ℕ → ℕ → Option DescError
finest_fault bits hz maxsec =
    if nat_lt bits 8 || nat_lt 64 bits then Some Bits
    else if nat_eq hz 0 || nat_lt (10 ^ 12) hz || nat_eq maxsec 0 || nat_lt 600 maxsec then Some Rate
    else None

-- a counter at the greatest such shift
pub record IsFinestDesc (bits hz maxsec : ℕ) (counter : Counter) : Type 0 where
  pub shift : ℕ
  pub finest : IsFinest bits hz maxsec shift
  pub stated : counter ≡ counter_at bits hz shift

-- the counter at the greatest such shift is written
pub record IsFinestWritten (bits hz maxsec : ℕ) (new : CounterStorage) (code : ℕ) : Type 0 where
  pub shift : ℕ
  pub finest : IsFinest bits hz maxsec shift
  pub written : new ≡ counter_storage (counter_at bits hz shift)
  pub done : code ≡ number_of Done

-- the code of the call, and what it writes: the counter, or nothing if a number has a fault
abbrev pub IsMadeFinest : ℕ → ℕ → ℕ → CounterStorage → ℕ → CounterStorage → Type 0
IsMadeFinest bits hz maxsec old code new =
    MatchOption (finest_fault bits hz maxsec)
    (IsFinestWritten bits hz maxsec new code)
    (λ fault. (code ≡ number_of (code_of_fault fault)) × (new ≡ old))
