-- What is kept as seconds begin late: the sum of the accounts, the offset and TAI.
use Rattle.std.specs.Prelude.{◌≡◌, ℕ, ℤ, pos, ◌+ℤ◌}
use Rattle.tk_ntp.specs.Account.{asked_to, dropped_at, dropped_to, owed, IsWithin}
use Rattle.tk_ntp.specs.Advance.{AreEach, sum_over, with_next_second}
use Rattle.tk_ntp.specs.History.{IsNumberedBy, IsOffsetKeptBy, IsTaiInside, IsTaiSame}
use Rattle.tk_ntp.specs.Late.{late_start, second_begun_late, with_late_second, IsAdvancedLate}
use Rattle.tk_ntp.specs.SteeredClock.{SteeredClock}

-- the state as the next second, due at a reading `at`, begins late, before the second account
abbrev pub started_late : ℕ → SteeredClock → SteeredClock
started_late at steered = with_next_second (late_start at steered) steered

-- what the cycles up to the reading of the call should add: up to the second's start at the length
-- of the second before it, and from there at its own
abbrev pub asked_late : (reading at : ℕ) → SteeredClock → ℤ
asked_late reading at steered =
    asked_to (late_start at steered) steered +ℤ asked_to reading (started_late at steered)

-- the part of the lag that is dropped at the second account
abbrev pub dropped_again : (reading at : ℕ) → SteeredClock → ℤ
dropped_again reading at steered =
    dropped_to reading (with_late_second at reading steered).steering.lag (started_late at steered)

-- the part that is dropped at both accounts
abbrev pub dropped_late : (reading at : ℕ) → SteeredClock → ℤ
dropped_late reading at steered =
    dropped_at (late_start at steered) steered +ℤ dropped_again reading at steered

-- nothing is dropped at either account while the lag stays within its bound
abbrev pub IsKeptLate : (reading at : ℕ) → SteeredClock → Type 0
IsKeptLate reading at steered =
    (IsWithin (late_start at steered) steered →
    dropped_at (late_start at steered) steered ≡ pos 0)
    × (IsWithin reading (started_late at steered) → dropped_again reading at steered ≡ pos 0)

-- what was asked for is what was given, up to the lag and to what was dropped, as seconds begin late
pub record IsAccountedLate (reading : ℕ) (before after : SteeredClock) : Type 0 where
  pub begun : IsAdvancedLate reading before after
  pub sum :
      owed before
      +ℤ sum_over (λ at. second_begun_late at reading) (asked_late reading) reading before after
      begun
      ≡ owed after
      +ℤ sum_over (λ at. second_begun_late at reading) (dropped_late reading) reading before after
      begun
  pub kept :
      AreEach (λ at. second_begun_late at reading) (IsKeptLate reading) reading before after begun

-- no part of the offset is lost
abbrev pub IsOffsetKeptLate : ℕ → SteeredClock → SteeredClock → Type 0
IsOffsetKeptLate reading before after =
    IsOffsetKeptBy (λ at. second_begun_late at reading) reading before after

-- the number of the next second grows by 1 with each
abbrev pub IsNumberedLate : ℕ → SteeredClock → SteeredClock → Type 0
IsNumberedLate reading before after =
    IsNumberedBy (λ at. second_begun_late at reading) reading before after

-- at the reading of the call, TAI is the same before and after the leap and the rate of each second
pub record IsTaiKeptLate (reading : ℕ) (before after : SteeredClock) : Type 0 where
  pub begun : IsAdvancedLate reading before after
  pub same :
      AreEach (λ at. second_begun_late at reading) (λ at steered. IsTaiInside steered.clock →
      IsTaiSame reading steered.clock (second_begun_late at reading steered).clock) reading before
      after begun
