-- Steered clocks as words that contain their counter.
use Rattle.std.specs.Prelude.{◌≡◌, ◌⊎◌, ℕ, ◌^◌, nat_lt, Bool, ◌&&◌, Option, Some, None, Result, Ok, Err, List, [], ◌∷◌, ◌++◌, take, drop, slice_index, MatchOption, if◌then◌else◌}
use Rattle.std.specs.Int.{cast_signed, cast_unsigned, w64}
use Rattle.tk_clock.specs.Running.{IsRunning}
use Rattle.tk_clock.specs.Snapshot.{Snapshot}
use Rattle.tk_clock.specs.Words.{restored}
use Rattle.tk_ntp.specs.declared.numbers.SteeredNumbers.{SteeredNumbers}
use Rattle.tk_ntp.specs.declared.numbers_error.NumbersError.{NumbersError}
use Rattle.tk_ntp.specs.Numbers.{steered_numbers}
use Rattle.tk_ntp.specs.Restored.{steered_from}
use Rattle.tk_ntp.specs.SteeredClock.{SteeredClock}
use Rattle.tk_c.specs.declared.code.Code.TheVariants.{Done, BadWords}
use Rattle.tk_c.specs.declared.counted.CountedClock.{CountedClock}
use Rattle.tk_c.specs.declared.counted_ntp.SteeredCount.{SteeredCount}
use Rattle.tk_c.specs.declared.ntp_storage.NtpStorage.{NtpStorage}
use Rattle.tk_c.specs.Codes.{number_of}
use Rattle.tk_c.specs.CountedNtp.{counted_clock}
use Rattle.tk_c.specs.NtpStorage.{ntp_storage}
use Rattle.tk_c.specs.Restored.{clock_with}
use Rattle.tk_c.specs.Saved.{saved, counter_of_words, saved_frequency, saved_tick}

-- the 18 words of the numbers that a discipline, its lag, the next second and the last account are kept in:
-- those with a sign in two's complement
abbrev pub number_words : SteeredNumbers → List ℕ
number_words numbers =
    let ntp = numbers.steering.ntp in
    ntp.hz ∷ ntp.status ∷ ntp.plan.state ∷ ntp.plan.is_due ∷ ntp.plan.due
    ∷ cast_unsigned w64 ntp.offset ∷ ntp.constant ∷ ntp.maxerror ∷ ntp.esterror ∷ ntp.tick
    ∷ cast_unsigned w64 ntp.frequency ∷ ntp.reftime ∷ cast_unsigned w64 ntp.adjust
    ∷ cast_unsigned w64 ntp.phase ∷ numbers.steering.lag.high ∷ numbers.steering.lag.low
    ∷ numbers.next ∷ numbers.last_account ∷ []

-- the words of steered clocks with their counter: the first 15 are those of their clocks, with the
-- front of the steered clocks; the others are their numbers
abbrev pub saved_ntp : SteeredCount → List ℕ
saved_ntp counted =
    saved (counted_clock counted) ++ number_words (steered_numbers counted.steered)

-- whether the words of numbers with fewer than 64 bits fit in them
unfoldable pub are_narrow : List ℕ → Bool
are_narrow words =
    nat_lt (slice_index words 0) (2 ^ 32) && nat_lt (slice_index words 1) (2 ^ 32)
    && nat_lt (slice_index words 2) (2 ^ 32) && nat_lt (slice_index words 3) (2 ^ 8)
    && nat_lt (slice_index words 6) (2 ^ 32) && nat_lt (slice_index words 7) (2 ^ 32)
    && nat_lt (slice_index words 8) (2 ^ 32) && nat_lt (slice_index words 9) (2 ^ 32)

-- the numbers that their 18 words represent
abbrev pub numbers_in : List ℕ → SteeredNumbers
numbers_in words = record {
  steering = record {
    ntp = record {
      hz = slice_index words 0;
      status = slice_index words 1;
      plan = record {
        state = slice_index words 2;
        is_due = slice_index words 3;
        due = slice_index words 4;
      };
      offset = cast_signed w64 (slice_index words 5);
      constant = slice_index words 6;
      maxerror = slice_index words 7;
      esterror = slice_index words 8;
      tick = slice_index words 9;
      frequency = cast_signed w64 (slice_index words 10);
      reftime = slice_index words 11;
      adjust = cast_signed w64 (slice_index words 12);
      phase = cast_signed w64 (slice_index words 13);
    };
    lag = record { high = slice_index words 14; low = slice_index words 15 };
  };
  next = slice_index words 16;
  last_account = slice_index words 17;
}

-- the numbers that 18 words represent, if each word fits in its number's bits
abbrev pub numbers_of_words : List ℕ → Option SteeredNumbers
numbers_of_words words = if are_narrow words then Some (numbers_in words) else None

-- steered clocks with their front, unless their numbers are out of range
abbrev pub counted_of : ℕ → Result SteeredClock NumbersError → Option SteeredCount
counted_of front (Ok steered) = Some (record { steered = steered; front = front })
counted_of front (Err error) = None

-- the steered clocks of these clocks and numbers, if there are such clocks
abbrev pub counted_with : CountedClock → Option SteeredNumbers → Option SteeredCount
counted_with clock None = None
counted_with clock (Some numbers) = counted_of clock.front (steered_from clock.clock numbers)

-- running clocks have this snapshot with the frequency and the tick of words 13 and 14
abbrev pub IsRunningBy : Snapshot → List ℕ → Type 0
IsRunningBy snapshot words = IsRunning snapshot.base (saved_frequency words) (saved_tick words)

-- the steered clocks of a snapshot, the words of its clocks, and those of their numbers, if such
-- clocks can be
abbrev pub steered_with : Snapshot → List ℕ → List ℕ → Option SteeredCount
steered_with snapshot first rest =
    counted_with (clock_with snapshot (saved_frequency first) (saved_tick first))
    (numbers_of_words rest)

-- steered clocks have this snapshot and these words, which determine them, and they are written
pub record IsNtpTaken (snapshot : Snapshot) (first rest : List ℕ) (new : NtpStorage)
    (code : ℕ) : Type 0 where
  pub running : IsRunningBy snapshot first
  pub counted : SteeredCount
  pub found : steered_with snapshot first rest ≡ Some counted
  pub written : new ≡ ntp_storage counted.front counted.steered
  pub done : code ≡ number_of Done

-- no steered clocks have this snapshot and these words, and nothing is written
pub record IsNtpNotTaken (snapshot : Snapshot) (first rest : List ℕ) (old new : NtpStorage)
    (code : ℕ) : Type 0 where
  pub never : IsRunningBy snapshot first → steered_with snapshot first rest ≡ None
  pub unchanged : new ≡ old
  pub refused : code ≡ number_of BadWords

-- the answer for the words of clocks and of numbers: the steered clocks of this counter, snapshot,
-- frequency, tick and these numbers, if there are such clocks; otherwise nothing is written
abbrev pub IsNtpRestored : List ℕ → List ℕ → NtpStorage → NtpStorage → ℕ → Type 0
IsNtpRestored first rest old new code = MatchOption (counter_of_words first)
    ((code ≡ number_of BadWords) × (new ≡ old))
    (λ counter. MatchOption (restored counter (take 10 first))
    ((code ≡ number_of BadWords) × (new ≡ old))
    (λ snapshot. IsNtpTaken snapshot first rest new code
    ⊎ IsNtpNotTaken snapshot first rest old new code))

-- the answer for 33 words
abbrev pub IsNtpLoaded : List ℕ → NtpStorage → NtpStorage → ℕ → Type 0
IsNtpLoaded words old new code = IsNtpRestored (take 15 words) (drop 15 words) old new code

-- each load of the words gives these steered clocks
abbrev pub LoadsAsNtp : List ℕ → SteeredCount → Type 0
LoadsAsNtp words counted = (old new : NtpStorage) (code : ℕ) → IsNtpLoaded words old new code
    → (code ≡ number_of Done) × (new ≡ ntp_storage counted.front counted.steered)
