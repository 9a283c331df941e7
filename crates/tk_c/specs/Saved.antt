-- Clocks as words that contain their counter.
use Rattle.std.specs.Prelude.{◌≡◌, ℕ, ℤ, Option, Some, None, List, [], ◌∷◌, ◌++◌, take, slice_index, MatchOption}
use Rattle.std.specs.Int.{cast_signed, cast_unsigned, w64}
use Rattle.tk_counter.specs.Counter.{Counter}
use Rattle.tk_counter.specs.Description.{first_fault}
use Rattle.tk_counter.specs.declared.desc_error.DescError.{DescError}
use Rattle.tk_clock.specs.Words.{words_of, restored}
use Rattle.tk_c.specs.Codes.{number_of}
use Rattle.tk_c.specs.Counted.{counted_snapshot}
use Rattle.tk_c.specs.Restored.{IsClockRestored}
use Rattle.tk_c.specs.Storage.{clock_storage}
use Rattle.tk_c.specs.declared.code.Code.TheVariants.{Done, BadWords}
use Rattle.tk_c.specs.declared.counted.CountedClock.{CountedClock}
use Rattle.tk_c.specs.declared.storage.ClockStorage.{ClockStorage}

-- the words of clocks with their counter: words 0 to 9 are those of their snapshot; 10 to 12 are
-- bits, mult and shift of the counter; 13 and 14 are the frequency in 2^-16 ppm as it was set and
-- the tick in microseconds, both in two's complement
abbrev pub saved : CountedClock → List ℕ
saved counted =
    let counter = counted.clock.base.counter in
    words_of (counted_snapshot counted)
    ++ (counter.bits ∷ counter.mult ∷ counter.shift
    ∷ cast_unsigned w64 counted.clock.frequency ∷ cast_unsigned w64 counted.clock.tick ∷ [])

-- a counter if its description has no fault
abbrev pub faultless : Counter → Option DescError → Option Counter
faultless counter None = Some counter
faultless counter (Some fault) = None

-- the counter that words 10 to 12 describe, if they describe one
abbrev pub counter_of_words : List ℕ → Option Counter
counter_of_words words =
    let counter : Counter = record {
      bits = slice_index words 10;
      mult = slice_index words 11;
      shift = slice_index words 12;
    } in
    faultless counter (first_fault counter)

-- the frequency that word 13 represents, in 2^-16 ppm
abbrev pub saved_frequency : List ℕ → ℤ
saved_frequency words = cast_signed w64 (slice_index words 13)

-- the tick that word 14 represents, in microseconds
abbrev pub saved_tick : List ℕ → ℤ
saved_tick words = cast_signed w64 (slice_index words 14)

-- the answer for words: the clocks of this counter, snapshot, frequency and tick, if there are such
-- clocks; otherwise nothing is written
abbrev pub IsLoaded : List ℕ → ClockStorage → ClockStorage → ℕ → Type 0
IsLoaded words old new code = MatchOption (counter_of_words words)
    ((code ≡ number_of BadWords) × (new ≡ old))
    (λ counter. MatchOption (restored counter (take 10 words))
    ((code ≡ number_of BadWords) × (new ≡ old))
    (λ snapshot. IsClockRestored snapshot (saved_frequency words) (saved_tick words) old new code))

-- each load of the words gives these clocks
abbrev pub LoadsAs : List ℕ → CountedClock → Type 0
LoadsAs words counted = (old new : ClockStorage) (code : ℕ) → IsLoaded words old new code
    → (code ≡ number_of Done) × (new ≡ clock_storage counted.front counted.clock)
