-- Saved clocks are loaded as the same clocks.
use Rattle.std.proofs.Common.{rules, ◌≡◌, ℕ, Some, None, refl, inl, inr, w64, FitsSigned}
use Rattle.std.proofs.lemmas.Int.{to_z-of_z}
use Rattle.tk_counter.specs.Counter.{Counter, IsCounter}
use Rattle.tk_counter.specs.Description.{first_fault}
use Rattle.tk_clock.specs.Running.{IsRunning}
use Rattle.tk_clock.specs.Words.{words_of, restored}
use Rattle.tk_c.specs.Codes.{number_of}
use Rattle.tk_c.specs.Counted.{counted_snapshot}
use Rattle.tk_c.specs.Restored.{IsClockRestored}
use Rattle.tk_c.specs.Saved.{saved, counter_of_words, saved_frequency, saved_tick, LoadsAs}
use Rattle.tk_c.specs.Storage.{clock_storage}
use Rattle.tk_c.specs.declared.code.Code.TheVariants.{Done}
use Rattle.tk_c.specs.declared.counted.CountedClock.{CountedClock}
use Rattle.tk_c.specs.declared.storage.ClockStorage.{ClockStorage}

-- the description of a counter has no fault
pub no_fault : (counter : Counter) → IsCounter counter → first_fault counter ≡ None
no_fault counter is = search rules

-- the frequency and the tick of running clocks fit in 64 bits
module _ (counted : CountedClock)
    (running : IsRunning counted.clock.base counted.clock.frequency counted.clock.tick) where
  frequency_fits : FitsSigned w64 counted.clock.frequency
  frequency_fits = search rules

  tick_fits : FitsSigned w64 counted.clock.tick
  tick_fits = search rules

  pub same_frequency : saved_frequency (saved counted) ≡ counted.clock.frequency
  same_frequency = to_z-of_z w64 _ frequency_fits

  pub same_tick : saved_tick (saved counted) ≡ counted.clock.tick
  same_tick = to_z-of_z w64 _ tick_fits

  pub same_counter : IsCounter counted.clock.base.counter
      → counter_of_words (saved counted) ≡ Some counted.clock.base.counter
  same_counter is = rw (no_fault counted.clock.base.counter is) refl

  taken : (old new : ClockStorage) (code : ℕ)
      → IsClockRestored (counted_snapshot counted) counted.clock.frequency counted.clock.tick old new code
      → (code ≡ number_of Done) × (new ≡ clock_storage counted.front counted.clock)
  taken old new code (inl fits) = (fits.done, fits.written)
  taken old new code (inr none) = absurd (none.not_running running)

  pub loads : IsCounter counted.clock.base.counter
      → restored counted.clock.base.counter (words_of (counted_snapshot counted))
      ≡ Some (counted_snapshot counted)
      → LoadsAs (saved counted) counted
  loads is back old new code loaded =
      taken old new code (rw (same_frequency, same_tick) at (rw back at (rw (same_counter is) at loaded)))
