-- Steered clocks are loaded from the words of their clocks and of their numbers.
use Rattle.std.proofs.Common.{arith, ◌≡◌, ◌⊎◌, ℕ, ◌-◌, refl, Some, None, Ok, List, ◌++◌, length, length-append, length-drop, take, drop, inl, inr}
use Rattle.std.proofs.lemmas.List.{take_at}
use Rattle.std.specs.Prelude.{MatchOption, Option}
use Rattle.tk_counter.specs.Counter.{Counter, IsCounter}
use Rattle.tk_clock.specs.Running.{IsRunning}
use Rattle.tk_clock.specs.Snapshot.{Snapshot}
use Rattle.tk_clock.specs.Words.{words_of, restored}
use Rattle.tk_ntp.specs.Numbers.{steered_numbers}
use Rattle.tk_ntp.specs.Restored.{steered_from}
use Rattle.tk_c.specs.declared.code.Code.TheVariants.{Done, BadWords}
use Rattle.tk_c.specs.declared.counted.CountedClock.{CountedClock}
use Rattle.tk_c.specs.declared.counted_ntp.SteeredCount.{SteeredCount}
use Rattle.tk_c.specs.declared.ntp_storage.NtpStorage.{NtpStorage}
use Rattle.tk_c.specs.Codes.{number_of}
use Rattle.tk_c.specs.Counted.{counted_snapshot}
use Rattle.tk_c.specs.NtpStorage.{ntp_storage}
use Rattle.tk_c.specs.Restored.{clock_with, IsClockOf}
use Rattle.tk_c.specs.Saved.{saved, counter_of_words, saved_frequency, saved_tick}
use Rattle.tk_c.specs.CountedNtp.{counted_clock}
use Rattle.tk_c.specs.SavedNtp.{number_words, numbers_of_words, saved_ntp, counted_with, steered_with, IsNtpTaken, IsNtpNotTaken, IsNtpRestored, LoadsAsNtp}
use Rattle.tk_c.proofs.Loading.{same_counter, same_frequency, same_tick}

-- the words of clocks and of numbers in the place of 33 others
pub joined : (words first rest : List ℕ) → length words ≡ 33 → length first ≡ 15 →
    take (length (first ++ drop 15 words) - 18) (first ++ drop 15 words) ++ rest ≡ first ++ rest
joined words first rest all some =
    let long : length (first ++ drop 15 words) - 18 ≡ 15 =
    omega (arith, all, some, length-append first (drop 15 words), length-drop 15 words) in
    rw (long, take_at first (drop 15 words) 15 some) refl

-- the answer for the words of clocks that were found, and of numbers
module _ (first rest : List ℕ) (clock : CountedClock) (old new : NtpStorage) (code : ℕ) where
  abbrev Answer : Snapshot → Type 0
  Answer snapshot =
      IsNtpTaken snapshot first rest new code ⊎ IsNtpNotTaken snapshot first rest old new code

  abbrev BySnapshot : Option Snapshot → Type 0
  BySnapshot found =
      MatchOption found ((code ≡ number_of BadWords) × (new ≡ old)) (λ snapshot. Answer snapshot)

  abbrev IsFound : Option Snapshot → Type 0
  IsFound found = IsClockOf found (saved_frequency first) (saved_tick first) (Some clock)

  by_snapshot : (answer : (snapshot : Snapshot)
      → IsRunning snapshot.base (saved_frequency first) (saved_tick first)
      → clock ≡ clock_with snapshot (saved_frequency first) (saved_tick first) → Answer snapshot)
      (found : Option Snapshot) → IsFound found → BySnapshot found
  by_snapshot answer None is = absurd (grind arith)
  by_snapshot answer (Some snapshot) is = answer snapshot is.0 is.1

  by_counter : (answer : (found : Option Snapshot) → IsFound found → BySnapshot found)
      (found : Option Counter) → MatchOption found (Some clock ≡ None)
      (λ counter. IsFound (restored counter (take 10 first))) → MatchOption found
      ((code ≡ number_of BadWords) × (new ≡ old))
      (λ counter. BySnapshot (restored counter (take 10 first)))
  by_counter answer None is = absurd (grind arith)
  by_counter answer (Some counter) is = answer (restored counter (take 10 first)) is

  abbrev AreFound : Type 0
  AreFound = MatchOption (counter_of_words first) (Some clock ≡ None)
      (λ counter. IsFound (restored counter (take 10 first)))

  pub taken : (ntp : SteeredCount) → AreFound
      → counted_with clock (numbers_of_words rest) ≡ Some ntp
      → new ≡ ntp_storage ntp.front ntp.steered → code ≡ number_of Done
      → IsNtpRestored first rest old new code
  taken ntp are counted written done =
      by_counter (by_snapshot (λ snapshot running is. inl record {
        running = running;
        counted = ntp;
        found = rw (← is) counted;
        written = written;
        done = done;
      })) (counter_of_words first) are

  pub not_taken : AreFound → counted_with clock (numbers_of_words rest) ≡ None → new ≡ old
      → code ≡ number_of BadWords → IsNtpRestored first rest old new code
  not_taken are none unchanged refused =
      by_counter (by_snapshot (λ snapshot running is. inr record {
        never = λ running'. rw (← is) none;
        unchanged = unchanged;
        refused = refused;
      })) (counter_of_words first) are

-- the same clocks are found twice
agreed : (ntp other : SteeredCount) (found : Option SteeredCount) (new : NtpStorage)
    → found ≡ Some ntp → found ≡ Some other → new ≡ ntp_storage other.front other.steered
    → new ≡ ntp_storage ntp.front ntp.steered
agreed ntp other found new e f g = grind arith

-- saved steered clocks are loaded as the same clocks
module _ (ntp : SteeredCount)
    (running : IsRunning ntp.steered.clock.base ntp.steered.clock.frequency ntp.steered.clock.tick)
    (narrow : numbers_of_words (number_words (steered_numbers ntp.steered))
    ≡ Some (steered_numbers ntp.steered))
    (from : steered_from ntp.steered.clock (steered_numbers ntp.steered) ≡ Ok ntp.steered) where
  abbrev Clock : CountedClock
  Clock = counted_clock ntp

  abbrev Numbers : List ℕ
  Numbers = number_words (steered_numbers ntp.steered)

  known : steered_with (counted_snapshot Clock) (saved Clock) Numbers ≡ Some ntp
  known = rw (same_frequency Clock running, same_tick Clock running, narrow, from) refl

  found : (old new : NtpStorage) (code : ℕ)
      → IsNtpTaken (counted_snapshot Clock) (saved Clock) Numbers new code
      ⊎ IsNtpNotTaken (counted_snapshot Clock) (saved Clock) Numbers old new code
      → (code ≡ number_of Done) × (new ≡ ntp_storage ntp.front ntp.steered)
  found old new code (inl took) =
      (took.done, agreed ntp took.counted _ new known took.found took.written)
  found old new code (inr none) =
      let runs = rw (← (same_frequency Clock running), ← (same_tick Clock running)) at running in
      let missing = none.never runs in
      absurd (grind (arith, known, missing))

  pub loads : IsCounter ntp.steered.clock.base.counter
      → restored ntp.steered.clock.base.counter (words_of (counted_snapshot Clock))
      ≡ Some (counted_snapshot Clock)
      → LoadsAsNtp (saved_ntp ntp) ntp
  loads is back old new code loaded =
      found old new code (rw back at (rw (same_counter Clock running is) at loaded))
