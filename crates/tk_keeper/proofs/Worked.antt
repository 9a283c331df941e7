-- Worked items of a trace, computed from the definitions only: two settings of the frequency, and
-- the first one folded.
use Rattle.std.proofs.Common.{◌≡◌, ℕ, [], ◌∷◌, refl, Ok, Err}
use Rattle.std.specs.Prelude.{pos, neg_ℤ}
use Rattle.tk_counter.specs.Counter.{Counter}
use Rattle.tk_clock.specs.declared.timespec.Timespec.{Timespec}
use Rattle.tk_clock.specs.declared.command.Entry.{Entry}
use Rattle.tk_clock.specs.declared.command.Command.{Command}
use Rattle.tk_clock.specs.declared.command.Command.TheVariants.{Freq}
use Rattle.tk_clock.specs.declared.clock_id.ClockId.TheVariants.{Monotonic}
use Rattle.tk_clock.specs.Folding.{folded_by}
use Rattle.tk_clock.specs.Journal.{Journal, opened}
use Rattle.tk_keeper.specs.declared.trace_error.TraceError.TheVariants as errors
use Rattle.tk_keeper.specs.Item.{item}

-- a counter of one nanosecond a cycle, with 32-bit readings
abbrev nanosecond_counter : Counter
nanosecond_counter = record { bits = 32; mult = 16777216; shift = 24 }

abbrev since : Timespec
since = record { sec = pos 1700000000; nsec = 0 }

abbrev at : ℕ → Command → Entry
at reading cmd = record { who = 0; reading = reading; cmd = cmd }

abbrev steered : Journal
steered = record (opened nanosecond_counter 0 since) {
  entries = at 0 (Freq (pos 65536000)) ∷ at 1000000000 (Freq (neg_ℤ (pos 32768000))) ∷ [];
}

before_both : item steered Monotonic 0 0 1000000000 ≡ Ok (pos 1000000000)
before_both = refl

after_one : item steered Monotonic 1 1 1000000000 ≡ Ok (pos 1000499963)
after_one = refl

after_both : item steered Monotonic 2 2 1000000000 ≡ Ok (pos 1000499963)
after_both = refl

later_still : item steered Monotonic 3 2 1000000001 ≡ Ok (pos 1000499964)
later_still = refl

yet_to_come : item steered Monotonic 1 3 0 ≡ Err (errors.Unknown 1)
yet_to_come = refl

folded_front : item (folded_by 1 steered) Monotonic 1 0 0 ≡ Err (errors.Folded 1)
folded_front = refl

at_the_fold : item (folded_by 1 steered) Monotonic 0 1 1000000000 ≡ Ok (pos 1000499963)
at_the_fold = refl

-- a fault of the front comes before a fault of the stamp
front_first : item (folded_by 1 steered) Monotonic 7 0 4294967296 ≡ Err (errors.Folded 7)
front_first = refl

above_the_mask : item steered Monotonic 4 0 4294967296 ≡ Err (errors.Invalid 4)
above_the_mask = refl
