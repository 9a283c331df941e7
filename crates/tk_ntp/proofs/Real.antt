-- REALTIME at a reading has exactly one time in seconds and nanoseconds.
use Rattle.std.proofs.Common.{◌≡◌, ◌∙◌, sym, ap, ℕ, ◌+◌, ◌*◌, ◌%◌, ◌^◌, ◌<◌, arith}
use Rattle.std.specs.Prelude.{ℤ, pos, negsuc, ◌+ℤ◌, ◌*ℤ◌, ◌≤ℤ◌, unsigned_abs}
use Rattle.std.proofs.lemmas.Int.{ints}
use Rattle.std.proofs.lemmas.Nat.{div-mul-add, mod-mul-add}
use Rattle.tk_clock.specs.declared.timespec.Timespec.{Timespec}
use Rattle.tk_clock.specs.Time.{nanoseconds, timespec_of}

-- splitting nanoseconds returns the seconds and nanoseconds from which they were made
pub timespec_of-parts : (sec nsec : ℕ) → nsec < 10 ^ 9 →
    timespec_of (sec * 10 ^ 9 + nsec) ≡ record { sec = pos sec; nsec = nsec }
timespec_of-parts sec nsec low =
    let from_parts : ℕ → ℕ → Timespec = λ s n. record { sec = pos s; nsec = n } in
    ap (λ s. from_parts s ((sec * 10 ^ 9 + nsec) % 10 ^ 9)) (div-mul-add sec (10 ^ 9) nsec low)
    ∙ ap (from_parts sec) (mod-mul-add sec (10 ^ 9) nsec low)

from_parts : (sec : ℤ) (nsec : ℕ) (value : ℤ) → sec *ℤ pos (10 ^ 9) +ℤ pos nsec ≡ value →
    nsec < 10 ^ 9 → pos 0 ≤ℤ sec →
    (record { sec = sec; nsec = nsec }) ≡ timespec_of (unsigned_abs value)
from_parts (pos sec) nsec value same low since =
    let sum : sec * 10 ^ 9 + nsec ≡ unsigned_abs value = omega (arith, ints) in
    sym (timespec_of-parts sec nsec low) ∙ ap timespec_of sum
from_parts (negsuc less) nsec value same low since = absurd (omega (arith, ints))

-- a time with the nanoseconds of a value is the value's time
pub timespec_of_value : (time : Timespec) (value : ℤ) → nanoseconds time ≡ value →
    time.nsec < 10 ^ 9 → pos 0 ≤ℤ time.sec → time ≡ timespec_of (unsigned_abs value)
timespec_of_value time value same low since = from_parts time.sec time.nsec value same low since
