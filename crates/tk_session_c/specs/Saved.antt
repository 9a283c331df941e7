-- The clocks of a session as words that contain their counter: the words of tkc_clock_save, or of
-- tkc_ntp_save if a discipline steers the clocks.
use Rattle.std.specs.Prelude.{◌≡◌, ℕ, List, [], ◌∷◌, ◌++◌, length, drop, nat_eq, if◌then◌else◌}
use Rattle.std.specs.Int.{cast_unsigned, w64}
use Rattle.tk_clock.specs.Words.{words_of}
use Rattle.tk_ntp.specs.declared.numbers.SteeredNumbers.{SteeredNumbers}
use Rattle.tk_ntp.specs.Numbers.{course_numbers}
use Rattle.tk_session.specs.Session.{Session}
use Rattle.tk_session_c.specs.Storage.{snapshot_in}

-- the words of the clocks: words 0 to 9 are those of their snapshot; 10 to 12 are bits, mult and
-- shift of the counter; 13 and 14 are the frequency in 2^-16 ppm as it was set and the tick in
-- microseconds, both in two's complement
abbrev pub clock_words : Session → List ℕ
clock_words session =
    let clock = session.clocks.clock in
    let counter = clock.base.counter in
    words_of (snapshot_in session)
    ++ (counter.bits ∷ counter.mult ∷ counter.shift
    ∷ cast_unsigned w64 clock.frequency ∷ cast_unsigned w64 clock.tick ∷ [])

-- the words of the numbers that a discipline, its lag, the next second and the last account are kept in:
-- those with a sign in two's complement
abbrev pub number_words : SteeredNumbers → List ℕ
number_words numbers =
    let ntp = numbers.steering.ntp in
    ntp.hz ∷ ntp.status ∷ ntp.plan.state ∷ ntp.plan.is_due ∷ ntp.plan.due
    ∷ cast_unsigned w64 ntp.offset ∷ ntp.constant ∷ ntp.maxerror ∷ ntp.esterror ∷ ntp.tick
    ∷ cast_unsigned w64 ntp.frequency ∷ ntp.reftime ∷ cast_unsigned w64 ntp.adjust
    ∷ cast_unsigned w64 ntp.phase ∷ numbers.steering.lag.high ∷ numbers.steering.lag.low
    ∷ numbers.next ∷ numbers.last_account ∷ []

-- the words of a session's clocks: none before the first record, 15 without a discipline, and 33
-- with one
abbrev pub saved : Session → List ℕ
saved session =
    if nat_eq session.records 0 then []
    else if session.is_steered
    then clock_words session ++ number_words (course_numbers session.course)
    else clock_words session

-- the words of a session's clocks are written, and those after them don't change; the result is
-- their number
pub record IsSaved (session : Session) (old new : List ℕ) (count : ℕ) : Type 0 where
  pub words : new ≡ saved session ++ drop count old
  pub count_is : count ≡ length (saved session)
