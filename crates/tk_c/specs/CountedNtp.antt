-- Steered clocks that count the commands that they accept, those of their discipline included, as a
-- C caller gets their answers.
use Rattle.std.specs.Prelude.{◌≡◌, ◌<◌, ◌+◌, ◌⊎◌, ℕ, ⊤, Bool, true, false, Option, None, Some, Result, Ok, Err, MatchOption, MatchResult}
use Rattle.tk_clock.specs.declared.clock_id.ClockId.TheVariants.{Realtime}
use Rattle.tk_clock.specs.declared.command.Command.{Command}
use Rattle.tk_clock.specs.declared.refusal.Refusal.{Refusal}
use Rattle.tk_clock.specs.declared.refusal.Refusal.TheVariants.{Full}
use Rattle.tk_clock.specs.Limits.{counted_most}
use Rattle.tk_clock.specs.Time.{nanoseconds}
use Rattle.tk_ntp.specs.declared.reply.Reply.{Reply}
use Rattle.tk_ntp.specs.declared.timex.Timex.{Timex}
use Rattle.tk_ntp.specs.Advance.{IsAdvanced, second_time}
use Rattle.tk_ntp.specs.Applied.{IsApplied, request_of, without_reply}
use Rattle.tk_ntp.specs.Asked.{IsAnswered}
use Rattle.tk_ntp.specs.Course.{Course, course_of, seen}
use Rattle.tk_ntp.specs.Keeping.{IsAdvancedTo as IsAdvancedBy, IsAnsweredTo, IsAppliedTo, request_most, second_most}
use Rattle.tk_ntp.specs.Late.{IsAdvancedLate}
use Rattle.tk_ntp.specs.SteeredClock.{SteeredClock, reading_refusal}
use Rattle.tk_c.specs.declared.counted.CountedClock.{CountedClock}
use Rattle.tk_c.specs.declared.counted_ntp.SteeredCount.{SteeredCount}
use Rattle.tk_c.specs.declared.counted_ntp.CountedNtp.{CountedNtp}
use Rattle.tk_c.specs.declared.timex.KernelTimex.{KernelTimex}
use Rattle.tk_c.specs.declared.code.Code.TheVariants.{BadCommand}
use Rattle.tk_c.specs.Codes.{number_of}
use Rattle.tk_c.specs.CallResults.{code_of_call}
use Rattle.tk_c.specs.Reached.{IsReached}
use Rattle.tk_c.specs.Room.{HasCounted, HasRoom, IsShort, clocks_of}
use Rattle.tk_c.specs.Timex.{request_of as asked_of, answered, state_number}

-- the clocks of steered ones, with their front
abbrev pub counted_clock : SteeredCount → CountedClock
counted_clock counted = record { clock = counted.steered.clock; front = counted.front }

-- clocks with their front, and the course of their discipline, as steered clocks
abbrev pub kept_with : CountedClock → Course → SteeredCount
kept_with clocks course = record {
  steered = seen clocks.clock course;
  front = clocks.front;
}

-- steered clocks with their front, of their parts
abbrev pub whole : CountedNtp → SteeredCount
whole parts = record {
  steered = seen parts.clocks.clock parts.course;
  front = parts.clocks.front;
}

-- a call that would have needed room for this many commands found that the front leaves none
abbrev pub IsFull : {R : Type 0} → ℕ → Result R Refusal → SteeredCount → Type 0
IsFull count result new = (result ≡ Err Full) × (counted_most < new.front + count)

-- the clocks after the seconds up to a reading have begun, late or not
abbrev pub IsArrived : Bool → ℕ → SteeredClock → SteeredClock → Type 0
IsArrived true reading before after = IsAdvancedLate reading before after
IsArrived false reading before after = IsAdvanced reading before after

-- the code of an advance, and the clocks after it. `commands` names the commands of each second
-- that begins, all of which are counted. A second begins only with room for 3 of them
pub record IsAdvancedTo (is_late : Bool) (old : SteeredCount) (reading code : ℕ) (new : SteeredCount) :
    Type 0 where
  pub called : Result ⊤ Refusal
  pub commands : IsAdvancedBy clocks_of HasCounted HasRoom IsShort is_late 0 reading
      (counted_clock old) (course_of old.steered) called (counted_clock new) (course_of new.steered)
  pub clocks : MatchOption (reading_refusal reading old.steered)
      (((called ≡ Ok (tt {0})) × IsArrived is_late reading old.steered new.steered)
      ⊎ IsFull second_most called new)
      (λ refusal. (called ≡ Err refusal) × (new ≡ old))
  pub stated : code ≡ number_of (code_of_call called)

-- the most commands that a command makes, by the request that it acts as
abbrev pub most_of : Option Timex → ℕ
most_of None = second_most
most_of (Some request) = request_most

-- a command has a result, which the code reports. `commands` names the commands of the seconds that
-- begin before it, and those that it makes itself: all of them are counted
pub record IsCommandCounted (old : SteeredCount) (reading : ℕ) (cmd : Command) (code : ℕ)
    (new : SteeredCount) : Type 0 where
  pub called : Result ⊤ Refusal
  pub commands : IsAppliedTo clocks_of HasCounted HasRoom IsShort 0 reading cmd (counted_clock old)
      (course_of old.steered) called (counted_clock new) (course_of new.steered)
  pub clocks : IsApplied reading cmd old.steered called new.steered
      ⊎ IsFull (most_of (request_of cmd)) called new
  pub stated : code ≡ number_of (code_of_call called)

-- the code of the command with a number, if there is one, and the clocks after it
abbrev pub IsNtpApplied : SteeredCount → ℕ → Option Command → ℕ → SteeredCount → Type 0
IsNtpApplied old reading named code new =
    MatchOption named
    ((code ≡ number_of BadCommand) × (new ≡ old))
    (λ cmd. IsCommandCounted old reading cmd code new)

-- the struct and the state after an answer: a reply is written, at a refusal neither is
abbrev pub IsWritten : Result Reply Refusal → KernelTimex → ℕ → KernelTimex → ℕ → Type 0
IsWritten answer old before new after =
    MatchResult answer
    (λ reply. (new ≡ answered old reply) × (after ≡ state_number reply.state))
    (λ refusal. (new ≡ old) × (after ≡ before))

-- a request has an answer, which is written and which the code reports. `commands` names the
-- commands of the seconds that begin before it, and those that it makes itself: all of them are
-- counted
pub record IsNtpAnswered (old : SteeredCount) (reading : ℕ) (timex : KernelTimex) (state code : ℕ)
    (timex' : KernelTimex) (state' : ℕ) (new : SteeredCount) : Type 0 where
  pub answer : Result Reply Refusal
  pub commands : IsAnsweredTo clocks_of HasCounted HasRoom IsShort 0 reading (asked_of timex)
      (counted_clock old) (course_of old.steered) answer (counted_clock new) (course_of new.steered)
  pub clocks : IsAnswered reading (asked_of timex) old.steered answer new.steered
      ⊎ IsFull request_most answer new
  pub stated : code ≡ number_of (code_of_call (without_reply answer))
  pub written : IsWritten answer timex state timex' state'

-- the code and the reading at which the next second of REALTIME begins
abbrev pub IsNextSecond : SteeredCount → ℕ → ℕ → ℕ → Type 0
IsNextSecond counted old new code =
    IsReached counted.steered.clock.base Realtime
    (nanoseconds (second_time counted.steered.next)) old new code
