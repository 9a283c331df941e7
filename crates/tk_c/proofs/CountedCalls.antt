-- What calls do to clocks that count their commands is done to steered clocks, unless the front
-- leaves no room.
use Rattle.std.proofs.Common.{◌≡◌, ◌∙◌, ap, refl, subst, sym, ℕ, ◌+◌, ◌<◌, Bool, true, false, inl, inr, arith}
use Rattle.std.specs.Prelude.{◌⊎◌, ⊤, Option, Some, None, Result, Ok, Err, MatchOption, MatchResult}
use Rattle.tk_clock.specs.declared.command.Command.{Command}
use Rattle.tk_clock.specs.declared.refusal.Refusal.{Refusal}
use Rattle.tk_clock.specs.declared.refusal.Refusal.TheVariants.{Full}
use Rattle.tk_clock.specs.Command.{is_resume}
use Rattle.tk_clock.specs.Limits.{counted_most}
use Rattle.tk_ntp.specs.declared.reply.Reply.{Reply}
use Rattle.tk_ntp.specs.declared.timex.Timex.{Timex}
use Rattle.tk_ntp.specs.Advance.{IsAdvanced}
use Rattle.tk_ntp.specs.Applied.{IsApplied, IsPlain, request_of, without_reply}
use Rattle.tk_ntp.specs.Asked.{IsAnswered, IsAsked, IsCommanded, first_fault}
use Rattle.tk_ntp.specs.Course.{Course, course_of, seen}
use Rattle.tk_ntp.specs.Keeping.{HasArrivedOr, IsAdvancedTo, IsAnsweredTo, IsAppliedTo, IsAskedTo, IsCommandedTo, IsDirectTo, IsFollowing, IsPlainTo, IsUnmade, request_most, second_most}
use Rattle.tk_ntp.specs.SteeredClock.{SteeredClock, reading_refusal}
use Rattle.tk_ntp.proofs.SeenBy.{advanced, asked, commanded, same_seen}
use Rattle.tk_c.specs.declared.counted.CountedClock.{CountedClock}
use Rattle.tk_c.specs.declared.counted_ntp.SteeredCount.{SteeredCount}
use Rattle.tk_c.specs.CountedNtp.{IsAdvancedTo as IsAdvancedCounted, IsArrived, IsCommandCounted, IsFull, IsNtpAnswered, IsWritten, counted_clock, kept_with, most_of}
use Rattle.tk_c.specs.declared.timex.KernelTimex.{KernelTimex}
use Rattle.tk_c.specs.CallResults.{code_of_call}
use Rattle.tk_c.specs.Codes.{number_of}
use Rattle.tk_c.specs.Timex.{request_of as asked_of}
use Rattle.tk_c.specs.Room.{HasCounted, HasRoom, IsShort, clocks_of}

-- what leaves both parts leaves the whole
same : (old new : SteeredCount) → counted_clock new ≡ counted_clock old →
    course_of new.steered ≡ course_of old.steered → new ≡ old
same old new is is' =
    ap (λ (a : CountedClock). kept_with a (course_of new.steered)) is
    ∙ ap (λ (a : Course). kept_with (counted_clock old) a) is'

begun : (is_late : Bool) (reading : ℕ) (old new : SteeredCount) →
    HasArrivedOr clocks_of HasCounted HasRoom IsShort is_late 0 reading (counted_clock old)
    (course_of old.steered)
    (Ok (tt {0})) (counted_clock new) (course_of new.steered) →
    IsArrived is_late reading old.steered new.steered
begun true reading old new h =
    advanced clocks_of HasCounted HasRoom IsShort true 0 reading (counted_clock old)
    (course_of old.steered) (counted_clock new)
    (course_of new.steered) h
begun false reading old new h =
    advanced clocks_of HasCounted HasRoom IsShort false 0 reading (counted_clock old)
    (course_of old.steered) (counted_clock new)
    (course_of new.steered) h

arrived-by : (refused : Option Refusal) (is_late : Bool) (reading : ℕ) (old new : SteeredCount)
    (result : Result ⊤ Refusal) →
    MatchOption refused
    (HasArrivedOr clocks_of HasCounted HasRoom IsShort is_late 0 reading (counted_clock old)
    (course_of old.steered) result
    (counted_clock new) (course_of new.steered))
    (λ r. (result ≡ Err r) × (counted_clock new ≡ counted_clock old)
    × (course_of new.steered ≡ course_of old.steered)) →
    MatchOption refused
    (((result ≡ Ok (tt {0})) × IsArrived is_late reading old.steered new.steered)
    ⊎ IsFull second_most result new)
    (λ r. (result ≡ Err r) × (new ≡ old))
arrived-by None is_late reading old new (Ok done) h =
    inl (refl, begun is_late reading old new h)
arrived-by None is_late reading old new (Err refusal) h =
    inr (ap Err h.unready.short.0, h.unready.short.1)
arrived-by (Some refusal) is_late reading old new result h = (h.0, same old new h.1 h.2)

-- an advance
pub arrived : (is_late : Bool) (reading : ℕ) (old new : SteeredCount) (result : Result ⊤ Refusal) →
    IsAdvancedTo clocks_of HasCounted HasRoom IsShort is_late 0 reading (counted_clock old)
    (course_of old.steered) result
    (counted_clock new) (course_of new.steered) →
    MatchOption (reading_refusal reading old.steered)
    (((result ≡ Ok (tt {0})) × IsArrived is_late reading old.steered new.steered)
    ⊎ IsFull second_most result new)
    (λ r. (result ≡ Err r) × (new ≡ old))
arrived is_late reading old new result =
    arrived-by (reading_refusal reading old.steered) is_late reading old new result

-- a call that isn't made found no room
unmade : (count reading : ℕ) (old new : SteeredCount) (refusal : Refusal) → 3 < count + 1 →
    IsUnmade clocks_of HasCounted HasRoom IsShort count 0 reading (counted_clock old)
    (course_of old.steered) refusal
    (counted_clock new) (course_of new.steered) →
    (refusal ≡ Full) × (counted_most < new.front + count)
unmade count reading old new refusal more (inl h) =
    let few : counted_most < new.front + 3 = h.unready.short.1 in
    (h.unready.short.0, omega (arith, few, more))
unmade count reading old new refusal more (inr h) = (h.2.short.0, h.2.short.1)

short : {R : Type 0} (count reading : ℕ) (old new : SteeredCount) (result : Result R Refusal) →
    3 < count + 1 →
    MatchResult result (λ _. ⊥)
    (λ refusal. IsUnmade clocks_of HasCounted HasRoom IsShort count 0 reading (counted_clock old)
    (course_of old.steered)
    refusal (counted_clock new) (course_of new.steered)) →
    IsFull count result new
short count reading old new (Ok value) more h = absurd h
short count reading old new (Err refusal) more h =
    let is = unmade count reading old new refusal more h in (ap Err is.0, is.1)

answered-by : (fault : Option Refusal) (reading : ℕ) (request : Timex) (old new : SteeredCount)
    (result : Result Reply Refusal) →
    MatchOption fault
    (IsFollowing clocks_of HasCounted HasRoom IsShort request_most 0 reading
    (λ x middle. IsAskedTo clocks_of HasCounted HasRoom IsShort 0 reading request x middle result
    (counted_clock new) (course_of new.steered)) (counted_clock old) (course_of old.steered) result
    (counted_clock new) (course_of new.steered))
    (λ r. (result ≡ Err r) × (counted_clock new ≡ counted_clock old)
    × (course_of new.steered ≡ course_of old.steered)) →
    MatchOption fault
    ((middle : SteeredClock) × IsAdvanced reading old.steered middle
    × IsAsked reading request middle result new.steered)
    (λ r. (result ≡ Err r) × (new.steered ≡ old.steered))
    ⊎ IsFull request_most result new
answered-by None reading request old new result (inl h) =
    inr (short request_most reading old new result (omega arith) h)
answered-by None reading request old new result (inr h) = inl (
  seen h.0.clock h.2,
  advanced clocks_of HasCounted HasRoom IsShort false 0 reading (counted_clock old)
      (course_of old.steered) h.0 h.2 h.3,
  asked clocks_of HasCounted HasRoom IsShort 0 reading request h.0 h.1 h.2 result
      (counted_clock new)
      (course_of new.steered) h.4 h.5,
)
answered-by (Some refusal) reading request old new result h = inl (
  h.0,
  same_seen clocks_of HasCounted HasRoom IsShort (counted_clock old) (counted_clock new)
      (course_of old.steered) (course_of new.steered) h.1 h.2,
)

-- a request
pub answered : (reading : ℕ) (request : Timex) (old new : SteeredCount)
    (result : Result Reply Refusal) →
    IsAnsweredTo clocks_of HasCounted HasRoom IsShort 0 reading request (counted_clock old)
    (course_of old.steered) result
    (counted_clock new) (course_of new.steered) →
    IsAnswered reading request old.steered result new.steered
    ⊎ IsFull request_most result new
answered reading request old new result =
    answered-by (first_fault reading request old.steered) reading request old new result

followed-by : (refused : Option Refusal) (reading : ℕ) (cmd : Command) (old new : SteeredCount)
    (result : Result ⊤ Refusal) →
    MatchOption refused
    (IsFollowing clocks_of HasCounted HasRoom IsShort second_most 0 reading
    (λ x middle. IsCommandedTo clocks_of HasCounted HasRoom IsShort 0 reading cmd x middle result
    (counted_clock new) (course_of new.steered)) (counted_clock old) (course_of old.steered) result
    (counted_clock new) (course_of new.steered))
    (λ r. (result ≡ Err r) × (counted_clock new ≡ counted_clock old)
    × (course_of new.steered ≡ course_of old.steered)) →
    MatchOption refused
    ((middle : SteeredClock) × IsAdvanced reading old.steered middle
    × IsCommanded reading cmd middle result new.steered)
    (λ r. (result ≡ Err r) × (new.steered ≡ old.steered))
    ⊎ IsFull second_most result new
followed-by None reading cmd old new result (inl h) =
    inr (short second_most reading old new result (omega arith) h)
followed-by None reading cmd old new result (inr h) = inl (
  seen h.0.clock h.2,
  advanced clocks_of HasCounted HasRoom IsShort false 0 reading (counted_clock old)
      (course_of old.steered) h.0 h.2 h.3,
  commanded clocks_of HasCounted HasRoom IsShort 0 reading cmd h.0 h.1 h.2 result
      (counted_clock new)
      (course_of new.steered) h.4 h.5,
)
followed-by (Some refusal) reading cmd old new result h = inl (
  h.0,
  same_seen clocks_of HasCounted HasRoom IsShort (counted_clock old) (counted_clock new)
      (course_of old.steered) (course_of new.steered) h.1 h.2,
)

direct : (reading : ℕ) (cmd : Command) (old new : SteeredCount) (result : Result ⊤ Refusal) →
    IsDirectTo clocks_of HasCounted HasRoom IsShort 0 reading cmd (counted_clock old)
    (course_of old.steered) result
    (counted_clock new) (course_of new.steered) →
    IsCommanded reading cmd old.steered result new.steered
    ⊎ IsFull second_most result new
direct reading cmd old new (Ok done) (inl h) = absurd h
direct reading cmd old new (Err refusal) (inl h) = inr (ap Err h.0.short.0, h.0.short.1)
direct reading cmd old new result (inr h) = inl
    (commanded clocks_of HasCounted HasRoom IsShort 0 reading cmd (counted_clock old) h.0
    (course_of old.steered) result
    (counted_clock new) (course_of new.steered) h.1 h.2)

plain : (resumes : Bool) (reading : ℕ) (cmd : Command) (old new : SteeredCount)
    (result : Result ⊤ Refusal) →
    IsPlainTo clocks_of HasCounted HasRoom IsShort resumes 0 reading cmd (counted_clock old)
    (course_of old.steered) result
    (counted_clock new) (course_of new.steered) →
    IsPlain resumes reading cmd old.steered result new.steered
    ⊎ IsFull second_most result new
plain true reading cmd old new result h = direct reading cmd old new result h
plain false reading cmd old new result h =
    followed-by (reading_refusal reading old.steered) reading cmd old new result h

-- the result of a command that acts as a request
as_command : (reading : ℕ) (request : Timex) (old new : SteeredCount) (result : Result ⊤ Refusal)
    (answer : Result Reply Refusal) → result ≡ without_reply answer →
    IsAnswered reading request old.steered answer new.steered
    ⊎ IsFull request_most answer new →
    ((answer : Result Reply Refusal)
    × IsAnswered reading request old.steered answer new.steered
    × (result ≡ without_reply answer))
    ⊎ IsFull request_most result new
as_command reading request old new result answer is (inl h) = inl (answer, h, is)
as_command reading request old new result answer is (inr h) =
    inr (is ∙ ap without_reply h.0, h.1)

applied-by : (acts : Option Timex) (reading : ℕ) (cmd : Command) (old new : SteeredCount)
    (result : Result ⊤ Refusal) →
    MatchOption acts
    (IsPlainTo clocks_of HasCounted HasRoom IsShort (is_resume cmd) 0 reading cmd
    (counted_clock old)
    (course_of old.steered) result (counted_clock new) (course_of new.steered))
    (λ request. (answer : Result Reply Refusal)
    × IsAnsweredTo clocks_of HasCounted HasRoom IsShort 0 reading request (counted_clock old)
    (course_of old.steered)
    answer (counted_clock new) (course_of new.steered)
    × (result ≡ without_reply answer)) →
    MatchOption acts
    (IsPlain (is_resume cmd) reading cmd old.steered result new.steered)
    (λ request. (answer : Result Reply Refusal)
    × IsAnswered reading request old.steered answer new.steered
    × (result ≡ without_reply answer))
    ⊎ IsFull (most_of acts) result new
applied-by None reading cmd old new result h = plain (is_resume cmd) reading cmd old new result h
applied-by (Some request) reading cmd old new result h =
    as_command reading request old new result h.0 h.2 (answered reading request old new h.0 h.1)

-- a command
pub applied : (reading : ℕ) (cmd : Command) (old new : SteeredCount) (result : Result ⊤ Refusal) →
    IsAppliedTo clocks_of HasCounted HasRoom IsShort 0 reading cmd (counted_clock old)
    (course_of old.steered) result
    (counted_clock new) (course_of new.steered) →
    IsApplied reading cmd old.steered result new.steered
    ⊎ IsFull (most_of (request_of cmd)) result new
applied reading cmd old new result = applied-by (request_of cmd) reading cmd old new result

-- an advance that was made over a copy of the clocks, which is stored
pub advance_made : (is_late : Bool) (reading code : ℕ) (old new : SteeredCount)
    (clocks clocks' : CountedClock) (course course' : Course) (called : Result ⊤ Refusal) →
    clocks ≡ counted_clock old → course ≡ course_of old.steered → new ≡ kept_with clocks' course' →
    IsAdvancedTo clocks_of HasCounted HasRoom IsShort is_late 0 reading clocks course called clocks'
    course' →
    code ≡ number_of (code_of_call called) →
    IsAdvancedCounted is_late old reading code new
advance_made is_late reading code old new clocks clocks' course course' called is is' kept h stated
    =
    let commands =
    subst (λ (a : CountedClock).
    IsAdvancedTo clocks_of HasCounted HasRoom IsShort is_late 0 reading a (course_of old.steered)
    called clocks' course') is
    (subst (λ (a : Course).
    IsAdvancedTo clocks_of HasCounted HasRoom IsShort is_late 0 reading clocks a called clocks'
    course') is' h) in
    subst (λ (a : SteeredCount). IsAdvancedCounted is_late old reading code a) (sym kept) (record {
      called = called;
      commands = commands;
      clocks = arrived is_late reading old (kept_with clocks' course') called commands;
      stated = stated;
    })

-- a command
pub command_made : (reading code : ℕ) (cmd : Command) (old new : SteeredCount)
    (clocks clocks' : CountedClock) (course course' : Course) (called : Result ⊤ Refusal) →
    clocks ≡ counted_clock old → course ≡ course_of old.steered → new ≡ kept_with clocks' course' →
    IsAppliedTo clocks_of HasCounted HasRoom IsShort 0 reading cmd clocks course called clocks'
    course' →
    code ≡ number_of (code_of_call called) →
    IsCommandCounted old reading cmd code new
command_made reading code cmd old new clocks clocks' course course' called is is' kept h stated =
    let commands =
    subst (λ (a : CountedClock).
    IsAppliedTo clocks_of HasCounted HasRoom IsShort 0 reading cmd a (course_of old.steered)
    called clocks' course') is
    (subst (λ (a : Course).
    IsAppliedTo clocks_of HasCounted HasRoom IsShort 0 reading cmd clocks a called clocks'
    course') is' h) in
    subst (λ (a : SteeredCount). IsCommandCounted old reading cmd code a) (sym kept) (record {
      called = called;
      commands = commands;
      clocks = applied reading cmd old (kept_with clocks' course') called commands;
      stated = stated;
    })

-- a request
pub request_made : (reading code : ℕ) (timex : KernelTimex) (state : ℕ) (timex' : KernelTimex)
    (state' : ℕ) (request : Timex) (old new : SteeredCount) (clocks clocks' : CountedClock)
    (course course' : Course) (answer : Result Reply Refusal) →
    request ≡ asked_of timex → clocks ≡ counted_clock old → course ≡ course_of old.steered →
    new ≡ kept_with clocks' course' →
    IsAnsweredTo clocks_of HasCounted HasRoom IsShort 0 reading request clocks course answer clocks'
    course' →
    code ≡ number_of (code_of_call (without_reply answer)) →
    IsWritten answer timex state timex' state' →
    IsNtpAnswered old reading timex state code timex' state' new
request_made reading code timex state timex' state' request old new clocks clocks' course course'
    answer asks is is' kept h stated written =
    let commands =
    subst (λ (a : Timex).
    IsAnsweredTo clocks_of HasCounted HasRoom IsShort 0 reading a (counted_clock old)
    (course_of old.steered) answer clocks' course') asks
    (subst (λ (a : CountedClock).
    IsAnsweredTo clocks_of HasCounted HasRoom IsShort 0 reading request a
    (course_of old.steered) answer clocks' course') is
    (subst (λ (a : Course).
    IsAnsweredTo clocks_of HasCounted HasRoom IsShort 0 reading request clocks a answer clocks'
    course') is' h)) in
    subst (λ (a : SteeredCount). IsNtpAnswered old reading timex state code timex' state' a) (sym
    kept)
    (record {
      answer = answer;
      commands = commands;
      clocks = answered reading (asked_of timex) old (kept_with clocks' course') answer commands;
      stated = stated;
      written = written;
    })
