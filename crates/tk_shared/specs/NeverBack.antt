-- With an honest counter MONOTONIC never falls, whichever callers ask for it.
use Rattle.std.specs.Prelude.{◌≡◌, ◌⊎◌, ℕ, ◌-◌, ◌<◌, ◌≤◌, ◌≤ℤ◌, List, false, length, Ok, Some, slice_get}
use mathlib.Core.List.{IsPrefix}
use Rattle.tk_counter.specs.Counter.{half}
use Rattle.tk_clock.specs.declared.clock_id.ClockId.TheVariants.{Monotonic}
use Rattle.tk_clock.specs.declared.timespec.Timespec.{Timespec}
use Rattle.tk_clock.specs.Journal.{Journal, is_asleep_at}
use Rattle.tk_clock.specs.Time.{nanoseconds}
use Rattle.tk_now.specs.declared.rule.Taken.{Taken}
use Rattle.tk_now.specs.declared.rule.Answer.{Answer}
use Rattle.tk_now.specs.Honest.{IsTrueCount, masked}
use Rattle.tk_now.specs.Life.{AreNear}
use Rattle.tk_now.specs.Views.{taken}
use Rattle.tk_shared.specs.Callers.{Known, IsInformed, IsKnownBy}
use Rattle.tk_shared.specs.Closing.{IsClosed}
use Rattle.tk_shared.specs.Now.{IsNow, IsSeenBy}

-- the counter was honest at all commands and at two answers. `at` is the true count of cycles at each
-- moment, which never falls; the counts of the readings are ones that the counter reached while the
-- reading was taken
pub record IsHonest (history : Journal) (commands : List Taken) (first second : Answer)
    : Type 0 where
  pub at : ℕ → ℕ
  pub grows : (m n : ℕ) → m ≤ n → at m ≤ at n
  -- the true counts of the commands' readings, the opening's first, and of the answers' readings
  pub command : ℕ → ℕ
  pub one : ℕ
  pub two : ℕ
  pub commands_read : (place : ℕ) (t : Taken) → slice_get commands place ≡ Some t →
      IsTrueCount at history.opening.counter.bits t (command place)
  pub first_read : IsTrueCount at history.opening.counter.bits
      (masked history.opening.counter.bits first.taken) one
  pub second_read : IsTrueCount at history.opening.counter.bits
      (masked history.opening.counter.bits second.taken) two
  -- while the clocks are awake, at most half the counter's range passes from one command to the next,
  -- and from the last command before the second answer to that answer
  pub near : AreNear history command
  pub close : is_asleep_at history second.place ≡ false →
      two - command second.place ≤ half history.opening.counter

-- a call that a caller made: the caller before it and after it, and at the end, as one of these. What
-- the caller knew after the call is part of what it knew at the end, as the clauses of each later call
-- state
pub record IsCallOf (callers : List Known) (old new : Known) : Type 0 where
  pub last : Known
  pub place : ℕ
  pub among : slice_get callers place ≡ Some last
  pub known : IsKnownBy new last

-- a call of `now` returned this time of MONOTONIC
abbrev pub HasSeen : {S : Type 0} → (S → ℕ → ℕ → Type 0) → S → Known → Known → Timespec → Type 0
HasSeen answers counter old new time =
    IsSeenBy answers counter Monotonic new.seen old.noticed new.noticed (Ok time)

-- a call of `now_fast` did
abbrev pub HasTaken : {S : Type 0} → (S → ℕ → ℕ → Type 0) → S → Known → Known → Timespec → Type 0
HasTaken answers counter old new time = IsNow answers counter Monotonic old new time

-- the answer that such a call listed: the number of commands before it, the moments of its two looks,
-- and its reading
abbrev pub answer_seen : {S : Type 0} (answers : S → ℕ → ℕ → Type 0) (counter : S)
    (old new : Known) (time : Timespec) → HasSeen answers counter old new time → Answer
answer_seen answers counter old new time is = record {
  place = length new.seen.entries;
  taken = taken is.timed.from is.timed.to is.answer;
}

abbrev pub answer_taken : {S : Type 0} (answers : S → ℕ → ℕ → Type 0) (counter : S)
    (old new : Known) (time : Timespec) → HasTaken answers counter old new time → Answer
answer_taken answers counter old new time is = record {
  place = is.0.front;
  taken = taken is.2.timed.from is.2.timed.to is.2.answer;
}

-- a call of `now` or of `now_fast` returned this time, and listed this answer
abbrev pub IsNowOf : {S : Type 0} → (S → ℕ → ℕ → Type 0) → S → Known → Known → Timespec → Answer →
    Type 0
IsNowOf answers counter old new time answer =
    ((is : HasSeen answers counter old new time)
    × (answer ≡ answer_seen answers counter old new time is))
    ⊎ ((is : HasTaken answers counter old new time)
    × (answer ≡ answer_taken answers counter old new time is))

-- the first call was over before the second one's first look: its second look was no later than that
-- one. That is so if the second caller knew then what the first one knew after
-- its call, as a caller does of its own calls and of another caller's by `follow`, and if a command
-- was accepted between the two answers. For other calls no clause gives the order of the moments
abbrev pub IsOverBefore : Known → Known → Answer → Answer → Type 0
IsOverBefore new old' first second = (first.taken.to ≤ second.taken.from)
    ⊎ IsPrefix new.noticed.log old'.noticed.log ⊎ (first.place < second.place)

-- two calls by callers of one keeper, which was closed since. The first was over before the second
-- one's first look, and the counter was honest. Then the first time is at most the second
abbrev pub NowNeverFalls : {S : Type 0} → (S → ℕ → ℕ → Type 0) → Type 0
NowNeverFalls {S} answers = (journal : Journal) (callers : List Known)
    (closed : IsClosed journal callers) (counter counter' : S) (old new old' new' : Known)
    (time time' : Timespec) (first second : Answer) → IsCallOf callers old new →
    IsCallOf callers old' new' → IsNowOf answers counter old new time first →
    IsNowOf answers counter' old' new' time' second → IsOverBefore new old' first second →
    IsHonest closed.history closed.commands first second → nanoseconds time ≤ℤ nanoseconds time'

-- two calls by callers of one keeper, which may be open: a caller that was informed of everything
-- knows all that the two knew after their calls. The first call was over before the second one's
-- first look, and the counter was honest. Then the first time is at most the second
abbrev pub OpenNowNeverFalls : {S : Type 0} → (S → ℕ → ℕ → Type 0) → Type 0
OpenNowNeverFalls {S} answers = (last : Known) → IsInformed last → (counter counter' : S)
    (old new old' new' : Known) (time time' : Timespec) (first second : Answer) →
    IsKnownBy new last → IsKnownBy new' last → IsNowOf answers counter old new time first →
    IsNowOf answers counter' old' new' time' second → IsOverBefore new old' first second →
    IsHonest last.seen last.noticed.commands first second → nanoseconds time ≤ℤ nanoseconds time'
