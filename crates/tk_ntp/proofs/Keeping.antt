-- Seconds that begin, whoever keeps the clocks.
use Rattle.std.proofs.Common.{◌≡◌, refl, sym, ap, ◌∙◌, ℕ, ◌+◌, ◌<◌, arith, inl, inr, Bool, true, false, List, []}
use Rattle.std.specs.Prelude.{⊤, Option, Some, None, Result, Ok, Err, MatchOption, MatchResult, ◌⊎◌, if◌then◌else◌}
use Rattle.tk_clock.specs.declared.command.Entry.{Entry}
use Rattle.tk_clock.specs.declared.refusal.Refusal.{Refusal}
use Rattle.tk_clock.specs.declared.refusal.Refusal.TheVariants.{Invalid}
use Rattle.tk_clock.specs.Limits.{clock_end}
use Rattle.tk_clock.specs.declared.command.Command.{Command}
use Rattle.tk_clock.specs.declared.command.Command.TheVariants.{Update}
use Rattle.tk_clock.specs.Refusal.{first_of, order_refusal, state_refusal}
use Rattle.tk_clock.specs.State.{State, effect}
use Rattle.tk_ntp.specs.declared.reply.Reply.{Reply}
use Rattle.tk_ntp.specs.declared.timex.Timex.{Timex}
use Rattle.tk_ntp.specs.Advance.{leapt, seconds_left, IsNoneDue}
use Rattle.tk_ntp.specs.Course.{Course, seen}
use Rattle.tk_ntp.specs.Entries.{given_at, second_begun, with_second}
use Rattle.tk_ntp.specs.Fault.{is_faulty}
use Rattle.tk_ntp.specs.Keeping.{HasArrived, IsAdvancedTo, IsAnsweredTo, IsAskedTo, IsCommandedTo, IsFollowedTo, IsFollowing, IsReady, IsStopped, IsTickedTo, Still, request_most, second_most}
use Rattle.tk_ntp.specs.Second.{leap_at}
use Rattle.tk_ntp.specs.Staged.{IsSettled}
use Rattle.tk_ntp.specs.SteeredClock.{SteeredClock, after_or, given, reading_refusal, steered_at}
use Rattle.tk_ntp.proofs.Seconds.{fewer, fewer_late}

-- a second begins in the discipline, leaps, and gets its rate
pub second_made : (is_late : Bool) (reading at : ℕ) (steered : SteeredClock) →
    let given = given_at is_late reading at in
    steered_at given
    (leapt given (leap_at steered.steering.ntp steered.next)
    (with_second is_late reading at steered))
    ≡ second_begun is_late reading at steered
second_made true reading at steered = refl
second_made false reading at steered = refl

-- a second that begins, late or not, leaves fewer of them
pub fewer_left : (is_late : Bool) (reading at : ℕ) (steered : SteeredClock) →
    steered.next < clock_end →
    seconds_left (second_begun is_late reading at steered) < seconds_left steered
fewer_left true reading at steered low = fewer_late at reading steered low
fewer_left false reading at steered low = fewer at steered low

pub one_more : (count : ℕ) → count + 2 ≡ count + 1 + 1
one_more count = omega arith

-- the clocks after a command that they accept
pub accepted : (reading : ℕ) (cmd : Command) (before after : State) →
    state_refusal before reading cmd ≡ None → after ≡ given reading cmd before →
    after ≡ effect before reading cmd
accepted reading cmd before after none is =
    is ∙ ap (λ (r : Option Refusal). after_or r (effect before reading cmd) before) none

same_refusal : (a b : Refusal) → Some a ≡ Some b → a ≡ b
same_refusal a b e = cc e

module _ {X : Type 0} (state : X → State) (is_after : X → List Entry → X → Type 0)
    (has_room : ℕ → X → Type 0) (is_short : ℕ → X → Refusal → Type 0) where
  followed-by : (stays : (a : X) → is_after a [] a) (refused order : Option Refusal)
      (who reading : ℕ) (a : X) (before : Course) (result : Result ⊤ Refusal) (b : X)
      (after : Course) → IsNoneDue (seen (state a) before) reading → order ≡ None →
      state_refusal (state a) reading Update ≡ refused → has_room 3 a →
      IsCommandedTo state is_after has_room is_short who reading Update a before result b after →
      MatchOption (first_of refused order)
      (IsFollowing state is_after has_room is_short second_most who reading
      (λ x middle. IsCommandedTo state is_after has_room is_short who reading Update x middle
      result b after) a before result b after)
      (λ refusal. (result ≡ Err refusal) × (b ≡ a) × (after ≡ before))
  followed-by stays None None who reading a before result b after none is is' room h =
      inr (
        a,
        a,
        before,
        record { begun = Still a before; none = none },
        record { same = refl; kept = stays a; room = room },
        h,
      )
  followed-by stays None (Some refusal) who reading a before result b after none is is' room h =
      absurd (cc is)
  followed-by stays (Some refusal) order who reading a before (Ok done) b after none is is' room h =
      absurd (cc (sym is' ∙ h.answer.0))
  followed-by stays (Some refusal) order who reading a before (Err given) b after none is is' room
      h =
      (ap (λ r. Err r) (same_refusal given refusal (sym h.answer.0 ∙ is')), h.entries.0, h.entries.1)

  -- an update of settled clocks, before which no second begins
  pub followed : (stays : (a : X) → is_after a [] a) (who reading : ℕ) (a : X) (before : Course)
      (result : Result ⊤ Refusal) (b : X) (after : Course) →
      IsSettled (seen (state a) before) reading → has_room 3 a →
      IsCommandedTo state is_after has_room is_short who reading Update a before result b after →
      IsFollowedTo state is_after has_room is_short who reading Update a before result b after
  followed stays who reading a before result b after settled room h =
      followed-by stays (state_refusal (state a) reading Update)
      (order_refusal (state a).base.counter before.last_account reading Update) who reading a before
      result b after settled.none settled.order refl room h

  ticked-by : (stays : (a : X) → is_after a [] a) (refused order : Option Refusal)
      (who reading : ℕ) (a : X) (before : Course) (result : Result ⊤ Refusal) (b : X)
      (after : Course) → IsNoneDue (seen (state a) before) reading → order ≡ None →
      state_refusal (state a) reading Update ≡ refused → has_room 3 a →
      IsCommandedTo state is_after has_room is_short who reading Update a before result b after →
      (MatchOption (first_of refused order)
      (HasArrived state is_after has_room is_short true who reading a before a before)
      (λ refusal. (Ok (tt {0}) ≡ Err refusal) × (a ≡ a) × (before ≡ before))
      × MatchOption (first_of refused order)
      (IsFollowing state is_after has_room is_short second_most who reading
      (λ x middle. IsCommandedTo state is_after has_room is_short who reading Update x middle
      result b after) a before result b after)
      (λ refusal. (result ≡ Err refusal) × (b ≡ a) × (after ≡ before)))
      ⊎ MatchResult result (λ _. ⊥)
      (λ given. MatchOption (first_of refused order)
      (IsStopped state is_after has_room is_short true who reading a before given b after)
      (λ refusal. ◌≡◌ {A = Result ⊤ Refusal} (Err given) (Err refusal) × (b ≡ a)
      × (after ≡ before)))
  ticked-by stays None None who reading a before result b after none is is' room h = inl (
    record { begun = Still a before; none = none },
    followed-by stays None None who reading a before result b after none is is' room h,
  )
  ticked-by stays None (Some refusal) who reading a before result b after none is is' room h =
      absurd (cc is)
  ticked-by stays (Some refusal) order who reading a before (Ok done) b after none is is' room h =
      absurd (cc (sym is' ∙ h.answer.0))
  ticked-by stays (Some refusal) order who reading a before (Err given) b after none is is' room h =
      inr (followed-by stays (Some refusal) order who reading a before (Err given) b after none is
      is' room h)

  stated : (who reading : ℕ) (a : X) (before : Course) (result : Result ⊤ Refusal) (b : X)
      (after : Course) →
      (IsAdvancedTo state is_after has_room is_short true who reading a before (Ok (tt {0})) a before
      × IsFollowedTo state is_after has_room is_short who reading Update a before result b after)
      ⊎ MatchResult result (λ _. ⊥)
      (λ refusal. IsAdvancedTo state is_after has_room is_short true who reading a before
      (Err refusal) b after) →
      IsTickedTo state is_after has_room is_short who reading a before result b after
  stated who reading a before result b after (inl h) = inl (a, before, h.0, h.1)
  stated who reading a before result b after (inr h) = inr h

  -- a tick of settled clocks, before which no second begins
  pub ticked : (stays : (a : X) → is_after a [] a) (who reading : ℕ) (a : X) (before : Course)
      (result : Result ⊤ Refusal) (b : X) (after : Course) →
      IsSettled (seen (state a) before) reading → has_room 3 a →
      IsCommandedTo state is_after has_room is_short who reading Update a before result b after →
      IsTickedTo state is_after has_room is_short who reading a before result b after
  ticked stays who reading a before result b after settled room h =
      stated who reading a before result b after
      (ticked-by stays (state_refusal (state a) reading Update)
      (order_refusal (state a).base.counter before.last_account reading Update) who reading a before
      result b after settled.none settled.order refl room h)

  answered-by : (faulty : Bool) (refused : Option Refusal) (who reading : ℕ) (request : Timex)
      (a x ready : X) (before middle : Course) (result : Result Reply Refusal) (b : X)
      (after : Course) → faulty ≡ false →
      MatchOption refused
      (HasArrived state is_after has_room is_short false who reading a before x middle)
      (λ refusal. (Ok (tt {0}) ≡ Err refusal) × (x ≡ a) × (middle ≡ before)) →
      IsReady state is_after has_room is_short request_most x ready →
      IsAskedTo state is_after has_room is_short who reading request ready middle result b after →
      MatchOption (first_of (if faulty then Some Invalid else None) refused)
      (IsFollowing state is_after has_room is_short request_most who reading
      (λ y course. IsAskedTo state is_after has_room is_short who reading request y course result b
      after) a before result b after)
      (λ refusal. (result ≡ Err refusal) × (b ≡ a) × (after ≡ before))
  answered-by true refused who reading request a x ready before middle result b after sound arrived
      has_room' asked =
      absurd (cc sound)
  answered-by false None who reading request a x ready before middle result b after sound arrived
      has_room' asked =
      inr (x, ready, middle, arrived, has_room', asked)
  answered-by false (Some refusal) who reading request a x ready before middle result b after sound
      arrived has_room' asked =
      absurd (cc arrived.0)

  -- a request without a fault, after the seconds up to its reading
  pub answered : (who reading : ℕ) (request : Timex) (a x ready : X) (before middle : Course)
      (result : Result Reply Refusal) (b : X) (after : Course) → is_faulty request ≡ false →
      IsAdvancedTo state is_after has_room is_short false who reading a before (Ok (tt {0})) x middle →
      IsReady state is_after has_room is_short request_most x ready →
      IsAskedTo state is_after has_room is_short who reading request ready middle result b after →
      IsAnsweredTo state is_after has_room is_short who reading request a before result b after
  answered who reading request a x ready before middle result b after =
      answered-by (is_faulty request) (reading_refusal reading (seen (state a) before)) who reading
      request a x ready before middle result b after
