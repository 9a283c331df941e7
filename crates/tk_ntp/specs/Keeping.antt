-- A discipline gives its commands to whatever keeps the clocks: `state` is what the clocks are,
-- `is_after` says which accepted entries came, `has_room` whether there is room for more of them, and
-- `is_short` why there isn't.
use Rattle.std.specs.Prelude.{◌≡◌, ◌⊎◌, ℕ, ⊤, Bool, true, false, Option, Result, Ok, Err, MatchOption, MatchResult, List, []}
use Rattle.tk_clock.specs.declared.command.Command.{Command}
use Rattle.tk_clock.specs.declared.command.Command.TheVariants.{Update}
use Rattle.tk_clock.specs.declared.command.Entry.{Entry}
use Rattle.tk_clock.specs.declared.refusal.Refusal.{Refusal}
use Rattle.tk_clock.specs.declared.timespec.Timespec.{Timespec}
use Rattle.tk_clock.specs.Command.{is_resume}
use Rattle.tk_clock.specs.State.{State}
use Rattle.tk_ntp.specs.declared.reply.Reply.{Reply}
use Rattle.tk_ntp.specs.declared.timex.Timex.{Timex}
use Rattle.tk_ntp.specs.Advance.{IsDue, IsNoneDue}
use Rattle.tk_ntp.specs.Applied.{request_of, without_reply}
use Rattle.tk_ntp.specs.Asked.{IsCommanded, IsRequested, first_fault, step_refusal, stepped}
use Rattle.tk_ntp.specs.Course.{Course, seen}
use Rattle.tk_ntp.specs.Entries.{command_entries, request_entries, second_begun, second_entries, step_entries}
use Rattle.tk_ntp.specs.Request.{step_of}
use Rattle.tk_ntp.specs.SteeredClock.{reading_refusal}

-- the most entries as a second begins, or at a command: one, and those for the tick and the
-- frequency
abbrev pub second_most : ℕ
second_most = 3

-- the most entries of a request: a step, the TAI offset, and twice the tick and the frequency
abbrev pub request_most : ℕ
request_most = 6

module _ {X : Type 0} (state : X → State) (is_after : X → List Entry → X → Type 0)
    (has_room : ℕ → X → Type 0) (is_short : ℕ → X → Refusal → Type 0) where
  -- there is room for this many more entries now; all else stayed
  pub record IsReady (count : ℕ) (before after : X) : Type 0 where
    pub same : state after ≡ state before
    pub kept : is_after before [] after
    pub room : has_room count after

  -- there is no room for them, and all stayed
  pub record IsUnready (count : ℕ) (before : X) (refusal : Refusal) (after : X) : Type 0 where
    pub same : state after ≡ state before
    pub kept : is_after before [] after
    pub short : is_short count after refusal

  -- some seconds up to a reading have begun, late or not, one after the other, each due at the first
  -- reading at which REALTIME reaches it, and each with its entries
  pub data HasBegun (is_late : Bool) (who reading : ℕ) : X → Course → X → Course → Type 0 where
    Still : (a : X) (course : Course) → HasBegun is_late who reading a course a course
    Begins : (a ready b end : X) (before middle after : Course) (at : ℕ) →
        IsDue (seen (state a) before) reading at → IsReady second_most a ready →
        seen (state b) middle ≡ second_begun is_late reading at (seen (state a) before) →
        is_after ready (second_entries is_late who reading at (seen (state a) before)) b →
        HasBegun is_late who reading b middle end after →
        HasBegun is_late who reading a before end after

  -- all seconds up to a reading have begun
  pub record HasArrived (is_late : Bool) (who reading : ℕ) (a : X) (before : Course) (b : X)
      (after : Course) : Type 0 where
    pub begun : HasBegun is_late who reading a before b after
    pub none : IsNoneDue (seen (state b) after) reading

  -- seconds up to a reading have begun until one for whose entries there is no room: that second
  -- hasn't begun
  pub record IsStopped (is_late : Bool) (who reading : ℕ) (a : X) (before : Course)
      (refusal : Refusal) (b : X) (after : Course) : Type 0 where
    pub last : X
    pub begun : HasBegun is_late who reading a before last after
    pub due : (at : ℕ) × IsDue (seen (state last) after) reading at
    pub unready : IsUnready second_most last refusal b

  -- all seconds up to a reading have begun, or the result says why one can't
  abbrev pub HasArrivedOr : Bool → ℕ → ℕ → X → Course → Result ⊤ Refusal → X → Course → Type 0
  HasArrivedOr is_late who reading a before result b after =
      MatchResult result
      (λ _. HasArrived is_late who reading a before b after)
      (λ refusal. IsStopped is_late who reading a before refusal b after)

  -- the result of advancing, late or not, and the state after it
  abbrev pub IsAdvancedTo : Bool → ℕ → ℕ → X → Course → Result ⊤ Refusal → X → Course → Type 0
  IsAdvancedTo is_late who reading a before result b after =
      MatchOption (reading_refusal reading (seen (state a) before))
      (HasArrivedOr is_late who reading a before result b after)
      (λ refusal. (result ≡ Err refusal) × (b ≡ a) × (after ≡ before))

  -- the result of a command, and the state after it: a refused command changes nothing
  pub record IsCommandedTo (who reading : ℕ) (cmd : Command) (a : X) (before : Course)
      (result : Result ⊤ Refusal) (b : X) (after : Course) : Type 0 where
    pub answer :
        IsCommanded reading cmd (seen (state a) before) result (seen (state b) after)
    pub entries : MatchResult result
        (λ _. is_after a (command_entries who reading cmd (seen (state a) before)) b)
        (λ _. (b ≡ a) × (after ≡ before))

  -- the result of a request without a step, and the state after it
  pub record IsRequestedTo (who reading : ℕ) (request : Timex) (a : X) (before : Course)
      (result : Result Reply Refusal) (b : X) (after : Course) : Type 0 where
    pub answer :
        IsRequested reading request (seen (state a) before) result (seen (state b) after)
    pub entries : MatchResult result
        (λ _. is_after a (request_entries who reading request (seen (state a) before)) b)
        (λ _. (b ≡ a) × (after ≡ before))

  -- the state after the step that a request may ask for
  pub record IsSteppedTo (who reading : ℕ) (step : Option Timespec) (a : X) (before : Course)
      (b : X) (after : Course) : Type 0 where
    pub clocks : seen (state b) after ≡ stepped reading step (seen (state a) before)
    pub entries : is_after a (step_entries who reading step (seen (state a) before)) b

  -- the result of a request, and the state after it: first the step, then all else
  abbrev pub IsAskedTo : ℕ → ℕ → Timex → X → Course → Result Reply Refusal → X → Course → Type 0
  IsAskedTo who reading request a before result b after =
      MatchOption (step_refusal reading (step_of request) (seen (state a) before))
      ((x : X) × (middle : Course)
      × IsSteppedTo who reading (step_of request) a before x middle
      × IsRequestedTo who reading request x middle result b after)
      (λ refusal. (result ≡ Err refusal) × (b ≡ a) × (after ≡ before))

  -- a call isn't made, because there is no room for the entries of a second before it, or for its own
  abbrev pub IsUnmade : ℕ → ℕ → ℕ → X → Course → Refusal → X → Course → Type 0
  IsUnmade count who reading a before refusal b after =
      IsStopped false who reading a before refusal b after
      ⊎ ((x : X) × HasArrived false who reading a before x after
      × IsUnready count x refusal b)

  -- the result of a call before which the seconds up to its reading begin, and the state after it.
  -- `Makes` says what the call does after these seconds, with room for `count` entries
  abbrev pub IsFollowing : {R : Type 0} → ℕ → ℕ → ℕ → (X → Course → Type 0) → X → Course →
      Result R Refusal → X → Course → Type 0
  IsFollowing count who reading Makes a before result b after =
      MatchResult result (λ _. ⊥)
      (λ refusal. IsUnmade count who reading a before refusal b after)
      ⊎ ((x ready : X) × (middle : Course) × HasArrived false who reading a before x middle
      × IsReady count x ready × Makes ready middle)

  -- the result of a request, and the state after it: the seconds up to the reading begin first
  abbrev pub IsAnsweredTo : ℕ → ℕ → Timex → X → Course → Result Reply Refusal → X → Course →
      Type 0
  IsAnsweredTo who reading request a before result b after =
      MatchOption (first_fault reading request (seen (state a) before))
      (IsFollowing request_most who reading
      (λ x middle. IsAskedTo who reading request x middle result b after) a before result b after)
      (λ refusal. (result ≡ Err refusal) × (b ≡ a) × (after ≡ before))

  -- the result of a command for which no second begins, and the state after it
  abbrev pub IsDirectTo : ℕ → ℕ → Command → X → Course → Result ⊤ Refusal → X → Course → Type 0
  IsDirectTo who reading cmd a before result b after =
      MatchResult result (λ _. ⊥)
      (λ refusal. IsUnready second_most a refusal b × (after ≡ before))
      ⊎ ((ready : X) × IsReady second_most a ready
      × IsCommandedTo who reading cmd ready before result b after)

  -- the result of a command before which the seconds up to its reading begin, and the state after it
  abbrev pub IsFollowedTo : ℕ → ℕ → Command → X → Course → Result ⊤ Refusal → X → Course →
      Type 0
  IsFollowedTo who reading cmd a before result b after =
      MatchOption (reading_refusal reading (seen (state a) before))
      (IsFollowing second_most who reading
      (λ x middle. IsCommandedTo who reading cmd x middle result b after) a before result b after)
      (λ refusal. (result ≡ Err refusal) × (b ≡ a) × (after ≡ before))

  -- the result of a command that is no request, and the state after it; `resumes` says whether it is
  -- a resume, for which no second begins
  abbrev pub IsPlainTo : Bool → ℕ → ℕ → Command → X → Course → Result ⊤ Refusal → X → Course →
      Type 0
  IsPlainTo true who reading cmd a before result b after =
      IsDirectTo who reading cmd a before result b after
  IsPlainTo false who reading cmd a before result b after =
      IsFollowedTo who reading cmd a before result b after

  -- the result of a command, and the state after it
  abbrev pub IsAppliedTo : ℕ → ℕ → Command → X → Course → Result ⊤ Refusal → X → Course → Type 0
  IsAppliedTo who reading cmd a before result b after =
      MatchOption (request_of cmd)
      (IsPlainTo (is_resume cmd) who reading cmd a before result b after)
      (λ request. (answer : Result Reply Refusal)
      × IsAnsweredTo who reading request a before answer b after
      × (result ≡ without_reply answer))

  -- the result of a tick, and the state after it: the seconds up to its reading begin late, and then
  -- the clocks are updated
  abbrev pub IsTickedTo : ℕ → ℕ → X → Course → Result ⊤ Refusal → X → Course → Type 0
  IsTickedTo who reading a before result b after =
      ((x : X) × (middle : Course)
      × IsAdvancedTo true who reading a before (Ok (tt {0})) x middle
      × IsFollowedTo who reading Update x middle result b after)
      ⊎ MatchResult result (λ _. ⊥)
      (λ refusal. IsAdvancedTo true who reading a before (Err refusal) b after)
