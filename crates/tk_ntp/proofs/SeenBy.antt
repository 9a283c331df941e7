-- What calls to whatever keeps the clocks do to clocks with their discipline.
use Rattle.std.proofs.Common.{◌≡◌, ◌∙◌, ap, refl, subst, ℕ, Bool, List}
use Rattle.std.specs.Prelude.{⊤, Option, Some, None, Result, Ok, Err, MatchOption, IfOk}
use Rattle.tk_clock.specs.declared.command.Command.{Command}
use Rattle.tk_clock.specs.declared.command.Entry.{Entry}
use Rattle.tk_clock.specs.declared.refusal.Refusal.{Refusal}
use Rattle.tk_clock.specs.State.{State}
use Rattle.tk_ntp.specs.declared.reply.Reply.{Reply}
use Rattle.tk_ntp.specs.declared.timex.Timex.{Timex}
use Rattle.tk_ntp.specs.Advance.{Arrived, Begins as BeginsOne, IsAdvancedBy, IsNoneDue}
use Rattle.tk_ntp.specs.Asked.{IsAsked, IsCommanded, IsRequested, step_refusal, stepped}
use Rattle.tk_ntp.specs.Course.{Course, seen}
use Rattle.tk_ntp.specs.Entries.{second_begun}
use Rattle.tk_ntp.specs.Keeping.{Begins, HasArrived, HasArrivedOr, HasBegun, IsAdvancedTo, IsAskedTo, IsCommandedTo, IsReady, IsRequestedTo, IsSteppedTo, Still, request_most, second_most}
use Rattle.tk_ntp.specs.Request.{step_of}
use Rattle.tk_ntp.specs.SteeredClock.{SteeredClock, reading_refusal}

module _ {X : Type 0} (state : X → State) (is_after : X → List Entry → X → Type 0)
    (has_room : ℕ → X → Type 0) (is_short : ℕ → X → Refusal → Type 0) where
  begun-advanced : (is_late : Bool) (who reading : ℕ) (a : X) (before : Course) (b : X)
      (after : Course) →
      HasBegun state is_after has_room is_short is_late who reading a before b after →
      IsNoneDue (seen (state b) after) reading →
      IsAdvancedBy (second_begun is_late reading) reading (seen (state a) before)
      (seen (state b) after)
  begun-advanced is_late who reading start from end to (Still a course) none =
      Arrived (seen (state a) course) none
  begun-advanced is_late who reading start from last to
      (Begins a ready b end before middle after at due room is given rest) none =
      BeginsOne (seen (state a) before) (seen (state end) after) at due
      (subst (λ (s : SteeredClock).
      IsAdvancedBy (second_begun is_late reading) reading s (seen (state end) after)) is
      (begun-advanced is_late who reading b middle end after rest none))

  -- the clocks are those that the seconds leave
  pub advanced : (is_late : Bool) (who reading : ℕ) (a : X) (before : Course) (b : X)
      (after : Course) →
      HasArrived state is_after has_room is_short is_late who reading a before b after →
      IsAdvancedBy (second_begun is_late reading) reading (seen (state a) before)
      (seen (state b) after)
  advanced is_late who reading a before b after h =
      begun-advanced is_late who reading a before b after h.begun h.none

  -- what stays is seen as it was
  pub same_seen : (a b : X) (before after : Course) → b ≡ a → after ≡ before →
      seen (state b) after ≡ seen (state a) before
  same_seen a b before after is is' =
      ap (λ (x : X). seen (state x) after) is ∙ ap (seen (state a)) is'

  asked-by : (refusal : Option Refusal) (who reading : ℕ) (request : Timex) (a : X)
      (before : Course) (result : Result Reply Refusal) (b : X) (after : Course) →
      MatchOption refusal
      ((x : X) × (middle : Course)
      × IsSteppedTo state is_after has_room is_short who reading (step_of request) a before x middle
      × IsRequestedTo state is_after has_room is_short who reading request x middle result b after)
      (λ r. (result ≡ Err r) × (b ≡ a) × (after ≡ before)) →
      MatchOption refusal
      (IsRequested reading request (stepped reading (step_of request) (seen (state a) before))
      result (seen (state b) after))
      (λ r. (result ≡ Err r) × (seen (state b) after ≡ seen (state a) before))
  asked-by None who reading request a before result b after h =
      subst (λ (s : SteeredClock). IsRequested reading request s result (seen (state b) after))
      h.2.clocks h.3.answer
  asked-by (Some refusal) who reading request a before result b after h =
      (h.0, same_seen a b before after h.1 h.2)

  -- a request, after room was made for it
  pub asked : (who reading : ℕ) (request : Timex) (x ready : X) (before : Course)
      (result : Result Reply Refusal) (b : X) (after : Course) →
      IsReady state is_after has_room is_short request_most x ready →
      IsAskedTo state is_after has_room is_short who reading request ready before result b after →
      IsAsked reading request (seen (state x) before) result (seen (state b) after)
  asked who reading request x ready before result b after room h =
      subst (λ (k : State). IsAsked reading request (seen k before) result (seen (state b) after))
      room.same
      (asked-by (step_refusal reading (step_of request) (seen (state ready) before)) who reading
      request ready before result b after h)

  -- a command, after room was made for it
  pub commanded : (who reading : ℕ) (cmd : Command) (x ready : X) (before : Course)
      (result : Result ⊤ Refusal) (b : X) (after : Course) →
      IsReady state is_after has_room is_short second_most x ready →
      IsCommandedTo state is_after has_room is_short who reading cmd ready before result b after →
      IsCommanded reading cmd (seen (state x) before) result (seen (state b) after)
  commanded who reading cmd x ready before result b after room h =
      subst (λ (k : State).
      IsCommanded reading cmd (seen k before) result (seen (state b) after)) room.same h.answer

  arrived-by : (P : Type 0) (refused : Option Refusal) (is_late : Bool) (who reading : ℕ) (a : X)
      (before : Course) (result : Result ⊤ Refusal) (b : X) (after : Course) →
      reading_refusal reading (seen (state a) before) ≡ refused →
      MatchOption refused
      (HasArrivedOr state is_after has_room is_short is_late who reading a before result b after)
      (λ r. (result ≡ Err r) × (b ≡ a) × (after ≡ before)) →
      (reading_refusal reading (seen (state a) before) ≡ None →
      IsAdvancedBy (second_begun is_late reading) reading (seen (state a) before)
      (seen (state b) after) → P) →
      IfOk result (λ _. P)
  arrived-by P refused is_late who reading a before (Err refusal) b after is h holds = tt
  arrived-by P None is_late who reading a before (Ok done) b after is h holds =
      holds is (advanced is_late who reading a before b after h)
  arrived-by P (Some r) is_late who reading a before (Ok done) b after is h holds =
      absurd (cc h.0)

  -- what holds if all seconds up to the reading could begin
  pub arrived_holds : (P : Type 0) (is_late : Bool) (who reading : ℕ) (a : X) (before : Course)
      (result : Result ⊤ Refusal) (b : X) (after : Course) →
      IsAdvancedTo state is_after has_room is_short is_late who reading a before result b after →
      (reading_refusal reading (seen (state a) before) ≡ None →
      IsAdvancedBy (second_begun is_late reading) reading (seen (state a) before)
      (seen (state b) after) → P) →
      IfOk result (λ _. P)
  arrived_holds P is_late who reading a before result b after =
      arrived-by P (reading_refusal reading (seen (state a) before)) is_late who reading a before
      result b after refl

  -- the clocks are those that the seconds leave, if all of these could begin
  pub arrived : (is_late : Bool) (who reading : ℕ) (a : X) (before : Course)
      (result : Result ⊤ Refusal) (b : X) (after : Course) →
      IsAdvancedTo state is_after has_room is_short is_late who reading a before result b after →
      IfOk result (λ _. IsAdvancedBy (second_begun is_late reading) reading (seen (state a) before)
      (seen (state b) after))
  arrived is_late who reading a before result b after h =
      arrived_holds (IsAdvancedBy (second_begun is_late reading) reading (seen (state a) before)
      (seen (state b) after)) is_late who reading a before result b after h
      (λ accepted chain. chain)
