-- The start of a keeper's past stays, whatever a discipline gives it.
use Rattle.std.proofs.Common.{◌≡◌, ◌∙◌, refl, ap, ℕ, Bool, true, false, List, Option, Some, None, inl, inr}
use Rattle.std.specs.Prelude.{⊤, Result, Ok, Err, MatchOption, MatchResult}
use Rattle.tk_clock.specs.declared.command.Command.{Command}
use Rattle.tk_clock.specs.declared.command.Entry.{Entry}
use Rattle.tk_clock.specs.declared.refusal.Refusal.{Refusal}
use Rattle.tk_clock.specs.Command.{is_resume}
use Rattle.tk_clock.specs.Journal.{accepted_count}
use Rattle.tk_clock.specs.Legal.{Beginning}
use Rattle.tk_keeper.specs.Keeper.{Keeper}
use Rattle.tk_keeper.specs.Room.{HasAdded, HasRoom, IsShort, keeper_state}
use Rattle.tk_ntp.specs.declared.reply.Reply.{Reply}
use Rattle.tk_ntp.specs.declared.timex.Timex.{Timex}
use Rattle.tk_ntp.specs.Applied.{request_of}
use Rattle.tk_ntp.specs.Asked.{first_fault, step_refusal}
use Rattle.tk_ntp.specs.Course.{Course, seen}
use Rattle.tk_ntp.specs.Entries.{command_entries, request_entries}
use Rattle.tk_ntp.specs.Keeping.{Begins, HasArrivedOr, HasBegun, IsAskedTo, IsCommandedTo, IsDirectTo, IsFollowing, IsRequestedTo, IsSteppedTo, IsStopped, IsUnmade, Still, request_most, second_most}
use Rattle.tk_ntp.specs.Request.{step_of}
use Rattle.tk_ntp.specs.SteeredClock.{reading_refusal}
use Rattle.tk_script.specs.declared.row.Row.{Row}
use Rattle.tk_script.specs.declared.row.Row.TheVariants.{Act, Look, Change, Ask}
use Rattle.tk_report.specs.Rows.{HasDone}
use Rattle.tk_report.specs.SteeredReport.{IsSteeredAfter}
use Rattle.tk_report.proofs.Rows.{Rows, stays-done}
use Rattle.tk_steered.specs.Kept.{IsAdvancedTo, IsAnsweredBy, IsAppliedBy, IsPlainBy, SteeredKeeper, numbered, steered_of}

-- a refused call leaves all as it was
unless : {R Main : Type 0} (refused : Option Refusal) (result : Result R Refusal) (a : Keeper)
    (before : Course) (b : Keeper) (after : Course) → (Main → b.began ≡ a.began) →
    MatchOption refused Main (λ refusal. (result ≡ Err refusal) × (b ≡ a) × (after ≡ before)) →
    b.began ≡ a.began
unless None result a before b after stays h = stays h
unless (Some refusal) result a before b after stays h = ap (λ (k : Keeper). k.began) h.1

-- a call adds entries, or leaves all as it was
added-or : {R : Type 0} (entries : List Entry) (result : Result R Refusal) (a : Keeper)
    (before : Course) (b : Keeper) (after : Course) →
    MatchResult result (λ _. HasAdded a entries b) (λ _. (b ≡ a) × (after ≡ before)) →
    b.began ≡ a.began
added-or entries (Ok done) a before b after h = h.began
added-or entries (Err refusal) a before b after h = ap (λ (k : Keeper). k.began) h.0

module _ (who reading : ℕ) where
  begun : (a : Keeper) (before : Course) (b : Keeper) (after : Course) →
      HasBegun keeper_state HasAdded HasRoom IsShort false who reading a before b after →
      b.began ≡ a.began
  begun start from end to (Still a course) = refl
  begun start from last to (Begins a ready b end before middle after at due room is given rest) =
      begun b middle end after rest ∙ given.began ∙ room.kept.began

  stopped : (a : Keeper) (before : Course) (refusal : Refusal) (b : Keeper) (after : Course) →
      IsStopped keeper_state HasAdded HasRoom IsShort false who reading a before refusal b after →
      b.began ≡ a.began
  stopped a before refusal b after h =
      h.unready.kept.began ∙ begun a before h.last after h.begun

  arrived-or : (a : Keeper) (before : Course) (result : Result ⊤ Refusal) (b : Keeper)
      (after : Course) →
      HasArrivedOr keeper_state HasAdded HasRoom IsShort false who reading a before result b after →
      b.began ≡ a.began
  arrived-or a before (Ok done) b after h = begun a before b after h.begun
  arrived-or a before (Err refusal) b after h = stopped a before refusal b after h

  advanced : (before after : SteeredKeeper) (result : Result ⊤ Refusal) →
      IsAdvancedTo false who reading before result after →
      after.keeper.began ≡ before.keeper.began
  advanced before after result =
      unless (reading_refusal reading (steered_of before)) result before.keeper before.course
      after.keeper after.course
      (arrived-or before.keeper before.course result after.keeper after.course)

  commanded : (cmd : Command) (a : Keeper) (before : Course) (result : Result ⊤ Refusal)
      (b : Keeper) (after : Course) →
      IsCommandedTo keeper_state HasAdded HasRoom IsShort who reading cmd a before result b after →
      b.began ≡ a.began
  commanded cmd a before result b after h =
      added-or (command_entries who reading cmd (seen (keeper_state a) before)) result a before b
      after h.entries

  requested : (request : Timex) (a : Keeper) (before : Course) (result : Result Reply Refusal)
      (b : Keeper) (after : Course) →
      ((x : Keeper) × (middle : Course)
      × IsSteppedTo keeper_state HasAdded HasRoom IsShort who reading (step_of request) a before x
      middle
      × IsRequestedTo keeper_state HasAdded HasRoom IsShort who reading request x middle result b
      after) →
      b.began ≡ a.began
  requested request a before result b after (x, middle, step, rest) =
      added-or (request_entries who reading request (seen (keeper_state x) middle)) result x middle
      b after rest.entries
      ∙ step.entries.began

  asked : (request : Timex) (a : Keeper) (before : Course) (result : Result Reply Refusal)
      (b : Keeper) (after : Course) →
      IsAskedTo keeper_state HasAdded HasRoom IsShort who reading request a before result b after →
      b.began ≡ a.began
  asked request a before result b after =
      unless (step_refusal reading (step_of request) (seen (keeper_state a) before)) result a before
      b after (requested request a before result b after)

  unmade : (count : ℕ) (a : Keeper) (before : Course) (refusal : Refusal) (b : Keeper)
      (after : Course) →
      IsUnmade keeper_state HasAdded HasRoom IsShort count who reading a before refusal b after →
      b.began ≡ a.began
  unmade count a before refusal b after (inl h) = stopped a before refusal b after h
  unmade count a before refusal b after (inr (x, been, short)) =
      short.kept.began ∙ begun a before x after been.begun

  following : {R : Type 0} (count : ℕ) (Makes : Keeper → Course → Type 0) (a : Keeper)
      (before : Course) (result : Result R Refusal) (b : Keeper) (after : Course) →
      ((x : Keeper) (middle : Course) → Makes x middle → b.began ≡ x.began) →
      IsFollowing keeper_state HasAdded HasRoom IsShort count who reading Makes a before result b
      after →
      b.began ≡ a.began
  following count Makes a before (Ok value) b after each (inl short) = absurd short
  following count Makes a before (Err refusal) b after each (inl short) =
      unmade count a before refusal b after short
  following count Makes a before result b after each (inr (x, ready, middle, been, room, made)) =
      each ready middle made ∙ room.kept.began ∙ begun a before x middle been.begun

  answered : (request : Timex) (before after : SteeredKeeper) (result : Result Reply Refusal) →
      IsAnsweredBy who reading request before result after →
      after.keeper.began ≡ before.keeper.began
  answered request before after result =
      let a = before.keeper in
      let b = after.keeper in
      unless (first_fault reading request (steered_of before)) result a before.course b after.course
      (following request_most
      (λ x middle. IsAskedTo keeper_state HasAdded HasRoom IsShort who reading request x middle
      result b after.course) a before.course result b after.course
      (λ x middle. asked request x middle result b after.course))

  direct : (cmd : Command) (a : Keeper) (before : Course) (result : Result ⊤ Refusal) (b : Keeper)
      (after : Course) →
      IsDirectTo keeper_state HasAdded HasRoom IsShort who reading cmd a before result b after →
      b.began ≡ a.began
  direct cmd a before (Ok done) b after (inl short) = absurd short
  direct cmd a before (Err refusal) b after (inl short) = short.0.kept.began
  direct cmd a before result b after (inr (ready, room, made)) =
      commanded cmd ready before result b after made ∙ room.kept.began

  plain : (resumes : Bool) (cmd : Command) (before after : SteeredKeeper)
      (result : Result ⊤ Refusal) → IsPlainBy resumes who reading cmd before result after →
      after.keeper.began ≡ before.keeper.began
  plain true cmd before after result h =
      direct cmd before.keeper before.course result after.keeper after.course h
  plain false cmd before after result h =
      let a = before.keeper in
      let b = after.keeper in
      unless (reading_refusal reading (steered_of before)) result a before.course b after.course
      (following second_most
      (λ x middle. IsCommandedTo keeper_state HasAdded HasRoom IsShort who reading cmd x middle
      result b after.course) a before.course result b after.course
      (λ x middle. commanded cmd x middle result b after.course)) h

  applied-by : (acts : Option Timex) (cmd : Command) (before after : SteeredKeeper)
      (result : Result ℕ Refusal) →
      MatchOption acts
      ((answer : Result ⊤ Refusal) × IsPlainBy (is_resume cmd) who reading cmd before answer after
      × (result ≡ numbered answer (accepted_count after.keeper.journal)))
      (λ request. (answer : Result Reply Refusal) × IsAnsweredBy who reading request before answer after
      × (result ≡ numbered answer (accepted_count after.keeper.journal))) →
      after.keeper.began ≡ before.keeper.began
  applied-by None cmd before after result (answer, h, is) =
      plain (is_resume cmd) cmd before after answer h
  applied-by (Some request) cmd before after result (answer, h, is) =
      answered request before after answer h

  applied : (cmd : Command) (before after : SteeredKeeper) (result : Result ℕ Refusal) →
      IsAppliedBy who reading cmd before result after →
      after.keeper.began ≡ before.keeper.began
  applied cmd before after result = applied-by (request_of cmd) cmd before after result

each : (a : SteeredKeeper) (row : Row) (b : SteeredKeeper) → IsSteeredAfter a row b →
    b.keeper.began ≡ a.keeper.began
each a (Act reading cmd) b (result, never, h) = applied 0 reading cmd a b result h
each a (Ask reading request) b (result, never, h) = answered 0 reading request a b result h
each a (Look reading clock expected) b (result, never, h) = advanced 0 reading a b result h
each a (Change reading counter first) b same = ap (λ (k : SteeredKeeper). k.keeper.began) same

-- the start of the past of steered clocks stays in all rows
pub began-of : (all : Rows) (before next : SteeredKeeper) → HasDone IsSteeredAfter before all next →
    next.keeper.began ≡ before.keeper.began
began-of all before next =
    stays-done {T = Beginning} (λ (k : SteeredKeeper). k.keeper.began) IsSteeredAfter each all
    before next
