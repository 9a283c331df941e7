-- Clocks by themselves, which always have room: what is done to whatever keeps clocks is done to
-- them.
use Rattle.std.proofs.Common.{◌≡◌, refl, ℕ, Bool, true, false, inl, inr, List}
use Rattle.std.specs.Prelude.{⊤, Option, Some, None, Result, Ok, Err, MatchOption, MatchResult}
use Rattle.tk_clock.specs.declared.command.Command.{Command}
use Rattle.tk_clock.specs.declared.command.Entry.{Entry}
use Rattle.tk_clock.specs.declared.refusal.Refusal.{Refusal}
use Rattle.tk_clock.specs.Command.{is_resume}
use Rattle.tk_clock.specs.State.{State}
use Rattle.tk_ntp.specs.declared.reply.Reply.{Reply}
use Rattle.tk_ntp.specs.declared.timex.Timex.{Timex}
use Rattle.tk_ntp.specs.Advance.{IsAdvanced, IsAdvancedBy}
use Rattle.tk_ntp.specs.Applied.{IsApplied, IsPlain, request_of, without_reply}
use Rattle.tk_ntp.specs.Asked.{IsAnswered, IsAsked, IsCommanded, first_fault}
use Rattle.tk_ntp.specs.Course.{Course, seen}
use Rattle.tk_ntp.specs.Entries.{second_begun}
use Rattle.tk_ntp.specs.Keeping.{HasArrivedOr, IsAdvancedTo, IsAnsweredTo, IsAppliedTo, IsAskedTo, IsCommandedTo, IsDirectTo, IsFollowing, IsPlainTo, IsUnmade, request_most, second_most}
use Rattle.tk_ntp.specs.SteeredClock.{SteeredClock, reading_refusal}
use Rattle.tk_ntp.proofs.SeenBy.{advanced, asked, commanded, same_seen}

abbrev pub clocks_of : State → State
clocks_of clock = clock

abbrev pub any_entries : State → List Entry → State → Type 0
any_entries before entries after = Unit {0}

abbrev pub any_room : ℕ → State → Type 0
any_room count clock = Unit {0}

abbrev pub never_short : ℕ → State → Refusal → Type 0
never_short count clock refusal = ⊥

unmade : (count who reading : ℕ) (a : State) (before : Course) (refusal : Refusal) (b : State)
    (after : Course) →
    IsUnmade clocks_of any_entries any_room never_short count who reading a before refusal b after →
    ⊥
unmade count who reading a before refusal b after (inl h) = h.unready.short
unmade count who reading a before refusal b after (inr h) = h.2.short

arrived-by : (refused : Option Refusal) (is_late : Bool) (who reading : ℕ) (a : State)
    (before : Course) (result : Result ⊤ Refusal) (b : State) (after : Course) →
    MatchOption refused
    (HasArrivedOr clocks_of any_entries any_room never_short is_late who reading a before result b
    after)
    (λ r. (result ≡ Err r) × (b ≡ a) × (after ≡ before)) →
    MatchOption refused
    ((result ≡ Ok (tt {0}))
    × IsAdvancedBy (second_begun is_late reading) reading (seen a before) (seen b after))
    (λ r. (result ≡ Err r) × (seen b after ≡ seen a before))
arrived-by None is_late who reading a before (Ok done) b after h =
    (refl, advanced clocks_of any_entries any_room never_short is_late who reading a before b after h)
arrived-by None is_late who reading a before (Err refusal) b after h = absurd h.unready.short
arrived-by (Some refusal) is_late who reading a before result b after h =
    (h.0, same_seen clocks_of any_entries any_room never_short a b before after h.1 h.2)

-- the seconds of clocks by themselves
pub arrived : (is_late : Bool) (who reading : ℕ) (a : State) (before : Course)
    (result : Result ⊤ Refusal) (b : State) (after : Course) →
    IsAdvancedTo clocks_of any_entries any_room never_short is_late who reading a before result b
    after →
    MatchOption (reading_refusal reading (seen a before))
    ((result ≡ Ok (tt {0}))
    × IsAdvancedBy (second_begun is_late reading) reading (seen a before) (seen b after))
    (λ r. (result ≡ Err r) × (seen b after ≡ seen a before))
arrived is_late who reading a before result b after =
    arrived-by (reading_refusal reading (seen a before)) is_late who reading a before result b after

short : {R : Type 0} (count who reading : ℕ) (a : State) (before : Course) (result : Result R Refusal)
    (b : State) (after : Course) →
    MatchResult result (λ _. ⊥)
    (λ refusal.
    IsUnmade clocks_of any_entries any_room never_short count who reading a before refusal b after) →
    ⊥
short count who reading a before (Ok value) b after h = h
short count who reading a before (Err refusal) b after h =
    unmade count who reading a before refusal b after h

answered-by : (fault : Option Refusal) (who reading : ℕ) (request : Timex) (a : State)
    (before : Course) (result : Result Reply Refusal) (b : State) (after : Course) →
    MatchOption fault
    (IsFollowing clocks_of any_entries any_room never_short request_most who reading
    (λ x middle. IsAskedTo clocks_of any_entries any_room never_short who reading request x middle
    result b after) a before result b after)
    (λ r. (result ≡ Err r) × (b ≡ a) × (after ≡ before)) →
    MatchOption fault
    ((middle : SteeredClock) × IsAdvanced reading (seen a before) middle
    × IsAsked reading request middle result (seen b after))
    (λ r. (result ≡ Err r) × (seen b after ≡ seen a before))
answered-by None who reading request a before result b after (inl h) =
    absurd (short request_most who reading a before result b after h)
answered-by None who reading request a before result b after (inr h) = (
  seen h.0 h.2,
  advanced clocks_of any_entries any_room never_short false who reading a before h.0 h.2 h.3,
  asked clocks_of any_entries any_room never_short who reading request h.0 h.1 h.2 result b after
      h.4 h.5,
)
answered-by (Some refusal) who reading request a before result b after h =
    (h.0, same_seen clocks_of any_entries any_room never_short a b before after h.1 h.2)

-- a call to clocks by themselves, after the seconds up to its reading
pub followed_alone : {R : Type 0} (count who reading : ℕ) (Makes : State → Course → Type 0) (a : State)
    (before : Course) (result : Result R Refusal) (b : State) (after : Course) →
    IsFollowing clocks_of any_entries any_room never_short count who reading Makes a before result b
    after →
    (x ready : State) × (middle : Course) × IsAdvanced reading (seen a before) (seen x middle)
    × (ready ≡ x) × Makes ready middle
followed_alone count who reading Makes a before result b after (inl h) =
    absurd (short count who reading a before result b after h)
followed_alone count who reading Makes a before result b after (inr h) = (
  h.0,
  h.1,
  h.2,
  advanced clocks_of any_entries any_room never_short false who reading a before h.0 h.2 h.3,
  h.4.same,
  h.5,
)

pub same_alone : (a b : State) (before after : Course) → b ≡ a → after ≡ before →
    seen b after ≡ seen a before
same_alone a b before after h k =
    same_seen clocks_of any_entries any_room never_short a b before after h k

-- a request to clocks by themselves
pub answered : (who reading : ℕ) (request : Timex) (a : State) (before : Course)
    (result : Result Reply Refusal) (b : State) (after : Course) →
    IsAnsweredTo clocks_of any_entries any_room never_short who reading request a before result b
    after →
    IsAnswered reading request (seen a before) result (seen b after)
answered who reading request a before result b after =
    answered-by (first_fault reading request (seen a before)) who reading request a before result b
    after

followed-by : (refused : Option Refusal) (who reading : ℕ) (cmd : Command) (a : State)
    (before : Course) (result : Result ⊤ Refusal) (b : State) (after : Course) →
    MatchOption refused
    (IsFollowing clocks_of any_entries any_room never_short second_most who reading
    (λ x middle. IsCommandedTo clocks_of any_entries any_room never_short who reading cmd x middle
    result b after) a before result b after)
    (λ r. (result ≡ Err r) × (b ≡ a) × (after ≡ before)) →
    MatchOption refused
    ((middle : SteeredClock) × IsAdvanced reading (seen a before) middle
    × IsCommanded reading cmd middle result (seen b after))
    (λ r. (result ≡ Err r) × (seen b after ≡ seen a before))
followed-by None who reading cmd a before result b after (inl h) =
    absurd (short second_most who reading a before result b after h)
followed-by None who reading cmd a before result b after (inr h) = (
  seen h.0 h.2,
  advanced clocks_of any_entries any_room never_short false who reading a before h.0 h.2 h.3,
  commanded clocks_of any_entries any_room never_short who reading cmd h.0 h.1 h.2 result b after
      h.4 h.5,
)
followed-by (Some refusal) who reading cmd a before result b after h =
    (h.0, same_seen clocks_of any_entries any_room never_short a b before after h.1 h.2)

direct : (who reading : ℕ) (cmd : Command) (a : State) (before : Course)
    (result : Result ⊤ Refusal) (b : State) (after : Course) →
    IsDirectTo clocks_of any_entries any_room never_short who reading cmd a before result b after →
    IsCommanded reading cmd (seen a before) result (seen b after)
direct who reading cmd a before (Ok done) b after (inl h) = absurd h
direct who reading cmd a before (Err refusal) b after (inl h) = absurd h.0.short
direct who reading cmd a before result b after (inr h) =
    commanded clocks_of any_entries any_room never_short who reading cmd a h.0 before result b after
    h.1 h.2

plain : (resumes : Bool) (who reading : ℕ) (cmd : Command) (a : State) (before : Course)
    (result : Result ⊤ Refusal) (b : State) (after : Course) →
    IsPlainTo clocks_of any_entries any_room never_short resumes who reading cmd a before result b
    after →
    IsPlain resumes reading cmd (seen a before) result (seen b after)
plain true who reading cmd a before result b after h =
    direct who reading cmd a before result b after h
plain false who reading cmd a before result b after h =
    followed-by (reading_refusal reading (seen a before)) who reading cmd a before result b after h

applied-by : (acts : Option Timex) (who reading : ℕ) (cmd : Command) (a : State) (before : Course)
    (result : Result ⊤ Refusal) (b : State) (after : Course) →
    MatchOption acts
    (IsPlainTo clocks_of any_entries any_room never_short (is_resume cmd) who reading cmd a before
    result b after)
    (λ request. (answer : Result Reply Refusal)
    × IsAnsweredTo clocks_of any_entries any_room never_short who reading request a before answer b
    after
    × (result ≡ without_reply answer)) →
    MatchOption acts
    (IsPlain (is_resume cmd) reading cmd (seen a before) result (seen b after))
    (λ request. (answer : Result Reply Refusal)
    × IsAnswered reading request (seen a before) answer (seen b after)
    × (result ≡ without_reply answer))
applied-by None who reading cmd a before result b after h =
    plain (is_resume cmd) who reading cmd a before result b after h
applied-by (Some request) who reading cmd a before result b after h =
    (h.0, answered who reading request a before h.0 b after h.1, h.2)

-- a command to clocks by themselves
pub applied : (who reading : ℕ) (cmd : Command) (a : State) (before : Course)
    (result : Result ⊤ Refusal) (b : State) (after : Course) →
    IsAppliedTo clocks_of any_entries any_room never_short who reading cmd a before result b after →
    IsApplied reading cmd (seen a before) result (seen b after)
applied who reading cmd a before result b after =
    applied-by (request_of cmd) who reading cmd a before result b after
