-- The laws of the accounts and of the lag, after any request or command.
use Rattle.std.proofs.Common.{◌≡◌, ◌∙◌, ap, refl, sym, subst, inl, inr, ℕ, true, false, Option, Some, None}
use Rattle.std.specs.Prelude.{⊤, Result, Ok, Err, MatchOption, MatchResult, IfOk, if◌then◌else◌}
use Rattle.tk_clock.specs.declared.command.Command.{Command}
use Rattle.tk_clock.specs.declared.refusal.Refusal.{Refusal}
use Rattle.tk_clock.specs.declared.refusal.Refusal.TheVariants.{Invalid}
use Rattle.tk_clock.specs.Command.{is_resume}
use Rattle.tk_ntp.specs.declared.reply.Reply.{Reply}
use Rattle.tk_ntp.specs.declared.timex.Timex.{Timex}
use Rattle.tk_ntp.specs.Account.{owed, sets_by, sets_by_step, IsBalanced, IsConsistent}
use Rattle.tk_ntp.specs.Advance.{IsAdvanced, IsAdvancedBy}
use Rattle.tk_ntp.specs.Applied.{IsApplied, IsPlain, request_of, without_reply}
use Rattle.tk_ntp.specs.Asked.{IsAnswered, IsAsked, first_fault}
use Rattle.tk_ntp.specs.Fault.{is_faulty}
use Rattle.tk_ntp.specs.Request.{step_of}
use Rattle.tk_ntp.specs.Steady.{is_kept_by, keeps_rate, IsSmallOrSame}
use Rattle.tk_ntp.specs.SteeredClock.{SteeredClock, reading_refusal}
use Rattle.tk_ntp.proofs.Accepted.{later}
use Rattle.tk_ntp.proofs.Acting.{acting, ActsAs, OfFrequency, OfTick}
use Rattle.tk_ntp.proofs.Called.{asked_small, plain_small, request_small}
use Rattle.tk_ntp.proofs.Consistent.{asked_after, plain-consistent}
use Rattle.tk_ntp.proofs.Settled.{asked_settled, plain_balanced, request_balanced, woken_owed}

-- what holds if nothing changed, and after the seconds up to the reading and the request
answered-holds : (P : SteeredClock → Type 0) (reading : ℕ) (request : Timex)
    (s after : SteeredClock) (result : Result Reply Refusal) (fault : Option Refusal) →
    first_fault reading request s ≡ fault →
    MatchOption fault
    ((advanced : SteeredClock) × IsAdvanced reading s advanced
    × IsAsked reading request advanced result after)
    (λ r. (result ≡ Err r) × (after ≡ s)) →
    P s →
    ((advanced : SteeredClock) → reading_refusal reading s ≡ None → IsAdvanced reading s advanced →
    IsAsked reading request advanced result after → P after) →
    P after
answered-holds P reading request s after result None is h same asked =
    asked h.0 (later (if is_faulty request then Some Invalid else None) (reading_refusal reading s) is)
    h.1 h.2
answered-holds P reading request s after result (Some r) is h same asked = subst P (sym h.1) same

module _ (reading : ℕ) (request : Timex) (s after : SteeredClock) (result : Result Reply Refusal)
    (h : IsAnswered reading request s result after) where
  -- the last account stays after the last command, and before the next second
  pub answered_consistent : IsConsistent s → IsConsistent after
  answered_consistent consistent =
      answered-holds IsConsistent reading request s after result (first_fault reading request s) refl h
      consistent
      (λ advanced accepted chain asked.
      asked_after reading request s advanced after result accepted chain asked consistent)

  -- the accounts add up to what the clocks were asked for
  pub answered_sum : IsConsistent s →
      IsBalanced (sets_by_step reading (step_of request)) reading s after
  answered_sum consistent =
      answered-holds (λ (t : SteeredClock).
      IsBalanced (sets_by_step reading (step_of request)) reading s t) reading request s after result
      (first_fault reading request s) refl h (inl refl)
      (λ advanced accepted chain asked.
      inr (asked_settled reading request s advanced after result accepted chain asked consistent))

  -- the lag stays small
  pub answered_small : IsSmallOrSame (keeps_rate request) reading s after
  answered_small =
      answered-holds (λ (t : SteeredClock). IsSmallOrSame (keeps_rate request) reading s t) reading
      request s after result (first_fault reading request s) refl h (inl refl)
      (λ advanced accepted chain asked.
      inr (asked_small reading request s advanced after result chain asked))

-- what a plain command and a request of a command have in common
applied-holds : (P : Type 0) (reading : ℕ) (cmd : Command) (s after : SteeredClock)
    (result : Result ⊤ Refusal) (acts : Option Timex) → request_of cmd ≡ acts →
    MatchOption acts
    (IsPlain (is_resume cmd) reading cmd s result after)
    (λ request. (answer : Result Reply Refusal) × IsAnswered reading request s answer after
    × (result ≡ without_reply answer)) →
    (IsPlain (is_resume cmd) reading cmd s result after → P) →
    ((request : Timex) (answer : Result Reply Refusal) → Some request ≡ request_of cmd →
    IsAnswered reading request s answer after → P) →
    P
applied-holds P reading cmd s after result None is h plain asked = plain h
applied-holds P reading cmd s after result (Some request) is h plain asked =
    asked request h.0 (sym is) h.1

module _ (reading : ℕ) (cmd : Command) (s after : SteeredClock) (result : Result ⊤ Refusal)
    (h : IsApplied reading cmd s result after) where
  pub applied_consistent : IsConsistent s → IsConsistent after
  applied_consistent consistent =
      applied-holds (IsConsistent after) reading cmd s after result (request_of cmd) refl h
      (λ plain. plain-consistent (is_resume cmd) reading cmd s after result plain consistent)
      (λ request answer is answered. answered_consistent reading request s after answer answered consistent)

  pub applied_sum : IsConsistent s → is_resume cmd ≡ false →
      IsBalanced (sets_by reading cmd) reading s after
  applied_sum consistent awake =
      applied-holds (IsBalanced (sets_by reading cmd) reading s after) reading cmd s after result
      (request_of cmd) refl h
      (λ plain. plain_balanced reading cmd s after result awake plain consistent)
      (λ request answer is answered.
      request_balanced reading cmd request s after (acting cmd request is)
      (answered_sum reading request s after answer answered consistent))

  pub applied_small : is_resume cmd ≡ false → IsSmallOrSame (is_kept_by cmd) reading s after
  applied_small awake =
      applied-holds (IsSmallOrSame (is_kept_by cmd) reading s after) reading cmd s after result
      (request_of cmd) refl h
      (λ plain. plain_small reading cmd s after result awake plain)
      (λ request answer is answered.
      request_small reading cmd request s after (acting cmd request is)
      (answered_small reading request s after answer answered))

acts-awake : (cmd : Command) (request : Timex) → ActsAs cmd request → is_resume cmd ≡ true → ⊥
acts-awake cmd request (OfFrequency frequency) is = cc is
acts-awake cmd request (OfTick tick) is = cc is

-- a resume changes nothing that is owed
pub applied_woken : (reading : ℕ) (cmd : Command) (s after : SteeredClock)
    (result : Result ⊤ Refusal) → IsApplied reading cmd s result after → IsConsistent s →
    is_resume cmd ≡ true → owed after ≡ owed s
applied_woken reading cmd s after result h consistent resumes =
    applied-holds (owed after ≡ owed s) reading cmd s after result (request_of cmd) refl h
    (λ plain. woken_owed reading cmd s after result resumes plain consistent)
    (λ request answer is answered.
    absurd (acts-awake cmd request (acting cmd request is) resumes))

-- what holds after an accepted call that let the seconds begin
pub arrived_holds : (begun : ℕ → SteeredClock → SteeredClock) (P : Type 0) (reading : ℕ)
    (s after : SteeredClock) (result : Result ⊤ Refusal) (refused : Option Refusal) →
    reading_refusal reading s ≡ refused →
    MatchOption refused
    ((result ≡ Ok (tt {0})) × IsAdvancedBy begun reading s after)
    (λ r. (result ≡ Err r) × (after ≡ s)) →
    (reading_refusal reading s ≡ None → IsAdvancedBy begun reading s after → P) →
    IfOk result (λ _. P)
arrived_holds begun P reading s after (Ok done) None is h holds = holds is h.1
arrived_holds begun P reading s after (Err r) None is h holds = tt
arrived_holds begun P reading s after (Ok done) (Some r) is h holds = absurd (cc h.0)
arrived_holds begun P reading s after (Err r') (Some r) is h holds = tt

-- the answer of a call that lets the seconds begin
pub arrived_answer : (begun : ℕ → SteeredClock → SteeredClock) (reading : ℕ)
    (s after : SteeredClock) (result : Result ⊤ Refusal) (refused : Option Refusal) →
    reading_refusal reading s ≡ refused →
    MatchOption refused
    ((result ≡ Ok (tt {0})) × IsAdvancedBy begun reading s after)
    (λ r. (result ≡ Err r) × (after ≡ s)) →
    MatchResult result
    (λ _. (reading_refusal reading s ≡ None) × IsAdvancedBy begun reading s after)
    (λ r. (reading_refusal reading s ≡ Some r) × (after ≡ s))
arrived_answer begun reading s after (Ok done) None is h = (is, h.1)
arrived_answer begun reading s after (Err r) None is h = absurd (cc h.0)
arrived_answer begun reading s after (Ok done) (Some r) is h = absurd (cc h.0)
arrived_answer begun reading s after (Err given) (Some r) is h =
    (is ∙ ap (λ x. Some x) (sym (same given r h.0)), h.1)
  where
    same : (a b : Refusal) → ◌≡◌ {A = Result ⊤ Refusal} (Err a) (Err b) → a ≡ b
    same a b e = cc e
