-- What a call does to steered clocks that list no command is what it does to the clocks of a report.
use Rattle.std.proofs.Common.{◌≡◌, ◌∙◌, refl, sym, ap, subst, ℕ, Bool, false, Option, Some, None}
use Rattle.std.specs.Prelude.{⊤, ◌≢◌, Result, Ok, Err, MatchOption}
use Rattle.tk_clock.specs.declared.command.Command.{Command}
use Rattle.tk_clock.specs.declared.refusal.Refusal.{Refusal}
use Rattle.tk_clock.specs.declared.refusal.Refusal.TheVariants.{Memory}
use Rattle.tk_clock.specs.Command.{is_resume}
use Rattle.tk_clock.specs.Journal.{accepted_count}
use Rattle.tk_ntp.specs.declared.reply.Reply.{Reply}
use Rattle.tk_ntp.specs.declared.timex.Timex.{Timex}
use Rattle.tk_ntp.specs.Applied.{request_of, without_reply}
use Rattle.tk_ntp.specs.Course.{Course}
use Rattle.tk_ntp.specs.Keeping.{IsAdvancedTo as IsAdvancedToBy, IsAnsweredTo, IsAppliedTo, IsPlainTo}
use Rattle.tk_report.specs.CountedClocks.{Counted}
use Rattle.tk_report.specs.Room.{HasCounted, HasRoom, IsShort, clocks_in}
use Rattle.tk_session.specs.Told.{IsKeptOf}
use Rattle.tk_session.proofs.Called.{advanced-of, answered-of, plain-of}
use Rattle.tk_steered.specs.Kept.{IsAdvancedTo, IsAnsweredBy, IsAppliedBy, IsPlainBy, SteeredKeeper, numbered}

-- the clocks of a report after a call, of which `Made` holds; the call did not report that memory ran
-- out
pub record IsCalled {R : Type 0} (Made : SteeredKeeper → Type 0) (result : Result R Refusal)
    (clocks : Counted) (course : Course) : Type 0 where
  pub next : SteeredKeeper
  pub made : Made next
  pub kept : IsKeptOf clocks course next
  pub never : result ≢ Err Memory

module _ (reading : ℕ) (before : SteeredKeeper) where
  pub advanced : (a : Counted) (course : Course) (result : Result ⊤ Refusal) (b : Counted)
      (course' : Course) → IsKeptOf a course before →
      IsAdvancedToBy clocks_in HasCounted HasRoom IsShort false 0 reading a course result b course' →
      IsCalled (λ next. IsAdvancedTo false 0 reading before result next) result b course'
  advanced a course result b course' kept h =
      let same = subst (λ (c : Course). IsAdvancedToBy clocks_in HasCounted HasRoom IsShort false 0
      reading a c result b course') kept.leads h in
      let c = advanced-of 0 reading false a before.course result b course' before.keeper kept.counts
      same in record {
        next = record { keeper = c.last; course = course' };
        made = c.made;
        kept = record { counts = c.same; leads = refl };
        never = c.never;
      }

  pub answered : (request : Timex) (a : Counted) (course : Course) (result : Result Reply Refusal)
      (b : Counted) (course' : Course) → IsKeptOf a course before →
      IsAnsweredTo clocks_in HasCounted HasRoom IsShort 0 reading request a course result b course' →
      IsCalled (λ next. IsAnsweredBy 0 reading request before result next) result b course'
  answered request a course result b course' kept h =
      let same = subst (λ (c : Course). IsAnsweredTo clocks_in HasCounted HasRoom IsShort 0 reading
      request a c result b course') kept.leads h in
      let c = answered-of 0 reading request a before.course result b course' before.keeper
      kept.counts same in record {
        next = record { keeper = c.last; course = course' };
        made = c.made;
        kept = record { counts = c.same; leads = refl };
        never = c.never;
      }

  plain : (resumes : Bool) (cmd : Command) (a : Counted) (course : Course)
      (result : Result ⊤ Refusal) (b : Counted) (course' : Course) → IsKeptOf a course before →
      IsPlainTo clocks_in HasCounted HasRoom IsShort resumes 0 reading cmd a course result b course' →
      IsCalled (λ next. IsPlainBy resumes 0 reading cmd before result next) result b course'
  plain resumes cmd a course result b course' kept h =
      let same = subst (λ (c : Course). IsPlainTo clocks_in HasCounted HasRoom IsShort resumes 0
      reading cmd a c result b course') kept.leads h in
      let c = plain-of 0 reading resumes cmd a before.course result b course' before.keeper
      kept.counts same in record {
        next = record { keeper = c.last; course = course' };
        made = c.made;
        kept = record { counts = c.same; leads = refl };
        never = c.never;
      }

  numbered-reply : (answer : Result Reply Refusal) (number : ℕ) →
      numbered (without_reply answer) number ≡ numbered answer number
  numbered-reply (Ok reply) number = refl
  numbered-reply (Err refusal) number = refl

  reply-never : (answer : Result Reply Refusal) → (answer ≢ Err Memory) →
      without_reply answer ≢ Err Memory
  reply-never (Ok reply) never = λ e. cc e
  reply-never (Err refusal) never = λ e.
      let same : refusal ≡ Memory = cc e in never (ap Err same)

  applied-by : (acts : Option Timex) (cmd : Command) (a : Counted) (course : Course)
      (called : Result ⊤ Refusal) (b : Counted) (course' : Course) → IsKeptOf a course before →
      MatchOption acts
      (IsPlainTo clocks_in HasCounted HasRoom IsShort (is_resume cmd) 0 reading cmd a course called b
      course')
      (λ request. (answer : Result Reply Refusal)
      × IsAnsweredTo clocks_in HasCounted HasRoom IsShort 0 reading request a course answer b course'
      × (called ≡ without_reply answer)) →
      IsCalled (λ next. MatchOption acts
      ((answer : Result ⊤ Refusal) × IsPlainBy (is_resume cmd) 0 reading cmd before answer next
      × (numbered called b.count ≡ numbered answer (accepted_count next.keeper.journal)))
      (λ request. (answer : Result Reply Refusal) × IsAnsweredBy 0 reading request before answer next
      × (numbered called b.count ≡ numbered answer (accepted_count next.keeper.journal))))
      called b course'
  applied-by None cmd a course called b course' kept h =
      let c = plain (is_resume cmd) cmd a course called b course' kept h in record {
        next = c.next;
        made = (called, c.made, ap (λ n. numbered called n) c.kept.counts.count);
        kept = c.kept;
        never = c.never;
      }
  applied-by (Some request) cmd a course called b course' kept (answer, h, is) =
      let c = answered request a course answer b course' kept h in record {
        next = c.next;
        made = (
          answer,
          c.made,
          ap (λ (r : Result ⊤ Refusal). numbered r b.count) is ∙ numbered-reply answer b.count
              ∙ ap (λ n. numbered answer n) c.kept.counts.count,
        );
        kept = c.kept;
        never = subst (λ (r : Result ⊤ Refusal). r ≢ Err Memory) (sym is)
            (reply-never answer c.never);
      }

  pub applied : (cmd : Command) (a : Counted) (course : Course) (called : Result ⊤ Refusal)
      (b : Counted) (course' : Course) → IsKeptOf a course before →
      IsAppliedTo clocks_in HasCounted HasRoom IsShort 0 reading cmd a course called b course' →
      IsCalled (λ next. IsAppliedBy 0 reading cmd before (numbered called b.count) next) called b
      course'
  applied cmd a course called b course' kept h =
      applied-by (request_of cmd) cmd a course called b course' kept h
