-- The laws of requests and commands, for clocks that a keeper records.
use Rattle.std.proofs.Common.{◌≡◌, ap, refl, inl, inr, ℕ, ◌⊎◌, true, false}
use Rattle.std.specs.Prelude.{⊤, Result, Ok, Err}
use Rattle.tk_clock.specs.declared.command.Command.{Command}
use Rattle.tk_clock.specs.declared.command.Command.TheVariants.{Update, SetTime, Step, Freq, Tick, Tai, Leap, Suspend, Resume}
use Rattle.tk_clock.specs.declared.refusal.Refusal.{Refusal}
use Rattle.tk_clock.specs.declared.timespec.Timespec.{Timespec}
use Rattle.tk_clock.specs.Command.{is_resume}
use Rattle.tk_keeper.specs.Room.{HasAdded, HasRoom, IsShort, keeper_state}
use Rattle.tk_ntp.specs.declared.reply.Reply.{Reply}
use Rattle.tk_ntp.specs.declared.timex.Timex.{Timex}
use Rattle.tk_ntp.specs.Account.{owed, sets_by, sets_by_step, IsBalanced, IsConsistent}
use Rattle.tk_ntp.specs.Request.{step_of}
use Rattle.tk_ntp.specs.Steady.{is_kept_by, keeps_rate, IsSmallOrSame}
use Rattle.tk_ntp.proofs.Laws.{answered_consistent, answered_small, answered_sum, applied_consistent, applied_small, applied_sum, applied_woken}
use Rattle.tk_ntp.proofs.SeenBy.{commanded}
use Rattle.tk_steered.specs.Kept.{IsAnsweredBy, IsAppliedBy, IsPlainBy, SteeredKeeper, steered_of}
use Rattle.tk_steered.specs.Stopped.{HasStopped}
use Rattle.tk_steered.proofs.Answered.{IsStop, answered, applied, same_there}
use Rattle.tk_steered.proofs.Stopped.{has_stopped, stopped_consistent}

module _ (who reading : ℕ) (before after : SteeredKeeper) where
  -- a law of calls that haven't stopped
  unless-stopped : {R : Type 0} {P Q : Type 0} (result : Result R Refusal) →
      P ⊎ IsStop who reading before after result → (P → Q) →
      Q ⊎ HasStopped reading (steered_of before) result (steered_of after)
  unless-stopped result (inl made) law = inl (law made)
  unless-stopped result (inr stop) law =
      inr (has_stopped who reading result (steered_of before) (steered_of after) stop)

  -- where the last account is after any call
  always-consistent : {R : Type 0} {P : Type 0} (result : Result R Refusal) →
      P ⊎ IsStop who reading before after result → (P → IsConsistent (steered_of after)) →
      IsConsistent (steered_of before) → IsConsistent (steered_of after)
  always-consistent result (inl made) law consistent = law made
  always-consistent result (inr stop) law consistent =
      stopped_consistent who reading result (steered_of before) (steered_of after) stop consistent

  module _ (request : Timex) (result : Result Reply Refusal)
      (h : IsAnsweredBy who reading request before result after) where
    pub request_sum : IsConsistent (steered_of before) →
        IsBalanced (sets_by_step reading (step_of request)) reading (steered_of before)
        (steered_of after)
        ⊎ HasStopped reading (steered_of before) result (steered_of after)
    request_sum consistent =
        unless-stopped result (answered who reading before after request result h)
        (λ made.
        answered_sum reading request (steered_of before) (steered_of after) result made consistent)

    pub request_small :
        IsSmallOrSame (keeps_rate request) reading (steered_of before) (steered_of after)
        ⊎ HasStopped reading (steered_of before) result (steered_of after)
    request_small =
        unless-stopped result (answered who reading before after request result h)
        (λ made. answered_small reading request (steered_of before) (steered_of after) result made)

    pub request_consistent : IsConsistent (steered_of before) → IsConsistent (steered_of after)
    request_consistent consistent =
        always-consistent result (answered who reading before after request result h)
        (λ made.
        answered_consistent reading request (steered_of before) (steered_of after) result made consistent)
        consistent

  module _ (cmd : Command) (result : Result ℕ Refusal)
      (h : IsAppliedBy who reading cmd before result after) where
    pub command_sum : IsConsistent (steered_of before) → is_resume cmd ≡ false →
        IsBalanced (sets_by reading cmd) reading (steered_of before) (steered_of after)
        ⊎ HasStopped reading (steered_of before) result (steered_of after)
    command_sum consistent awake =
        unless-stopped result (applied who reading before after cmd result h)
        (λ made.
        applied_sum reading cmd (steered_of before) (steered_of after) made.0 made.1 consistent awake)

    pub command_small : is_resume cmd ≡ false →
        IsSmallOrSame (is_kept_by cmd) reading (steered_of before) (steered_of after)
        ⊎ HasStopped reading (steered_of before) result (steered_of after)
    command_small awake =
        unless-stopped result (applied who reading before after cmd result h)
        (λ made. applied_small reading cmd (steered_of before) (steered_of after) made.0 made.1 awake)

    pub command_consistent : IsConsistent (steered_of before) → IsConsistent (steered_of after)
    command_consistent consistent =
        always-consistent result (applied who reading before after cmd result h)
        (λ made.
        applied_consistent reading cmd (steered_of before) (steered_of after) made.0 made.1 consistent)
        consistent

  resumed : (away : Timespec) (answer : Result ⊤ Refusal) →
      IsPlainBy true who reading (Resume away) before answer after → IsConsistent (steered_of before) →
      owed (steered_of after) ≡ owed (steered_of before)
  resumed away (Ok done) (inl short) consistent = absurd short
  resumed away (Err refusal) (inl (unready, same)) consistent =
      ap owed (same_there who reading before after unready.same same)
  resumed away answer (inr (ready, room, done)) consistent =
      applied_woken reading (Resume away) (steered_of before) (steered_of after) answer
      (commanded keeper_state HasAdded HasRoom IsShort who reading (Resume away) before.keeper ready
      before.course answer after.keeper after.course room done) consistent refl

  -- a resume changes nothing that is owed
  pub command_woken : (cmd : Command) (result : Result ℕ Refusal) →
      IsAppliedBy who reading cmd before result after → IsConsistent (steered_of before) →
      is_resume cmd ≡ true → owed (steered_of after) ≡ owed (steered_of before)
  command_woken (Resume away) result (answer, h, is) consistent resumes = resumed away answer h consistent
  command_woken Update result h consistent resumes = absurd (cc resumes)
  command_woken (SetTime time) result h consistent resumes = absurd (cc resumes)
  command_woken (Step by) result h consistent resumes = absurd (cc resumes)
  command_woken (Freq frequency) result h consistent resumes = absurd (cc resumes)
  command_woken (Tick tick) result h consistent resumes = absurd (cc resumes)
  command_woken (Tai seconds) result h consistent resumes = absurd (cc resumes)
  command_woken (Leap by tai) result h consistent resumes = absurd (cc resumes)
  command_woken Suspend result h consistent resumes = absurd (cc resumes)
