-- Results with the number of the commands accepted so far.
use Rattle.std.proofs.Common.{◌≡◌, ◌∙◌, ap, ℕ}
use Rattle.std.specs.Prelude.{⊤, Option, Some, None, Result, Ok, Err, MatchOption}
use Rattle.tk_clock.specs.declared.command.Command.{Command}
use Rattle.tk_clock.specs.declared.refusal.Refusal.{Refusal}
use Rattle.tk_clock.specs.Command.{is_resume}
use Rattle.tk_clock.specs.Journal.{accepted_count}
use Rattle.tk_ntp.specs.declared.reply.Reply.{Reply}
use Rattle.tk_ntp.specs.declared.timex.Timex.{Timex}
use Rattle.tk_ntp.specs.Applied.{request_of, without_reply}
use Rattle.tk_steered.specs.Kept.{IsAnsweredBy, IsAppliedBy, IsObeyed, IsPlainBy, SteeredKeeper, numbered}

-- the same result without a reply has the same number
pub same-number : (answer : Result Reply Refusal) (result : Result ⊤ Refusal) (number : ℕ) →
    result ≡ without_reply answer → numbered result number ≡ numbered answer number
same-number (Ok reply) result number is = ap (λ r. numbered r number) is
same-number (Err refusal) result number is = ap (λ r. numbered r number) is

by-acts : (acts : Option Timex) (who reading : ℕ) (cmd : Command) (before after : SteeredKeeper)
    (result : Result ⊤ Refusal) (told : Result ℕ Refusal) →
    told ≡ numbered result (accepted_count after.keeper.journal) →
    MatchOption acts
    (IsPlainBy (is_resume cmd) who reading cmd before result after)
    (λ request. (answer : Result Reply Refusal) × IsAnsweredBy who reading request before answer after
    × (result ≡ without_reply answer)) →
    MatchOption acts
    ((answer : Result ⊤ Refusal) × IsPlainBy (is_resume cmd) who reading cmd before answer after
    × (told ≡ numbered answer (accepted_count after.keeper.journal)))
    (λ request. (answer : Result Reply Refusal) × IsAnsweredBy who reading request before answer after
    × (told ≡ numbered answer (accepted_count after.keeper.journal)))
by-acts None who reading cmd before after result told is h = (result, h, is)
by-acts (Some request) who reading cmd before after result told is h =
    (h.0, h.1, is ∙ same-number h.0 result (accepted_count after.keeper.journal) h.2)

-- a command whose result is returned with its number
pub applied : (who reading : ℕ) (cmd : Command) (before after : SteeredKeeper)
    (result : Result ⊤ Refusal) (told : Result ℕ Refusal) →
    told ≡ numbered result (accepted_count after.keeper.journal) →
    IsObeyed who reading cmd before result after →
    IsAppliedBy who reading cmd before told after
applied who reading cmd before after result told is =
    by-acts (request_of cmd) who reading cmd before after result told is
