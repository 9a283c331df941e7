-- Requests and commands leave what they leave of clocks without a journal, unless they have stopped
-- because there is no room for entries.
use Rattle.std.proofs.Common.{◌≡◌, ◌∙◌, ap, refl, sym, subst, inl, inr, ℕ, ◌⊎◌, Bool, true, false, Option, Some, None}
use Rattle.std.specs.Prelude.{⊤, Result, Ok, Err, MatchOption, MatchResult, IfOk, if◌then◌else◌}
use Rattle.tk_clock.specs.declared.command.Command.{Command}
use Rattle.tk_clock.specs.declared.refusal.Refusal.{Refusal}
use Rattle.tk_clock.specs.declared.refusal.Refusal.TheVariants.{Invalid}
use Rattle.tk_clock.specs.Command.{is_resume}
use Rattle.tk_clock.specs.Journal.{accepted_count}
use Rattle.tk_clock.specs.State.{State}
use Rattle.tk_keeper.specs.Room.{HasAdded, HasRoom, IsShort, keeper_state}
use Rattle.tk_ntp.specs.declared.reply.Reply.{Reply}
use Rattle.tk_ntp.specs.declared.timex.Timex.{Timex}
use Rattle.tk_ntp.specs.Account.{IsConsistent}
use Rattle.tk_ntp.specs.Advance.{IsAdvanced, second_begun_at}
use Rattle.tk_ntp.specs.Applied.{IsApplied, IsPlain, request_of, without_reply}
use Rattle.tk_ntp.specs.Asked.{IsAnswered, IsAsked, IsCommanded, first_fault}
use Rattle.tk_ntp.specs.Course.{seen}
use Rattle.tk_ntp.specs.Fault.{is_faulty}
use Rattle.tk_ntp.specs.Keeping.{IsAskedTo, IsCommandedTo, IsFollowing, request_most, second_most}
use Rattle.tk_ntp.specs.SteeredClock.{SteeredClock, reading_refusal}
use Rattle.tk_ntp.proofs.Accepted.{later}
use Rattle.tk_ntp.proofs.SeenBy.{advanced, asked, commanded, same_seen}
use Rattle.tk_steered.specs.Kept.{IsAnsweredBy, IsAppliedBy, IsPlainBy, SteeredKeeper, numbered, steered_of}
use Rattle.tk_steered.specs.Stopped.{IsOnTheWay}
use Rattle.tk_steered.proofs.Numbered.{same-number}
use Rattle.tk_steered.proofs.Stopped.{Stops, is_short, unmade_stops}

module _ (who reading : ℕ) (before after : SteeredKeeper) where
  -- a result says that the call has stopped
  abbrev pub IsStop : {R : Type 0} → Result R Refusal → Type 0
  IsStop result =
      MatchResult result (λ _. ⊥)
      (λ refusal. Stops who reading refusal (steered_of before) (steered_of after))

  same_clocks : after.keeper ≡ before.keeper → after.course ≡ before.course →
      steered_of after ≡ steered_of before
  same_clocks =
      same_seen keeper_state HasAdded HasRoom IsShort before.keeper after.keeper before.course
      after.course

  answered-or : (fault : Option Refusal) (request : Timex) (result : Result Reply Refusal) →
      first_fault reading request (steered_of before) ≡ fault →
      MatchOption fault
      (IsFollowing keeper_state HasAdded HasRoom IsShort request_most who reading
      (λ x middle. IsAskedTo keeper_state HasAdded HasRoom IsShort who reading request x middle
      result after.keeper after.course) before.keeper before.course result after.keeper after.course)
      (λ r. (result ≡ Err r) × (after.keeper ≡ before.keeper) × (after.course ≡ before.course)) →
      MatchOption fault
      ((middle : SteeredClock) × IsAdvanced reading (steered_of before) middle
      × IsAsked reading request middle result (steered_of after))
      (λ r. (result ≡ Err r) × (steered_of after ≡ steered_of before))
      ⊎ IsStop result
  answered-or None request (Ok reply) is (inl short) = absurd short
  answered-or None request (Err refusal) is (inl unmade) =
      inr
      (unmade_stops who reading request_most before after refusal
      (later (if is_faulty request then Some Invalid else None)
      (reading_refusal reading (steered_of before)) is) unmade)
  answered-or None request result is (inr (x, ready, middle, arrived, room, done)) = inl (
    seen (keeper_state x) middle,
    advanced keeper_state HasAdded HasRoom IsShort false who reading before.keeper before.course x
        middle arrived,
    asked keeper_state HasAdded HasRoom IsShort who reading request x ready middle result
        after.keeper after.course room done,
  )
  answered-or (Some refusal) request result is h = inl (h.0, same_clocks h.1 h.2)

  -- a request has the answer of clocks without a journal, unless it has stopped
  pub answered : (request : Timex) (result : Result Reply Refusal) →
      IsAnsweredBy who reading request before result after →
      IsAnswered reading request (steered_of before) result (steered_of after) ⊎ IsStop result
  answered request result =
      answered-or (first_fault reading request (steered_of before)) request result refl

  followed-or : (refused : Option Refusal) (cmd : Command) (result : Result ⊤ Refusal) →
      reading_refusal reading (steered_of before) ≡ refused →
      MatchOption refused
      (IsFollowing keeper_state HasAdded HasRoom IsShort second_most who reading
      (λ x middle. IsCommandedTo keeper_state HasAdded HasRoom IsShort who reading cmd x middle
      result after.keeper after.course) before.keeper before.course result after.keeper after.course)
      (λ r. (result ≡ Err r) × (after.keeper ≡ before.keeper) × (after.course ≡ before.course)) →
      MatchOption refused
      ((middle : SteeredClock) × IsAdvanced reading (steered_of before) middle
      × IsCommanded reading cmd middle result (steered_of after))
      (λ r. (result ≡ Err r) × (steered_of after ≡ steered_of before))
      ⊎ IsStop result
  followed-or None cmd (Ok done) is (inl short) = absurd short
  followed-or None cmd (Err refusal) is (inl unmade) =
      inr (unmade_stops who reading second_most before after refusal is unmade)
  followed-or None cmd result is (inr (x, ready, middle, arrived, room, done)) = inl (
    seen (keeper_state x) middle,
    advanced keeper_state HasAdded HasRoom IsShort false who reading before.keeper before.course x
        middle arrived,
    commanded keeper_state HasAdded HasRoom IsShort who reading cmd x ready middle result
        after.keeper after.course room done,
  )
  followed-or (Some refusal) cmd result is h = inl (h.0, same_clocks h.1 h.2)

  -- a call that leaves the same clocks has stopped before its only command
  stays-stop : (refusal : Refusal) → IsShort second_most after.keeper refusal →
      steered_of after ≡ steered_of before →
      Stops who reading refusal (steered_of before) (steered_of after)
  stays-stop refusal short same = record {
    short = is_short who reading second_most after.keeper refusal short;
    rest =
        subst (IsOnTheWay second_begun_at reading (steered_of before)) (sym same) (λ there h. h);
    consistent = λ consistent. subst IsConsistent (sym same) consistent;
  }

  pub same_there : keeper_state after.keeper ≡ keeper_state before.keeper →
      after.course ≡ before.course → steered_of after ≡ steered_of before
  same_there is is' =
      ap (λ (k : State). seen k after.course) is ∙ ap (seen (keeper_state before.keeper)) is'

  plain-or : (resumes : Bool) (cmd : Command) (result : Result ⊤ Refusal) →
      IsPlainBy resumes who reading cmd before result after →
      IsPlain resumes reading cmd (steered_of before) result (steered_of after) ⊎ IsStop result
  plain-or true cmd (Ok done) (inl short) = absurd short
  plain-or true cmd (Err refusal) (inl (unready, same)) =
      inr (stays-stop refusal unready.short (same_there unready.same same))
  plain-or true cmd result (inr (ready, room, done)) =
      inl
      (commanded keeper_state HasAdded HasRoom IsShort who reading cmd before.keeper ready
      before.course result after.keeper after.course room done)
  plain-or false cmd result h =
      followed-or (reading_refusal reading (steered_of before)) cmd result refl h

  numbered-stop : {R : Type 0} (answer : Result R Refusal) (number : ℕ) (result : Result ℕ Refusal) →
      result ≡ numbered answer number → IsStop answer → IsStop result
  numbered-stop (Ok value) number result is stop = absurd stop
  numbered-stop (Err refusal) number result is stop =
      subst (λ (r : Result ℕ Refusal). IsStop r) (sym is) stop

  applied-or : (acts : Option Timex) (cmd : Command) (result : Result ℕ Refusal) →
      MatchOption acts
      ((answer : Result ⊤ Refusal) × IsPlainBy (is_resume cmd) who reading cmd before answer after
      × (result ≡ numbered answer (accepted_count after.keeper.journal)))
      (λ request. (answer : Result Reply Refusal) × IsAnsweredBy who reading request before answer after
      × (result ≡ numbered answer (accepted_count after.keeper.journal))) →
      ((told : Result ⊤ Refusal) × MatchOption acts
      (IsPlain (is_resume cmd) reading cmd (steered_of before) told (steered_of after))
      (λ request. (answer : Result Reply Refusal)
      × IsAnswered reading request (steered_of before) answer (steered_of after)
      × (told ≡ without_reply answer))
      × (result ≡ numbered told (accepted_count after.keeper.journal)))
      ⊎ IsStop result
  applied-or None cmd result (answer, h, is) = plain-told (plain-or (is_resume cmd) cmd answer h)
    where
      plain-told : IsPlain (is_resume cmd) reading cmd (steered_of before) answer (steered_of after)
          ⊎ IsStop answer →
          ((told : Result ⊤ Refusal)
          × IsPlain (is_resume cmd) reading cmd (steered_of before) told (steered_of after)
          × (result ≡ numbered told (accepted_count after.keeper.journal)))
          ⊎ IsStop result
      plain-told (inl made) = inl (answer, made, is)
      plain-told (inr stop) =
          inr (numbered-stop answer (accepted_count after.keeper.journal) result is stop)
  applied-or (Some request) cmd result (answer, h, is) = asked-told (answered request answer h)
    where
      asked-told : IsAnswered reading request (steered_of before) answer (steered_of after)
          ⊎ IsStop answer →
          ((told : Result ⊤ Refusal) × ((reply : Result Reply Refusal)
          × IsAnswered reading request (steered_of before) reply (steered_of after)
          × (told ≡ without_reply reply))
          × (result ≡ numbered told (accepted_count after.keeper.journal)))
          ⊎ IsStop result
      asked-told (inl made) = inl (
        without_reply answer,
        (answer, made, refl),
        is
            ∙ sym
            (same-number answer (without_reply answer) (accepted_count after.keeper.journal) refl),
      )
      asked-told (inr stop) =
          inr (numbered-stop answer (accepted_count after.keeper.journal) result is stop)

  -- what a command leaves of clocks without a journal, with the same result except for its number
  abbrev pub IsMade : Command → Result ℕ Refusal → Type 0
  IsMade cmd result =
      (told : Result ⊤ Refusal) × IsApplied reading cmd (steered_of before) told (steered_of after)
      × (result ≡ numbered told (accepted_count after.keeper.journal))

  -- a command leaves that, unless it has stopped
  pub applied : (cmd : Command) (result : Result ℕ Refusal) →
      IsAppliedBy who reading cmd before result after → IsMade cmd result ⊎ IsStop result
  applied cmd result = applied-or (request_of cmd) cmd result

  answered-ok : (request : Timex) (result : Result Reply Refusal) →
      IsAnswered reading request (steered_of before) result (steered_of after) ⊎ IsStop result →
      IfOk result
      (λ reply. IsAnswered reading request (steered_of before) (Ok reply) (steered_of after))
  answered-ok request (Ok reply) (inl made) = made
  answered-ok request (Ok reply) (inr stop) = absurd stop
  answered-ok request (Err refusal) h = tt

  -- a request that is answered
  pub answered_ok : (request : Timex) (result : Result Reply Refusal) →
      IsAnsweredBy who reading request before result after →
      IfOk result
      (λ reply. IsAnswered reading request (steered_of before) (Ok reply) (steered_of after))
  answered_ok request result h = answered-ok request result (answered request result h)

  applied-ok : (cmd : Command) (result : Result ℕ Refusal) → IsMade cmd result ⊎ IsStop result →
      IfOk result
      (λ _. IsApplied reading cmd (steered_of before) (Ok (tt {0})) (steered_of after))
  applied-ok cmd (Ok number) (inl (Ok done, made, is)) = made
  applied-ok cmd (Ok number) (inl (Err refusal, made, is)) = absurd (cc is)
  applied-ok cmd (Ok number) (inr stop) = absurd stop
  applied-ok cmd (Err refusal) h = tt

  -- a command that is accepted
  pub applied_ok : (cmd : Command) (result : Result ℕ Refusal) →
      IsAppliedBy who reading cmd before result after →
      IfOk result
      (λ _. IsApplied reading cmd (steered_of before) (Ok (tt {0})) (steered_of after))
  applied_ok cmd result h = applied-ok cmd result (applied cmd result h)
