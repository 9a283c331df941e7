use Rattle.std.proofs.Common.{◌≡◌, ap, refl, sym, subst, ◌∙◌, false, Ok, Err}
use Rattle.std.specs.Prelude.{Result}
use Rattle.tk_clock.specs.declared.refusal.Refusal.{Refusal}
use Rattle.tk_ntp.specs.Course.{seen}
use Rattle.tk_ntp.specs.declared.reply.Reply.{Reply}
use Rattle.tk_ntp.specs.declared.timex.Timex.{Timex}
use Rattle.tk_ntp.specs.Followed.{IsAskedAlone}
use Rattle.tk_ntp.specs.SteeredClock.{SteeredClock}
use Rattle.tk_shared_steered.specs.declared.fault.SteeringFault.TheVariants.{Refused}
use Rattle.tk_shared_steered.specs.Asked.{IsAsked, with_clock}
use Rattle.tk_shared_steered.specs.Owner.{IsInStepIfKnown, Owner, is_lost, owner_of}
use Rattle.tk_shared_steered.proofs.shared_steering.SharedSteering.ask.Goals as goal
use Rattle.tk_shared_steered.proofs.shared_steering.SharedSteering.ask.Goals.{in-Ok, in-Err}

asked_ok : (request : Timex) (here old : Owner) (reply : Reply) (clock : SteeredClock) →
    here ≡ old → is_lost old ≡ false → IsAskedAlone request here.clock (Ok reply) clock →
    IsAsked request old (Ok reply) (with_clock clock here)
asked_ok request here old reply clock is known h =
    subst (λ (o : Owner). IsAsked request o (Ok reply) (with_clock clock here)) is
    (subst (λ (o : Owner). is_lost o ≡ false) (sym is) known, h, refl)

asked_err : (request : Timex) (here old : Owner) (refusal : Refusal) (clock : SteeredClock) →
    here ≡ old → is_lost old ≡ false → IsAskedAlone request here.clock (Err refusal) clock →
    IsAsked request old (Err (Refused refusal)) (with_clock clock here)
asked_err request here old refusal clock is known h =
    subst (λ (o : Owner). IsAsked request o (Err (Refused refusal)) (with_clock clock here)) is (
      subst (λ (o : Owner). is_lost o ≡ false) (sym is) known,
      (h.0, refl),
      ap (λ (s : SteeredClock). with_clock s here) h.1,
    )

-- a request keeps the clocks and the account
asked_in_step : (request : Timex) (here : Owner) (result : Result Reply Refusal)
    (clock : SteeredClock) → IsAskedAlone request here.clock result clock → IsInStepIfKnown here →
    IsInStepIfKnown (with_clock clock here)
asked_in_step request here (Ok reply) clock h inv = λ following.
    let step = inv following in
    record {
      clocks = ap (λ (s : SteeredClock). s.clock) h.2 ∙ step.clocks;
      last_account = ap (λ (s : SteeredClock). s.last_account) h.2 ∙ step.last_account
          ∙ sym (ap (λ (s : SteeredClock). s.clock.base.last) h.2);
    }
asked_in_step request here (Err refusal) clock h inv = λ following.
    let step = inv following in
    record {
      clocks = ap (λ (s : SteeredClock). s.clock) h.1 ∙ step.clocks;
      last_account = ap (λ (s : SteeredClock). s.last_account) h.1 ∙ step.last_account
          ∙ sym (ap (λ (s : SteeredClock). s.clock.base.last) h.1);
    }

pub same-self : goal.same-self
same-self g c = refl

pub returns-then-is_lost : goal.returns-then-is_lost
returns-then-is_lost g c = record {
  answer = (sym c.is_lost.ensures.value ∙ c.if-is_lost.true, refl);
}

pub ask_alone-requires : goal.ask_alone-requires
ask_alone-requires g c = record { sound = c.requires.sound }

pub invariant_of-self : goal.invariant_of-self
invariant_of-self g c =
    let inside = c.self.inside in
    asked_in_step c.args.request.now (owner_of inside.caller (seen inside.clock inside.course) inside.count)
    c.ask_alone.result (seen c.self.inside.clock c.ask_alone.new.self) c.ask_alone.ensures c.self.invariant

pub returns : goal.returns
returns g c =
    let inside = c.self.inside in
    let here = owner_of inside.caller (seen inside.clock inside.course) inside.count in
    let known = sym c.is_lost.ensures.value ∙ c.if-is_lost.false in
    elim c.match-ask_alone.branch [
      | in-Ok w ↦ rw w.result-is (record {
        answer = asked_ok c.args.request.now here c.args.self.now w.in-Ok.reply
            (seen c.self.inside.clock c.ask_alone.new.self) c.self.view_is known w.in-Ok.ensures;
      })
      | in-Err w ↦ rw w.result-is (record {
        answer = asked_err c.args.request.now here c.args.self.now w.in-Err.refusal
            (seen c.self.inside.clock c.ask_alone.new.self) c.self.view_is known w.in-Err.ensures;
      })
    ]
