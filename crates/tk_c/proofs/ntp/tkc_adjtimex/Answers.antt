use Rattle.std.proofs.Common.{◌≡◌, ◌∙◌, ap, refl, subst, sym}
use Rattle.std.specs.Prelude.{Result}
use Rattle.tk_clock.specs.declared.refusal.Refusal.{Refusal}
use Rattle.tk_ntp.specs.declared.reply.Reply.{Reply}
use Rattle.tk_c.specs.CallResults.{code_of_call}
use Rattle.tk_c.specs.Codes.{number_of}
use Rattle.tk_ntp.specs.Applied.{without_reply}
use Rattle.tk_c.specs.CountedNtp.{IsWritten, counted_clock, whole}
use Rattle.tk_c.proofs.CountedCalls.{request_made}
use Rattle.tk_c.proofs.ntp.tkc_adjtimex.Goals as goal

pub returns-in-Ok : goal.returns-in-Ok
returns-in-Ok c =
    request_made c.args.reading c.number.result c.args.timex.now c.args.state.now
    c.answer.new.self c.state_number.result c.request.result (whole c.args.ntp.now) _
    (counted_clock (whole c.args.ntp.now)) c.adjtimex-answer.new.clocks c.args.ntp.now.course
    c.adjtimex-answer.new.self c.adjtimex-answer.result c.request.ensures refl
    refl refl c.adjtimex-answer.ensures
    (subst (λ (r : Result Reply Refusal).
    c.number.result ≡ number_of (code_of_call (without_reply r))) (sym c.in-Ok.is) c.number.ensures)
    (subst (λ (r : Result Reply Refusal).
    IsWritten r c.args.timex.now c.args.state.now c.answer.new.self c.state_number.result)
    (sym c.in-Ok.is) (c.answer.ensures, c.state_number.ensures))

pub returns-in-Err : goal.returns-in-Err
returns-in-Err c =
    request_made c.args.reading c.number-in-Err.result c.args.timex.now c.args.state.now
    c.args.timex.now c.args.state.now c.request.result (whole c.args.ntp.now) _
    (counted_clock (whole c.args.ntp.now)) c.adjtimex-answer.new.clocks c.args.ntp.now.course
    c.adjtimex-answer.new.self c.adjtimex-answer.result c.request.ensures refl
    refl refl c.adjtimex-answer.ensures
    (subst (λ (r : Result Reply Refusal).
    c.number-in-Err.result ≡ number_of (code_of_call (without_reply r))) (sym c.in-Err.is)
    (c.number-in-Err.ensures ∙ ap number_of c.from.ensures))
    (subst (λ (r : Result Reply Refusal).
    IsWritten r c.args.timex.now c.args.state.now c.args.timex.now c.args.state.now)
    (sym c.in-Err.is) (refl, refl))
