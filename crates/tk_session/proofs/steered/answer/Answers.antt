use Rattle.std.proofs.Common.{◌≡◌, ◌∙◌, ◌++◌, ap, refl, List, ℕ, append_assoc}
use Rattle.std.specs.Prelude.{Ok, Err}
use Rattle.tk_clock.specs.Journal.{accepted_count}
use Rattle.tk_report.specs.SteeredReport.{journal_in}
use Rattle.tk_script.specs.AdjLine.{adj_line}
use Rattle.tk_session.proofs.SteeredCalls.{answered}
use Rattle.tk_session.proofs.Writable.{writable}
use Rattle.tk_session.proofs.steered.answer.Goals as goal

pub new-line-requires : goal.new-line-requires
new-line-requires c =
    writable c.args.reading c.args.request.now c.args.clocks.now c.args.course.now
    c.adjtimex.new.clocks c.adjtimex.new.self (Ok c.in-Ok.reply) c.in-Ok.reply refl c.in-Ok.ensures

pub returns-in-Ok : goal.returns-in-Ok
returns-in-Ok c = λ before kept.
    let reply = c.in-Ok.reply in
    let called = answered c.args.reading before c.args.request.now c.args.clocks.now
    c.args.course.now (Ok reply) c.adjtimex.new.clocks c.adjtimex.new.self kept c.in-Ok.ensures in
    let line = c.new-line.result in
    let number : c.count.result ≡ accepted_count (journal_in called.next) =
    c.count.ensures ∙ called.kept.counts.count in
    let text : c.add-in-Ok.new.self ≡ adj_line reply (accepted_count (journal_in called.next)) =
    c.add-in-Ok.ensures.text
    ∙ ap (λ (l : List ℕ). l ++ line.end) (c.add.ensures.text
    ∙ ap (λ (l : List ℕ). l ++ line.middle) c.of-text.ensures.text)
    ∙ append_assoc line.beginning line.middle line.end ∙ c.new-line.ensures
    ∙ ap (adj_line reply) number in (
      called.next,
      (Ok reply, called.never, called.made, text),
      refl,
      called.kept,
    )

pub returns-in-Err : goal.returns-in-Err
returns-in-Err c = λ before kept.
    let refusal = c.in-Err.refusal in
    let called = answered c.args.reading before c.args.request.now c.args.clocks.now
    c.args.course.now (Err refusal) c.adjtimex.new.clocks c.adjtimex.new.self kept
    c.in-Err.ensures in (
      called.next,
      (Err refusal, called.never, called.made, c.of.ensures.text ∙ c.no.ensures),
      refl,
      called.kept,
    )
