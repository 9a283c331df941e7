use Rattle.std.proofs.Common.{◌≡◌, ◌∙◌, ap, unsigned_abs, w64, FitsSigned, rules}
use Rattle.std.proofs.lemmas.Int.{to_z-of_z}
use Rattle.tk_ntp.specs.Ntp.{Ntp}
use Rattle.tk_ntp.specs.Modes.{asked, asked_tai}
use Rattle.tk_ntp.specs.Reply.{reply_with, asked_offset}
use Rattle.tk_ntp.specs.declared.reply.Reply.{Reply}
use Rattle.tk_ntp.proofs.Reading.{asked-nothing}
use Rattle.tk_ntp.proofs.ReadBack.{freq-read_back}
use Rattle.tk_ntp.proofs.discipline.Discipline.adjtimex.Goals as goal

pub returns-clause-state : goal.returns-clause-state
returns-clause-state c =
    let fits : FitsSigned w64 c.args.real.sec = search rules in
    let now : c.unsigned_abs.result ≡ unsigned_abs c.args.real.sec =
    c.unsigned_abs.ensures.value ∙ ap unsigned_abs (to_z-of_z w64 c.args.real.sec fits) in
    c.ask-offset.ensures.state ∙ ap (λ n. asked c.args.request.now n c.args.self.now) now

pub returns-clause-reply : goal.returns-clause-reply
returns-clause-reply c =
    let request = c.args.request.now in
    let real = c.args.real in
    let ntp = c.args.self.now in
    let n = c.unsigned_abs.result in
    let told = c.ask-offset.ensures in
    let fits : FitsSigned w64 real.sec = search rules in
    let offset_fits : FitsSigned w64 c.ask-offset.result.0 = search rules in
    let now : n ≡ unsigned_abs real.sec =
    c.unsigned_abs.ensures.value ∙ ap unsigned_abs (to_z-of_z w64 real.sec fits) in
    c.reply.ensures
    ∙ ap (λ z. reply_with request.modes z real c.ask-offset.result.1 c.ask-offset.new.self)
    (to_z-of_z w64 c.ask-offset.result.0 offset_fits ∙ told.offset)
    ∙ ap (λ t. reply_with request.modes (asked_offset request n ntp) real t c.ask-offset.new.self)
    told.tai
    ∙ ap (λ (s : Ntp). reply_with request.modes (asked_offset request n ntp) real
    (asked_tai request c.args.tai) s) told.state
    ∙ ap (λ k. reply_with request.modes (asked_offset request k ntp) real
    (asked_tai request c.args.tai) (asked request k ntp)) now

pub returns-clause-reads : goal.returns-clause-reads
returns-clause-reads c = λ is.
    c.ask-offset.ensures.state
    ∙ asked-nothing c.args.request.now c.unsigned_abs.result c.args.self.now is

pub returns-clause-reads_back : goal.returns-clause-reads_back
returns-clause-reads_back c = λ given none.
    ap (λ (r : Reply). r.timex.freq) (returns-clause-reply c)
    ∙ freq-read_back c.args.request.now (unsigned_abs c.args.real.sec) c.args.self.now
    c.requires.sound given none
