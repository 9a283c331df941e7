use Rattle.std.proofs.Common.{◌∙◌, ◌+◌, ◌++◌, ℕ, List, Option, ap, arith, sym}
use Rattle.std.proofs.lemmas.List.{append-nil}
use Rattle.tk_report.specs.Report.{difference, differs_text}
use Rattle.tk_script.specs.Lines.{differs_line}
use Rattle.tk_session.specs.Session.{Session}
use Rattle.tk_session.proofs.Sessions.{carried-out}
use Rattle.tk_session.proofs.session.Session.carry_out.Goals as goal

pub returns-in-None : goal.returns-in-None
returns-in-None c =
    let before = c.args.self.now in
    let view = c.self.view_is in
    let none = c.in-None.is in
    let line = c.tell-text.result.0 in
    carried-out before c.tell-text.new.self c.args.row line c.tell-text.result.1 line _
    c.tell-text.ensures.told
    (sym (append-nil line)
    ∙ ap (λ (v : Option ℕ). line ++ differs_text (before.records + 1) v) (sym none))
    (ap (λ (s : Session). s.clocks) view) (ap (λ (s : Session). s.course) view)
    (ap (λ (s : Session). s.is_steered) view) c.requires
    (omega (
      arith,
      ap (λ (s : Session). s.differences) view,
      c.tell-text.ensures.differences,
      ap difference none,
    ))

pub returns-in-Some : goal.returns-in-Some
returns-in-Some c =
    let before = c.args.self.now in
    let view = c.self.view_is in
    let some = c.in-Some.is in
    let line = c.tell-text.result.0 in
    carried-out before c.tell-text.new.self c.args.row line c.tell-text.result.1 c.add.new.self _
    c.tell-text.ensures.told
    (c.add.ensures.text ∙ ap (λ (l : List ℕ). line ++ l) (c.differs.ensures
    ∙ ap (λ (n : ℕ). differs_line n c.in-Some.value) c.requires)
    ∙ ap (λ (v : Option ℕ). line ++ differs_text (before.records + 1) v) (sym some))
    (ap (λ (s : Session). s.clocks) view) (ap (λ (s : Session). s.course) view)
    (ap (λ (s : Session). s.is_steered) view) c.requires
    (omega (
      arith,
      ap (λ (s : Session). s.differences) view,
      c.tell-text.ensures.differences,
      ap difference some,
    ))
