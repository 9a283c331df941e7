use Rattle.std.proofs.Common.{◌≡◌, ◌∙◌, ◌+◌, ◌≤◌, ℕ, Ok, Err, length, ap, arith, refl, subst, sym}
use Rattle.std.proofs.lemmas.Grind.{common_steps}
use Rattle.tk_script.specs.Plain.{cut_at_commas}
use Rattle.tk_script.specs.Rows.{row_of}
use Rattle.tk_session.specs.Session.{Session, most_records}
use Rattle.tk_session.proofs.Sessions.{refused-plain, refused-script, takes-none, takes-row}
use Rattle.tk_session.proofs.session.Session.record.Goals as goal

pub returns-then-not-is_line : goal.returns-then-not-is_line
returns-then-not-is_line c =
    (refused-plain _ c.args.line.now (sym c.is_line.ensures ∙ c.if-not-is_line.true), refl)

pub returns-then-is_empty : goal.returns-then-is_empty
returns-then-is_empty c =
    let none : length c.args.line.now ≡ 0 =
    grind (arith, common_steps, c.is_empty.ensures, c.if-is_empty.true) in
    takes-none c.args.self.now c.args.line.now c.new.result none c.new.ensures

pub returns-in-Ok : goal.returns-in-Ok
returns-in-Ok c =
    let line = c.args.line.now in
    let some : length line ≡ 0 → ⊥ = λ none.
    grind (arith, common_steps, c.is_empty.ensures, c.if-is_empty.false, none) in
    let known = subst (λ (n : ℕ). row_of (n + 1) (cut_at_commas line) ≡ Ok c.in-Ok.row)
    (ap (λ (s : Session). s.records) c.self.view_is) (sym c.in-Ok.ensures) in
    takes-row c.args.self.now line c.carry_out.result c.carry_out.new.self c.in-Ok.row some
    (sym c.is_line.ensures ∙ c.if-not-is_line.false) known c.carry_out.ensures

pub returns-in-Err : goal.returns-in-Err
returns-in-Err c =
    let line = c.args.line.now in
    let some : length line ≡ 0 → ⊥ = λ none.
    grind (arith, common_steps, c.is_empty.ensures, c.if-is_empty.false, none) in
    let view = ap (λ (s : Session). s.records) c.self.view_is in
    let known = subst (λ (n : ℕ). row_of (n + 1) (cut_at_commas line) ≡ Err c.in-Err.error) view
    (sym c.in-Err.ensures) in
    let few : c.args.self.now.records + 1 ≤ most_records = omega (arith, view) in (
      refused-script (c.args.self.now.records + 1) line c.in-Err.error some
          (sym c.is_line.ensures ∙ c.if-not-is_line.false) few known,
      refl,
    )
