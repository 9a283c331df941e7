use Rattle.std.proofs.Common.{◌≡◌, ◌∙◌, ◌+◌, ◌-◌, zero, suc, take, drop, arith, ap, sym, length-drop}
use Rattle.csv.specs.Records.{field_at}
use Rattle.memchr.specs.Find.{is_byte}
use Rattle.tk_script.specs.Plain.{cut_at_commas}
use Rattle.tk_script.proofs.LaterFields.{field-first, field-later, field-missing, field-whole}
use Rattle.tk_script.proofs.PlainLemmas.{found-at, found-none, range-to_end}
use Rattle.tk_script.proofs.later_fields.field_in_line.Goals as goal

pub commas-preserved : goal.commas-preserved
commas-preserved c =
    let rest = c.commas.rest.now in
    let comma = c.in-Some.comma in
    let found = found-at 44 rest comma c.in-Some.ensures in
    let tail = drop (comma + 1) rest in
    let shorter = length-drop (comma + 1) rest in
    rw (range-to_end (comma + 1) rest) (
      omega (arith, c.commas.invariant.0, shorter),
      λ k.
          sym (field-later rest (take comma rest) tail k found.1 found.2)
          ∙ c.commas.invariant.1 (suc k)
          ∙ ap (field_at (cut_at_commas c.args.line.now)) (omega arith),
    )

pub returns-in_default : goal.returns-in_default
returns-in_default c =
    let rest = c.commas.rest.now in
    let k = c.args.i - c.commas.place in
    let place : k + c.commas.place ≡ c.args.i = omega (arith, c.commas-test.true) in
    sym (ap (field_at (cut_at_commas c.args.line.now)) (sym place)
    ∙ sym (c.commas.invariant.1 k)
    ∙ field-missing rest k (found-none (is_byte 44) rest c.in_default.ensures)
    (omega (arith, c.commas-test.true)))

pub returns-in-Some-memchr : goal.returns-in-Some-memchr
returns-in-Some-memchr c =
    let rest = c.commas.rest.now in
    let comma = c.in-Some-memchr.comma in
    let found = found-at 44 rest comma c.in-Some-memchr.ensures in
    sym (field-first rest (take comma rest) (drop (comma + 1) rest) found.1 found.2)
    ∙ c.commas.invariant.1 zero
    ∙ ap (field_at (cut_at_commas c.args.line.now)) (omega (arith, c.commas-test.false))

pub returns-in-None : goal.returns-in-None
returns-in-None c =
    let rest = c.commas.rest.now in
    sym (field-whole rest (found-none (is_byte 44) rest c.in-None.ensures))
    ∙ c.commas.invariant.1 zero
    ∙ ap (field_at (cut_at_commas c.args.line.now)) (omega (arith, c.commas-test.false))
