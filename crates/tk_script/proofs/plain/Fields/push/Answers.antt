use Rattle.tk_script.proofs.PlainLemmas.{HasFields-counted, HasFields-kept}
use Rattle.std.proofs.Common.{◌+◌, arith, ap}
use Rattle.tk_script.specs.declared.plain.Fields.{Fields}
use Rattle.tk_script.proofs.plain.Fields.push.Goals as goal
use Rattle.tk_script.proofs.plain.Fields.push.Goals.{then-self-lt-MOST_FIELDS, else-self-lt-MOST_FIELDS}

pub returns-clause-fields : goal.returns-clause-fields
returns-clause-fields c = λ fields has.
    let old = c.args.self.now in
    let after = c.if-self-lt-MOST_FIELDS.self in
    let new : Fields = record { first = after.first; count = after.count + 1 } in
    elim c.if-self-lt-MOST_FIELDS.branch [
      | then-self-lt-MOST_FIELDS w ↦
          HasFields-kept fields old new c.args.field has
          (ap (λ (f : Fields). f.count + 1) w.self-is) w.if-self-lt-MOST_FIELDS.true
          (ap (λ (f : Fields). f.first) w.self-is)
      | else-self-lt-MOST_FIELDS w ↦
          HasFields-counted fields old new c.args.field.now has
          (ap (λ (f : Fields). f.count + 1) w.self-is)
          (omega (arith, w.if-self-lt-MOST_FIELDS.false))
          (ap (λ (f : Fields). f.first) w.self-is)
    ]
