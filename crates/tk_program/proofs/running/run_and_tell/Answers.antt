use Rattle.std.proofs.Common.{◌∙◌, ap, inl, inr, map, refl, string_bytes}
use Rattle.std.specs.Prelude.{Ok, Err}
use Rattle.tk_program.specs.Ending.{ending_at}
use Rattle.tk_program.proofs.running.run_and_tell.Goals as goal

pub returns-in-Ok : goal.returns-in-Ok
returns-in-Ok g c = (
  Ok (map string_bytes c.as_slice.result.now),
  c.run-ending.result,
  c.run-ending.new.writer,
  rw c.as_slice.ensures.value c.in-Ok.ensures.ok,
  c.run-ending.ensures,
  c.exit_code.ensures.status,
  c.exit_code.ensures.told,
  c.exit_code.ensures.followed,
)

pub returns-in-Err : goal.returns-in-Err
returns-in-Err g c = elim c.in-Err.ensures.err [
  | inl unread ↦ (
    Err unread.0,
    c.from.result,
    c.args.writer.now,
    unread.1,
    (c.from.ensures ∙ ap ending_at unread.2, (refl, refl)),
    c.exit_code-in-Err.ensures.status,
    c.exit_code-in-Err.ensures.told,
    c.exit_code-in-Err.ensures.followed,
  )
  | inr lost ↦ (
    Ok lost.0,
    c.from.result,
    c.args.writer.now,
    lost.1,
    inl (c.from.ensures ∙ ap ending_at lost.2, (refl, refl)),
    c.exit_code-in-Err.ensures.status,
    c.exit_code-in-Err.ensures.told,
    c.exit_code-in-Err.ensures.followed,
  )
]
