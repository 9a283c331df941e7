use Rattle.std.proofs.Common.{inl, inr}
use Rattle.tk_program.proofs.usage.write_usage.Goals as goal

pub returns-in-Words : goal.returns-in-Words
returns-in-Words g c = rw c.in-Words.is (elim c.write_text.ensures [
  | inl done ↦ inl (done.1, done.2)
  | inr part ↦ inr (part.0, part.2, part.3)
])
