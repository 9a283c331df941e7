-- The code of a call that is counted, and the count after it.
use Rattle.std.specs.Prelude.{ℕ, ◌+◌, ⊤, Result, Ok, Err}
use Rattle.tk_clock.specs.declared.refusal.Refusal.{Refusal}
use Rattle.tk_c.specs.declared.code.Code.{Code}
use Rattle.tk_c.specs.declared.code.Code.TheVariants.{Done}
use Rattle.tk_c.specs.Codes.{code_of_refusal}

-- the code of a result
abbrev pub code_of_call : Result ⊤ Refusal → Code
code_of_call (Ok done) = Done
code_of_call (Err refusal) = code_of_refusal refusal

-- the count after it
abbrev pub counted_after : Result ⊤ Refusal → ℕ → ℕ
counted_after (Ok done) front = front + 1
counted_after (Err refusal) front = front
