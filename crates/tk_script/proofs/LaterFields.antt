-- The fields of a line, found by the commas before them.
use Rattle.std.proofs.Common.{◌≡◌, ◌<◌, ◌++◌, ℕ, zero, suc, List, [], ◌∷◌, Some, None, refl, arith}
use Rattle.csv.specs.Records.{field_at}
use Rattle.memchr.specs.Find.{is_byte}
use Rattle.tk_script.specs.Plain.{Lacks, cut_at_commas}
use Rattle.tk_script.proofs.PlainLemmas.{cut-first, cut-whole}

-- the field before the first comma, and the fields after it
pub field-first : (line head rest : List ℕ) → line ≡ head ++ 44 ∷ rest → Lacks (is_byte 44) head →
    field_at (cut_at_commas line) zero ≡ Some head
unfolding field_at
field-first line head rest split whole = rw (split, cut-first [] head rest whole) refl

pub field-later : (line head rest : List ℕ) (k : ℕ) → line ≡ head ++ 44 ∷ rest →
    Lacks (is_byte 44) head →
    field_at (cut_at_commas line) (suc k) ≡ field_at (cut_at_commas rest) k
unfolding field_at
field-later line head rest k split whole = rw (split, cut-first [] head rest whole) refl

-- a line without a comma is its only field
pub field-whole : (line : List ℕ) → Lacks (is_byte 44) line →
    field_at (cut_at_commas line) zero ≡ Some line
unfolding field_at
field-whole line whole = rw (cut-whole [] line whole) refl

pub field-missing : (line : List ℕ) (k : ℕ) → Lacks (is_byte 44) line → 0 < k →
    field_at (cut_at_commas line) k ≡ None
unfolding field_at
field-missing line zero whole some = absurd (omega (arith, some))
field-missing line (suc k) whole some = rw (cut-whole [] line whole) refl
