-- The number of folded entries, by the list of folds.
use Rattle.std.proofs.Common.{◌≡◌, ℕ, ◌+◌, ◌≤◌, List, [], ◌∷◌, ◌++◌, ◌∙◌, ap, arith}
use Rattle.std.proofs.lemmas.List.Sums.{sum_by-append}
use mathlib.Core.List.{IsPrefix}
use Rattle.tk_now.specs.declared.rule.Taken.{Taken}
use Rattle.tk_shared.specs.Folds.{Counting, IsCounting, folded_in}
use Rattle.atomic_table.specs.Seated.{TableId}

-- one more fold
pub folded_push : (folds : List Taken) (fold : Taken) →
    folded_in (folds ++ fold ∷ []) ≡ folded_in folds + fold.reading
folded_push folds fold =
    let parts = sum_by-append (λ (t : Taken). t.reading) folds (fold ∷ []) in
    omega (arith, parts)

-- the first folds folded no more entries than all
pub folded_first : (some all : List Taken) → IsPrefix some all → folded_in some ≤ folded_in all
folded_first some all p =
    let parts = sum_by-append (λ (t : Taken). t.reading) some p.0 in
    let whole = ap folded_in p.1 in
    omega (arith, parts, whole)

-- the list is the same, and as many entries are folded
pub counts_on : (notice : TableId) (counting now : Counting) (folded folded' : ℕ) →
    IsCounting notice folded counting → now ≡ counting → folded ≡ folded' →
    IsCounting notice folded' now
counts_on notice counting now folded folded' is same as_many =
    (ap (λ (c : Counting). c.notice) same ∙ is.0, ap (λ (c : Counting). c.folded) same ∙ is.1 ∙ as_many)
