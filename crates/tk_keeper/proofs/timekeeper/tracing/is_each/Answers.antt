use Rattle.std.proofs.Common.{ℕ, Bool, not, w64, sym, ◌∙◌, arith}
use Rattle.std.proofs.lemmas.Bool.{eqb-true, not-false}
use Rattle.std.proofs.lemmas.Simd.{length-chunk, bitmask_splat, none_from_empty_mask}
use Rattle.std.specs.Prelude.{nat_eq}
use Rattle.std.specs.Simd.Lanes.{chunk}
use Rattle.tk_keeper.proofs.timekeeper.tracing.is_each.Goals as goal

abbrev differs : ℕ → ℕ → Bool
differs a b = not (nat_eq a b)

pub returns : goal.returns
returns c none k low high =
    let fronts = c.args.fronts.now in
    let front = c.args.front in
    let at = c.args.at in
    let long = length-chunk at 8 fronts c.requires in
    let mask = bitmask_splat w64 differs (chunk at 8 fronts) 8 front long (omega arith) in
    eqb-true _ _ (not-false _ (none_from_empty_mask (λ x. differs x front) fronts at 8 0 c.requires
    (sym mask ∙ eqb-true _ _ none) k low high))
