use Rattle.std.proofs.Common.{◌≡◌, ℕ}
use Rattle.tk_uses.proofs.Stopped.{is_trusted_throughout}
use Rattle.tk_uses.proofs.steered.never_falls.Goals as goal

pub steered-requires-clause-trusted : goal.steered-requires-clause-trusted
steered-requires-clause-trusted g c κs within =
    let n : ℕ = 1000000 in
    is_trusted_throughout n (λ _ _ a. a ≡ n) (λ _ _ a. a ≡ n) (tt {0})
    c.in_ok-prepared.prepared.journal.opening (λ _ _ _ is. is) (λ _ _ is. is)
    c.in_ok-prepared.ensures.opened
