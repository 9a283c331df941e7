use Rattle.std.proofs.Common.{◌≡◌, ℕ}
use Rattle.tk_uses.proofs.Stopped.{is_trusted}
use Rattle.tk_uses.proofs.in_turn.rises.Goals as goal

pub in_turn-requires-clause-trusted : goal.in_turn-requires-clause-trusted
in_turn-requires-clause-trusted g c κs within =
    let n : ℕ = 1000000 in
    is_trusted n (λ _ _ a. a ≡ n) (λ _ _ a. a ≡ n) (tt {0}) c.in_ok-prepared.prepared.journal.opening
    (λ _ _ _ is. is) (λ _ _ is. is) c.in_ok-prepared.ensures.opened
