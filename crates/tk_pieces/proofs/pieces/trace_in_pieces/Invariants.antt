use Rattle.std.proofs.Common.{◌≡◌, ℕ, ◌+◌, ◌-◌, ◌*◌, ◌<◌, length, drop}
use Rattle.tk_pieces.specs.Input.{of_input}
use Rattle.tk_pieces.specs.Pieces.{ArePieces}
use Rattle.tk_pieces.proofs.Parts.{IsDone}
use Rattle.tk_pieces.proofs.pieces.trace_in_pieces.Given as goal

abbrev pub invariant-pieces : goal.invariant-pieces
invariant-pieces g l = record {
  counted : l.count ≡ length l.out;
  pieces : of_input (ArePieces l.size l.first) l.input (drop l.first l.out);
  begins : (n : ℕ) × (l.at ≡ l.first + n * l.size);
  done : (k : ℕ) → k < l.count → k < l.at →
      IsDone l.input.keeper.now.journal l.input.clock l.input.fronts.now l.input.stamps.now l.out k;
}

abbrev pub decreases-pieces : goal.decreases-pieces
decreases-pieces g l = l.count - l.at
