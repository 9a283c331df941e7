use Rattle.std.proofs.Common.{◌≡◌, ℕ, ◌+◌, ◌*◌, ◌<◌, ◌≤◌, length, get_or, refl, sym, subst, arith, rules}
use Rattle.tk_pieces.specs.Pieces.{ArePieces, refused_mark}
use Rattle.tk_pieces.proofs.Parts.{IsDone, pieces_done, begun, after_begun}
use Rattle.tk_pieces.proofs.pieces.trace_in_pieces.Given.{Over}
use Rattle.tk_pieces.proofs.pieces.trace_in_pieces.Goals.{Else-out-at-ge-REFUSED}
use Rattle.tk_pieces.proofs.pieces.trace_in_pieces.Goals as goal

pub pieces-init : goal.pieces-init
pieces-init g c =
    let journal = c.args.input.keeper.now.journal in
    let fronts = c.args.input.fronts.now in
    let stamps = c.args.input.stamps.now in
    let first = c.args.first in
    let out = c.args.out.now in
    let xs = c.split_at_mut-rest.result.0.now in
    let ys = c.convert_pieces.new.out in
    let long : length xs ≡ first = search rules in
    record {
      counted = refl;
      pieces = subst (ArePieces c.args.size first journal c.args.input.clock fronts stamps)
          (sym (after_begun first xs ys long)) c.convert_pieces.ensures;
      begins = (0, omega arith);
      done = λ k inside early.
          begun journal c.args.input.clock fronts stamps first out xs ys long
          c.split_at_mut-rest.ensures.front k early (c.requires.so_far k early);
    }

-- the items of a piece that isn't marked are converted, like the items before it
piece_done : (g : Over) (c : Else-out-at-ge-REFUSED g) → (k : ℕ) →
    k < length c.pieces.out → k < c.pieces.at + c.args.size →
    IsDone c.args.input.keeper.now.journal c.args.input.clock c.args.input.fronts.now
    c.args.input.stamps.now c.pieces.out k
piece_done g c =
    let out = c.pieces.out in
    let at = c.pieces.at in
    let kept = c.pieces.invariant in
    let unmarked : get_or out at 0 < refused_mark = search rules in
    let low : at < length out = search rules in
    pieces_done c.args.input.keeper.now.journal c.args.input.clock c.args.input.fronts.now
    c.args.input.stamps.now c.args.size c.args.first kept.begins.0 at out kept.begins.1
    c.requires.filled kept.pieces low unmarked
    (λ k inside early. kept.done k (subst (λ l. k < l) (sym kept.counted) inside) early)

pub returns-then-count-at : goal.returns-then-count-at
returns-then-count-at g c =
    let long : length c.args.out.now ≡ length c.pieces.out = search rules in
    let last : length c.pieces.out ≤ c.pieces.at + c.args.size = search (rules, arith) in
    let done = piece_done g (goal.at.returns-then-count-at g c).Else-out-at-ge-REFUSED in
    λ k inside. done k (subst (λ l. k < l) long inside) (omega arith)

pub pieces-preserved : goal.pieces-preserved
pieces-preserved g c =
    let size = c.args.size in
    let first = c.args.first in
    let begins = c.pieces.invariant.begins in
    let next : (at n : ℕ) → at ≡ first + n * size → at + size ≡ first + (n + 1) * size =
    λ at n e. let more : (n + 1) * size ≡ n * size + size = search arith in omega (arith, e, more) in
    let done = piece_done g (goal.at.pieces-preserved g c).Else-out-at-ge-REFUSED in
    record {
      counted = c.pieces.invariant.counted;
      pieces = c.pieces.invariant.pieces;
      begins = (begins.0 + 1, next c.pieces.at begins.0 begins.1);
      done = λ k inside early. done k (subst (λ l. k < l) c.pieces.invariant.counted inside) early;
    }
