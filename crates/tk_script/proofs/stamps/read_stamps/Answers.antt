use Rattle.std.proofs.Common.{◌≡◌, ◌+◌, ◌++◌, ◌∷◌, [], ℕ, List, arith, ap, length, refl, sym, subst}
use Rattle.std.specs.Prelude.{Option, IsSome, unwrap_or}
use Rattle.std.proofs.lemmas.Result.{err_from_is_err_and}
use Rattle.tk_script.specs.Cursor.{NextFails, left_in, remaining}
use Rattle.tk_script.specs.Records.{each}
use Rattle.tk_script.specs.Stamps.{items, stamp_of}
use Rattle.tk_script.specs.declared.script_error.ScriptError.{ScriptError}
use Rattle.tk_script.proofs.EachLemmas.{Goes, goes-end, goes-more, goes-start}
use Rattle.tk_script.proofs.StampLemmas.{items-all, items-fails, items-more, left-remaining, paired-more}
use Rattle.tk_script.proofs.stamps.read_stamps.Goals as goal

pub items-init : goal.items-init
items-init c = record {
  reading = c.requires.reading;
  left = c.requires.left;
  few = omega (arith, c.requires.few);
  paired = rw (c.new.ensures.items, c.new-2.ensures.items) refl;
  so_far = (
    [],
    rw (c.new.ensures.items, c.new-2.ensures.items) refl,
    goes-start stamp_of 1 (remaining c.args.records.now),
  );
}

pub items-preserved : goal.items-preserved
items-preserved c =
    let inv = c.items.invariant in
    let left = remaining c.items.records in
    let took = rw c.in-Some.is at
    (c.in_ok-front.ensures.takes left (left-remaining (left_in c.items.records) inv.left)) in
    let rest : remaining c.next_stamp.new.records ≡ took.1 = ap (λ (o : Option (List (List (List ℕ)))). unwrap_or o []) took.3 in
    let fewer : length left ≡ length (took.0 ∷ took.1) = ap length took.2 in
    let pairs = inv.so_far.0 in
    let item : ℕ × ℕ = (c.in-Some.front, c.in-Some.stamp) in
    let goes = goes-more stamp_of (each stamp_of 1 (remaining c.args.records.now)) pairs
    (pairs ++ item ∷ []) c.items.row left took.0 took.1 item inv.so_far.2 took.2 took.4 refl in
    record {
      reading = (rw c.in-Some.is at c.in_ok-front.ensures.reading) refl;
      left = subst (λ (o : Option (List (List (List ℕ)))). IsSome o) (sym took.3) refl;
      few = omega (arith, inv.few, fewer, ap length rest);
      paired = paired-more c.items.stamps.fronts.items c.items.stamps.stamps.items _ _
          c.in-Some.front c.in-Some.stamp inv.paired c.in_ok-push.ensures.fronts
          c.in_ok-push.ensures.stamps;
      so_far = (
        pairs ++ item ∷ [],
        items-more pairs c.items.stamps.fronts.items c.items.stamps.stamps.items _ _ item
            inv.so_far.1 c.in_ok-push.ensures.fronts c.in_ok-push.ensures.stamps,
        subst (Goes stamp_of (each stamp_of 1 (remaining c.args.records.now))
            (pairs ++ item ∷ []) (c.items.row + 1)) (sym rest) goes,
      );
    }

pub items-smaller : goal.items-smaller
items-smaller c =
    let left = remaining c.items.records in
    let took = rw c.in-Some.is at
    (c.in_ok-front.ensures.takes left
    (left-remaining (left_in c.items.records) c.items.invariant.left)) in
    let fewer : length left ≡ length (took.0 ∷ took.1) = ap length took.2 in
    let rest : remaining c.next_stamp.new.records ≡ took.1 =
    ap (λ (o : Option (List (List (List ℕ)))). unwrap_or o []) took.3 in
    omega (arith, fewer, ap length rest)

pub returns-clause-gives : goal.returns-clause-gives
returns-clause-gives c =
    let inv = c.items.invariant in
    let left = remaining c.items.records in
    let none = rw c.in_default.is at
    (c.in_ok-front.ensures.takes left (left-remaining (left_in c.items.records) inv.left)) in
    let whole = goes-end stamp_of (each stamp_of 1 (remaining c.args.records.now)) inv.so_far.0
    c.items.row left inv.so_far.2 none in
    items-all (remaining c.args.records.now) inv.so_far.0 (items c.items.stamps) whole inv.so_far.1

pub returns-in_err-front-clause-gives : goal.returns-in_err-front-clause-gives
returns-in_err-front-clause-gives c =
    let inv = c.items.invariant in
    let left = remaining c.items.records in
    let fails = c.in_err-front.ensures.takes left
    (left-remaining (left_in c.items.records) inv.left) in
    let exit = err_from_is_err_and c.from_residual.result
    c.from_residual.ensures.1 in
    rw exit.1 (items-fails (remaining c.args.records.now) left inv.so_far.0 c.items.row exit.0
    inv.so_far.2
    (subst (λ (fault : ScriptError). NextFails (stamp_of c.items.row) left fault) (sym exit.2) fails))
