use Rattle.std.proofs.Common.{◌≡◌, ◌++◌, ◌+◌, ◌≤◌, ◌^◌, List, ℕ, length, Ok}
use Rattle.std.specs.Prelude.{IsSome}
use Rattle.tk_script.specs.Field.{◌>>=◌}
use Rattle.tk_script.specs.Records.{each}
use Rattle.tk_script.specs.Stamps.{items, items_of, stamp_of}
use Rattle.tk_script.specs.Cursor.{IsCursor, left_in, remaining}
use Rattle.tk_script.proofs.stamps.read_stamps.Given as goal

-- the items so far are the items of some pairs, and the remaining records give the others
abbrev pub invariant-items : goal.invariant-items
invariant-items l = record {
  reading : IsCursor l.records;
  left : IsSome (left_in l.records);
  few : l.row + length (remaining l.records) ≤ 2 ^ 32;
  paired : length l.stamps.fronts.items ≡ length l.stamps.stamps.items;
  so_far : (pairs : List (ℕ × ℕ)) × (items_of pairs ≡ items l.stamps)
      × (each stamp_of 1 (remaining l.fn.records)
      ≡ (each stamp_of l.row (remaining l.records) >>= λ more. Ok (pairs ++ more)));
}

abbrev pub decreases-items : goal.decreases-items
decreases-items l = length (remaining l.records)
