-- The effect of a load of one word on the pass of the thread that holds the words.
use Rattle.std.specs.Prelude.{◌≡◌, ◌≢◌, ℕ, ◌+◌, List, slice_index}
use Rattle.atomic_table.specs.Table.{Me, Step}
use Rattle.crossbeam_utils.specs.Seq.{IsSameView}
use Rattle.crossbeam_utils.specs.declared.atomic.seq_cell.Doing.{Doing}
use Rattle.crossbeam_utils.specs.declared.atomic.seq_cell.Stage.{Stage}
use Rattle.crossbeam_utils.specs.declared.atomic.seq_cell.Stage.TheVariants.{Writing}

-- the word that is to be stored next
abbrev pub wanted : Stage (List ℕ) → ℕ
wanted (Writing at old new done) = slice_index new done
wanted _ = 0

-- the same with one more word stored
abbrev pub one_more : Stage (List ℕ) → Stage (List ℕ)
one_more (Writing at old new done) = Writing at old new (done + 1)
one_more stage = stage

-- a word that already has its new value counts as stored
abbrev pub compared : {V : Type 0} → Step (List ℕ) → Me (List ℕ) (Doing (List ℕ) V) → ℕ
    → Me (List ℕ) (Doing (List ℕ) V) → Type 0
compared st m r m' = IsSameView m m'
    × (r ≡ wanted m.0.stage → m'.0.stage ≡ one_more m.0.stage)
    × (r ≢ wanted m.0.stage → m'.0.stage ≡ m.0.stage)
