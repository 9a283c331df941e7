-- Journals that begin one another.
use Rattle.std.proofs.Common.{◌≡◌, ◌≤◌, ℕ, ◌+◌, ◌*◌, arith, List, [], ◌∷◌, ◌++◌, length, Bool, true, false, refl, ap, sym, ◌∙◌, append_assoc, subst}
use Rattle.std.proofs.lemmas.Bool.{le-ltb}
use Rattle.std.specs.Prelude.{nat_lt, if◌then◌else◌, ℤ, pos, ◌+ℤ◌}
use Rattle.std.proofs.lemmas.Int.{ints}
use mathlib.Core.List.{IsPrefix}
use Rattle.tk_counter.specs.Counter.{Counter, multiplier}
use Rattle.tk_clock.specs.declared.command.Entry.{Entry}
use Rattle.tk_clock.specs.declared.timespec.Timespec.{Timespec}
use Rattle.tk_clock.specs.Journal.{Journal, opened, followed_by}
use Rattle.tk_clock.specs.Snapshot.{snapshot_of}
use Rattle.tk_clock.specs.Time.{nanoseconds}
use Rattle.tk_clock.proofs.Lists.{prefix_self, prefix_trans}
use Rattle.tk_page.specs.History.{Begins, IsOpening, opened_by, longer}

module _ {X : Type 0} where
  prefix-more : (xs ys more : List X) → IsPrefix xs ys → IsPrefix xs (ys ++ more)
  prefix-more xs ys more begins =
      (begins.0 ++ more, sym (append_assoc xs begins.0 more) ∙ ap (λ l. l ++ more) begins.1)

-- a journal begins itself
pub begins-self : (journal : Journal) → Begins journal journal
begins-self journal = (refl, prefix_self journal.entries)

-- a journal begins all that a later one begins
pub begins-trans : (one two three : Journal) → Begins one two → Begins two three → Begins one three
begins-trans one two three p q =
    (q.0 ∙ p.0, prefix_trans one.entries two.entries three.entries p.1 q.1)

-- a journal that begins another one also begins it with one more entry
pub begins-followed_by : (before journal : Journal) (entry : Entry) → Begins before journal →
    Begins before (followed_by journal entry)
begins-followed_by before journal entry begins =
    (begins.0, prefix-more before.entries journal.entries (entry ∷ []) begins.1)

-- the longer of two that begin a journal begins it
pub longer-begins : (one other journal : Journal) → Begins one journal → Begins other journal →
    Begins (longer one other) journal
longer-begins one other journal first second =
    (first.0, by (nat_lt (length one.entries) (length other.entries)))
  where
    by : (b : Bool) → IsPrefix (if b then other.entries else one.entries) journal.entries
    by true = second.1
    by false = first.1

-- a journal that another one begins is the longer of the two
pub longer-begun : (one other : Journal) → Begins other one → longer one other ≡ one
longer-begun one other begins =
    ap (λ (b : Bool). record one { entries = if b then other.entries else one.entries })
    (le-ltb (length one.entries) (length other.entries) low)
  where
    within : (xs more : List Entry) → length xs ≤ length (xs ++ more)
    within [] more = omega arith
    within (x ∷ xs) more = let low = within xs more in omega arith

    low : length other.entries ≤ length one.entries
    low = subst (λ (l : List Entry). length other.entries ≤ length l) begins.1.1
        (within other.entries begins.1.0)

-- the snapshot of clocks that were just opened gives their journal
pub opened_by-opened : (counter : Counter) (reading : ℕ) (real : Timespec) →
    opened_by (snapshot_of (opened counter reading real)) ≡ opened counter reading real
opened_by-opened counter reading real =
    let journal = opened counter reading real in
    let with_numbers : ℕ → ℕ → ℤ → Journal = λ amount raw offset.
    record journal {
      opening =
          record journal.opening { amount = amount; raw_amount = raw; real_offset = offset };
    } in
    λ i. with_numbers (nothing (multiplier counter (pos 0) (pos 10000)) i) (nothing counter.mult i)
    (no_more (nanoseconds real) i)
  where
    nothing : (each : ℕ) → 0 + 0 * each ≡ 0
    nothing each = omega arith

    no_more : (x : ℤ) → x +ℤ pos 0 ≡ x
    no_more x = omega (arith, ints)

pub opening-opened : (counter : Counter) (reading : ℕ) (real : Timespec) →
    IsOpening (snapshot_of (opened counter reading real))
opening-opened counter reading real = ap snapshot_of (sym (opened_by-opened counter reading real))
