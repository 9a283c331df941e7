-- The values under the lock after every call.
use Rattle.std.proofs.Common.{◌≡◌, ℕ, ◌+◌, ◌-◌, ◌≤◌, [], ◌∷◌, ◌++◌, length, arith}
use Rattle.std.specs.Prelude.{None, max}
use Rattle.std.proofs.lemmas.Bool.Decides.{nat_tests}
use Rattle.std.proofs.lemmas.List.{length_push}
use Rattle.atomic_table.specs.Seated.{TableId}
use Rattle.tk_clock.specs.declared.command.Entry.{Entry}
use Rattle.tk_clock.specs.Folding.{folded_by}
use Rattle.tk_clock.specs.Journal.{followed_by}
use Rattle.tk_clock.specs.Refusal.{first_refusal}
use Rattle.tk_clock.specs.Snapshot.{snapshot_of}
use Rattle.tk_clock.proofs.Legal.{IsWhole-followed_by}
use Rattle.tk_latch.specs.Latch.{LatchId}
use Rattle.tk_shared.specs.Locked.{Held, IsHeld}
use Rattle.tk_shared.proofs.Kept.{kept_followed_by, kept_folded}
use Rattle.tk_shared.proofs.Refused.{accepted_after}
use Rattle.tk_shared.proofs.Snapshots.{snapshots_followed_by}

-- one entry more everywhere
abbrev pub with_entry : Held → Entry → Held
with_entry held entry =
    let longer = followed_by held.shown.journal entry in
    record held {
      kept = followed_by held.kept entry;
      shown = record held.shown { journal = longer };
      latched = record held.latched {
        publications = held.latched.publications ++ snapshot_of longer ∷ [];
      };
      total = held.total + 1;
    }

pub held_accepted : (page : TableId) (latch : LatchId) (held : Held) (entry : Entry) →
    IsHeld page latch held → first_refusal held.kept entry ≡ None →
    IsHeld page latch (with_entry held entry)
held_accepted page latch held entry is stated =
    let history = held.shown.journal in
    let accepted = accepted_after history held.kept entry is.whole is.kept stated in
    let longer = length_push history.entries entry in
    record {
      page = is.page;
      latch = is.latch;
      counter = is.counter;
      whole = IsWhole-followed_by history entry is.whole accepted;
      kept = kept_followed_by history held.kept entry is.kept;
      snapshots = snapshots_followed_by history held.latched.publications entry is.snapshots
          is.latest;
      latest = let before = is.latest in
          let more = length_push held.latched.publications (snapshot_of (followed_by history entry))
          in omega (arith, before, more, longer);
      masked = is.masked;
      counted = let before = is.counted in omega (arith, before, longer);
    }

-- the keeper's first entries folded
pub held_folded : (page : TableId) (latch : LatchId) (held : Held) (more : ℕ) →
    IsHeld page latch held → more ≤ length held.kept.entries →
    IsHeld page latch (record held { kept = folded_by more held.kept })
held_folded page latch held more is few =
    record {
      page = is.page;
      latch = is.latch;
      counter = is.counter;
      whole = is.whole;
      kept = kept_folded held.shown.journal held.kept more is.whole is.kept few;
      snapshots = is.snapshots;
      latest = is.latest;
      masked = is.masked;
      counted = is.counted;
    }

-- no more entries are folded than are listed
pub folds_few : (folded listed keep result : ℕ) → result ≡ max folded (folded + listed - keep) →
    result - folded ≤ listed
folds_few folded listed keep result stated = grind (arith, nat_tests)

pub folds_more : (folded listed keep result : ℕ) → result ≡ max folded (folded + listed - keep) →
    folded ≤ result
folds_more folded listed keep result stated = grind (arith, nat_tests)

pub folds_within : (folded listed keep result : ℕ) →
    result ≡ max folded (folded + listed - keep) → result ≤ folded + listed
folds_within folded listed keep result stated = grind (arith, nat_tests)
