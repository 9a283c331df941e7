-- The knowledge that a command gives its caller.
use Rattle.std.proofs.Common.{◌≡◌, ℕ, ◌+◌, ◌%◌, ◌^◌, ◌≤◌, [], ◌∷◌, length, refl, ◌∙◌, ap, arith, bit_and, subst, sym}
use Rattle.std.specs.Prelude.{None}
use Rattle.std.proofs.lemmas.List.{length_push}
use Rattle.std.proofs.lemmas.Nat.{and_le_r, and_mask}
use mathlib.Core.List.{IsPrefix}
use Rattle.atomic_table.specs.Seated.{TableId}
use Rattle.tk_clock.specs.declared.command.Command.{Command}
use Rattle.tk_clock.specs.declared.refusal.Refusal.{Refusal}
use Rattle.tk_clock.specs.Journal.{followed_by, accepted_count}
use Rattle.tk_clock.specs.Refusal.{first_refusal, IsRefusal}
use Rattle.tk_clock.specs.Snapshot.{snapshot_of}
use Rattle.tk_clock.proofs.Monotone.{agrees, never_falls}
use Rattle.tk_page.specs.History.{Begins}
use Rattle.tk_latch.specs.Latch.{LatchId, told_reader}
use Rattle.tk_shared.specs.Callers.{Known, IsAccepted, IsRefused, IsRefusalAfter, entry_of}
use Rattle.tk_now.specs.Moments.{IsTold}
use Rattle.tk_now.specs.Views.{Announcing, Noticed}
use Rattle.tk_shared.specs.Locked.{Held, IsAtRest, IsHeld}
use Rattle.tk_shared.proofs.Held.{with_entry, held_accepted}
use Rattle.tk_shared.proofs.Informed.{informed_by}
use Rattle.tk_shared.proofs.Kept.{kept_count, kept_monotonic}
use Rattle.tk_clock.proofs.Lists.{prefix_trans, prefix_length}
use Rattle.tk_shared.proofs.Refused.{refused_after}

module _ (page : TableId) (latch : LatchId) (held : Held) (is : IsHeld page latch held) (old : Known)
    (answer : ℕ) (cmd : Command) (begins : Begins old.seen held.shown.journal)
    (more : old.folded ≤ held.kept.opening.count) where
  abbrev pub reading : ℕ
  reading = bit_and answer held.mask

  -- the reading is the answer's low bits
  pub low_bits : reading ≡ answer % 2 ^ held.shown.journal.opening.counter.bits
  low_bits = ap (bit_and answer) is.masked ∙ and_mask answer held.shown.journal.opening.counter.bits

  -- the reason of the refusal follows from the history
  pub reason : (refusal : Refusal) → IsRefusal held.kept (entry_of old reading cmd) refusal →
      IsRefusalAfter held.kept.opening.count held.shown.journal (entry_of old reading cmd) refusal
  reason refusal is_refusal =
      refused_after held.shown.journal held.kept (entry_of old reading cmd) refusal is.whole is.kept
      is_refusal

  -- the caller has seen the history, after which its command was refused
  pub refused : (refusal : Refusal) → IsRefusal held.kept (entry_of old reading cmd) refusal →
      IsRefused old (record old { seen = held.shown.journal; folded = held.kept.opening.count }) cmd refusal
  refused refusal is_refusal = record {
    reading = reading;
    masked = let most = is.masked in let low = and_le_r answer held.mask in omega (arith, most, low);
    extends = begins;
    whole = is.whole;
    folds = record { more = more; within = is.kept.within };
    reason = reason refusal is_refusal;
    counted = refl;
    learnt = refl;
    noticed = refl;
  }

  -- the knowledge of the caller if its command was accepted
  abbrev pub caller_after : Noticed → Known
  caller_after noticed =
      let now = with_entry held (entry_of old reading cmd) in
      record {
        id = old.id;
        accepted = old.accepted + 1;
        reads = old.reads;
        seen = now.shown.journal;
        learnt = told_reader now.latched;
        noticed = noticed;
        folded = held.kept.opening.count;
      }

  pub accepted : (number : ℕ) → IsPrefix old.learnt.publications held.latched.publications →
      first_refusal held.kept (entry_of old reading cmd) ≡ None →
      number ≡ accepted_count (followed_by held.kept (entry_of old reading cmd)) →
      (notice : TableId) (notice_writer : Announcing) (noticed : Noticed) →
      IsAtRest notice (followed_by held.shown.journal (entry_of old reading cmd)) notice_writer →
      IsTold notice_writer old.noticed noticed → IsAccepted old (caller_after noticed) cmd number
  accepted number learnt none counted notice notice_writer noticed rest known =
      let history = held.shown.journal in
      let entry = entry_of old reading cmd in
      let now = held_accepted page latch held entry is none in
      let longer = length_push history.entries entry in
      let count = kept_count (followed_by history entry) (followed_by held.kept entry) now.whole
      now.kept in
      let many : number ≡ length (followed_by history entry).entries = counted ∙ count in
      let shorter = prefix_length old.seen.entries history.entries begins.1 in
      let fewer = prefix_length old.learnt.publications held.latched.publications learnt in
      let latest = is.latest in
      let next = snapshot_of (followed_by history entry) in
      record {
        before = history;
        reading = reading;
        extends = begins;
        last = refl;
        counted = refl;
        agrees = sym (kept_monotonic history held.kept is.whole is.kept reading)
            ∙ agrees held.kept entry none
            ∙ kept_monotonic (followed_by history entry) (followed_by held.kept entry) now.whole
            now.kept reading;
        rises = never_falls (followed_by history entry);
        number = many;
        newer = omega (arith, many, longer, shorter);
        beyond = omega (arith, many, longer, fewer, latest);
        mark = let all = length_push held.latched.publications next in
            omega (arith, all, latest, many, longer);
        informed = informed_by page latch (with_entry held entry) now notice notice_writer rest
            old.noticed noticed known (caller_after noticed);
        known = record {
          seen = (begins.0, prefix_trans _ _ _ begins.1 (entry ∷ [], refl));
          learnt = prefix_trans _ _ _ learnt (next ∷ [], refl);
          commands = subst (IsPrefix old.noticed.commands) (sym known.commands) known.begins;
          log = known.log;
          folded = more;
        };
        folds = record {
          more = more;
          within = let low = is.kept.within in omega (arith, low, longer);
        };
      }
