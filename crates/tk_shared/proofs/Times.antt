-- A reading that belongs to a snapshot, by the latch or by the page.
use Rattle.std.proofs.Common.{◌≡◌, ℕ, ◌%◌, ◌^◌, length, sym, ap, ◌∙◌, subst, bit_and}
use Rattle.std.specs.Prelude.{Result}
use mathlib.Core.List.{IsPrefix}
use Rattle.tk_clock.specs.declared.clock_id.ClockId.{ClockId}
use Rattle.tk_clock.specs.declared.refusal.ReadError.{ReadError}
use Rattle.tk_clock.specs.declared.timespec.Timespec.{Timespec}
use Rattle.tk_clock.specs.Journal.{Journal}
use Rattle.tk_clock.specs.State.{ReadBase}
use Rattle.std.proofs.lemmas.Nat.{and_mask}
use Rattle.tk_counter.specs.Counter.{mask}
use Rattle.tk_clock.specs.Snapshot.{Snapshot, snapshot_of}
use Rattle.tk_latch.specs.Latch.{Learnt, IsRead}
use Rattle.tk_now.specs.Moments.{AreInLife, AreInOrder, IsTimed}
use Rattle.tk_now.specs.Views.{Noticed}
use Rattle.tk_shared.specs.Now.{IsTaken, IsResultAt, IsSeenBy}

pub taken_by : {S : Type 0} (answers : S → ℕ → ℕ → Type 0) (counter : S) (learnt learnt' : Learnt)
    (noticed noticed' : Noticed) (snapshot : Snapshot) (place answer bound : ℕ) →
    IsRead learnt learnt' snapshot → IsTimed answers counter noticed noticed' place answer →
    place ≡ snapshot.front → bound ≡ mask snapshot.base.counter →
    AreInOrder noticed'.commands × AreInLife noticed'.commands noticed'.log →
    IsTaken answers counter learnt learnt' noticed noticed' snapshot (bit_and answer bound)
taken_by answers counter learnt learnt' noticed noticed' snapshot place answer bound read timed here most life =
    record {
      read = read;
      answer = answer;
      timed = subst (λ (n : ℕ). IsTimed answers counter noticed noticed' n answer) here timed;
      masked = ap (bit_and answer) most ∙ and_mask answer snapshot.base.counter.bits;
      order = life.0;
      life = life.1;
    }

-- a result by the page
pub seen_by : {S : Type 0} (answers : S → ℕ → ℕ → Type 0) (counter : S) (clock : ClockId)
    (history : Journal) (old before new : Noticed) (snapshot : Snapshot)
    (place front answer bound : ℕ) (result : Result Timespec ReadError) →
    IsPrefix old.commands before.commands → IsPrefix old.log before.log →
    IsTimed answers counter before new place answer → front ≡ place →
    front ≡ length history.entries → snapshot ≡ snapshot_of history →
    bound ≡ mask snapshot.base.counter →
    AreInOrder new.commands × AreInLife new.commands new.log →
    IsResultAt snapshot.base clock (bit_and answer bound) result →
    IsSeenBy answers counter clock history old new result
seen_by answers counter clock history old before new snapshot place front answer bound result commands log
    timed same here is most life read =
    let base = ap (λ (s : Snapshot). s.base) is in
    let bits = history.opening.counter.bits in
    let masked : bit_and answer bound ≡ answer % 2 ^ bits =
    ap (bit_and answer) (most ∙ ap (λ (b : ReadBase). mask b.counter) base) ∙ and_mask answer bits in
    record {
      before = before;
      commands = commands;
      log = log;
      answer = answer;
      timed = subst (λ (n : ℕ). IsTimed answers counter before new n answer) (sym same ∙ here) timed;
      read = subst (λ (t : ReadBase × ℕ). IsResultAt t.0 clock t.1 result)
          (λ i. (base i, masked i)) read;
      order = life.0;
      life = life.1;
    }
