-- The owner of a discipline asks for MONOTONIC, lets a second begin late, and asks again.
use Rattle.std.proofs.Common.{◌≡◌, ℕ, length, refl, sym, ◌∙◌, subst, Bool, arith}
use Rattle.tk_clock.specs.declared.timespec.Timespec.{Timespec}
use Rattle.tk_clock.proofs.Lists.{prefix_self}
use Rattle.tk_now.specs.declared.rule.Answer.{Answer}
use Rattle.tk_shared.specs.Callers.{IsInformed, IsKnownBy, Known}
use Rattle.tk_shared.specs.NeverBack.{HasSeen, OpenNowNeverFalls, answer_seen}
use Rattle.tk_shared.proofs.Informed.{known_by_trans, knows_as_much}
use Rattle.tk_shared_steered.specs.Late.{HasBegunLate}
use Rattle.tk_shared_steered.specs.Owner.{Owner}
use Rattle.tk_shared_steered.specs.Readings.{AreAtReadings}
use Rattle.tk_shared_steered.proofs.Readings.{further_since, known_since}
use Rattle.tk_shared_steered.proofs.Taken.{begun_following}
use Rattle.tk_uses.specs.InTurn.{HaveAsked, HaveRisen}
use Rattle.tk_uses.specs.Steered.{IsTrustedThroughout}
use Rattle.tk_uses.proofs.InTurn.{in_life, ordered}

-- the caller of an owner's parts, after a fresh discipline let a second begin late: it knows all that
-- it knew, and all commands that it has seen were given at readings of the counter
module _ {C : Type 0} (after : C → ℕ → ℕ → Type 0) (first parted : Known) (opened begun : Owner)
    (is : Bool) (begins : HasBegunLate is opened begun)
    (known : IsKnownBy opened.caller begun.caller) (same : parted ≡ begun.caller) where
  pub begun_known : IsKnownBy first opened.caller → IsKnownBy first parted
  begun_known opens =
      subst (λ (k : Known). IsKnownBy first k) (sym same)
      (known_by_trans first opened.caller begun.caller opens known)

  pub begun_readings : AreAtReadings after opened.caller 0 opened.count →
      AreAtReadings after begun.caller opened.count begun.count →
      AreAtReadings after parted 0 (length parted.seen.entries)
  begun_readings opens late =
      let all = further_since after opened.caller begun.caller 0 opened.count begun.count known opens
      late in
      let following = begun_following is opened begun begins in
      subst (λ (k : Known). AreAtReadings after k 0 (length k.seen.entries)) (sym same)
      (subst (λ (n : ℕ). AreAtReadings after begun.caller 0 n) (sym following) all)

-- the caller before and after its first call, after it owned a fresh discipline, after its second
-- call, and after a fold that showed no further entry
module _ {C S : Type 0} (after : C → ℕ → ℕ → Type 0) (answers : S → ℕ → ℕ → Type 0) (counter : S)
    (caller first begun later last : Known) (count : ℕ) (time time' : Timespec)
    (seen : HasSeen answers counter caller first time) (known_first : IsKnownBy caller first)
    (handed : IsKnownBy first begun)
    (begins : AreAtReadings after begun 0 (length begun.seen.entries))
    (seen' : HasSeen answers counter begun later time') (known_later : IsKnownBy begun later)
    (informed : IsInformed last) (known_last : IsKnownBy later last)
    (front : count ≡ length begun.seen.entries) (all : length last.seen.entries ≡ count) where
  kept : IsKnownBy begun last
  kept = known_by_trans begun later last known_later known_last

  abbrev asked : HaveAsked answers counter last last time time'
  asked = record {
    before = caller;
    after = first;
    before' = begun;
    after' = later;
    seen = seen;
    seen' = seen';
    handed = handed;
    known = known_by_trans first begun last handed kept;
    known' = known_last;
  }

  itself : IsKnownBy last last
  itself = knows_as_much last last refl refl refl (prefix_self last.noticed.log) (omega arith)

  readings : AreAtReadings after last 0 (length last.seen.entries)
  readings =
      subst (λ (n : ℕ). AreAtReadings after last 0 n) (sym (all ∙ front))
      (known_since after begun last 0 (length begun.seen.entries) kept begins)

  pub risen : IsTrustedThroughout after answers counter caller.seen.opening →
      OpenNowNeverFalls answers → HaveRisen answers counter caller.seen.opening time time'
  risen trusted law =
      let one : Answer = answer_seen answers counter caller first time seen in
      let two : Answer = answer_seen answers counter begun later time' seen' in
      let same = kept.seen.0 ∙ handed.seen.0 ∙ known_first.seen.0 in
      record {
        last = last;
        informed = informed;
        opened = same;
        asked = asked;
        rises = ordered answers counter last last last time time' asked informed itself itself
            (trusted last one two informed same readings seen.timed.given seen'.timed.given
            (in_life answers counter last last last time time' asked informed itself itself)) law;
      }
