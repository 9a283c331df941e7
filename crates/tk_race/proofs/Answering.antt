-- The reply to one action is right for every history that is still possible.
use Rattle.std.proofs.Common.{◌≡◌, ℕ, ◌+◌, ◌-◌, ◌≤◌, true, Bool, List, [], ◌∷◌, ◌++◌, length, take, refl, sym, ap, ◌∙◌, subst, arith, append_assoc, length-append}
use Rattle.std.specs.Prelude.{Some, None, slice_get, nat_lt, if◌then◌else◌}
use Rattle.std.proofs.lemmas.Bool.{lt-ltb}
use Rattle.std.proofs.lemmas.List.{take-append-le, take_all}
use mathlib.Core.List.{IsPrefix}
use Rattle.tk_counter.specs.Counter.{mask}
use Rattle.tk_clock.specs.declared.command.Command.{Command}
use Rattle.tk_clock.specs.declared.command.Entry.{Entry}
use Rattle.tk_clock.specs.declared.refusal.Refusal.{Refusal}
use Rattle.tk_clock.specs.Journal.{Opening, Journal, prefix}
use Rattle.tk_page.specs.History.{Begins}
use Rattle.tk_latch.specs.Latch.{Learnt, mark_of}
use Rattle.tk_now.specs.declared.counter.SharedTicker.{SharedTicker}
use Rattle.tk_shared.specs.Callers.{Known, IsAccepted, IsRefused, IsSameCaller, IsRefusalAfter, entry_of}
use Rattle.tk_shared.proofs.Kept.{whole_count}
use Rattle.tk_shared.proofs.Refused.{refused_unfolded}
use Rattle.tk_clock.proofs.Lists.{prefix_self, prefix_trans, prefix_length}
use Rattle.tk_race.specs.declared.action.Action.TheVariants.{Order}
use Rattle.tk_race.specs.declared.action.RaceReply.TheVariants.{Done, Refused}
use Rattle.tk_race.specs.Actor.{IsAnswer}

pub begins_length : (a b : Journal) → Begins a b → length a.entries ≤ length b.entries
begins_length a b p = prefix_length a.entries b.entries p.1

-- a journal that begins another consists of the other's first entries
pub begins_prefix : (before history : Journal) → Begins before history →
    before ≡ prefix (length before.entries) history
begins_prefix before history begins =
    let n = length before.entries in
    let entries : before.entries ≡ take n history.entries =
    sym (take_all n before.entries (omega arith))
    ∙ sym (take-append-le n before.entries begins.1.0 (omega arith))
    ∙ ap (take n) begins.1.1 in
    λ i. record { opening = sym begins.0 i; entries = entries i }

get_at : (before rest : List Entry) (entry : Entry) →
    slice_get (before ++ entry ∷ rest) (length before) ≡ Some entry
get_at [] rest entry = refl
get_at (first ∷ before) rest entry = get_at before rest entry

-- the entry after `before` has the next number
numbered : (count number : ℕ) (entries before rest : List Entry) (entry : Entry) → count ≡ 0 →
    number ≡ length before + 1 → before ++ entry ∷ rest ≡ entries →
    (if nat_lt count number then slice_get entries (number - count - 1) else None) ≡ Some entry
numbered count number entries before rest entry none next is =
    let later : nat_lt count number ≡ true = lt-ltb count number (omega (arith, none, next)) in
    let place : number - count - 1 ≡ length before = omega (arith, none, next) in
    ap (λ (b : Bool). if b then slice_get entries (number - count - 1) else None) later
    ∙ ap (slice_get entries) place
    ∙ ap (λ (l : List Entry). slice_get l (length before)) (sym is)
    ∙ get_at before rest entry

-- the reply to an order that was accepted is right
pub done : (ticker : SharedTicker) (old new : Known) (cmd : Command) (number : ℕ) →
    IsAccepted old new cmd number → IsSameCaller old new →
    IsAnswer ticker old new (Order cmd) (Done number)
done ticker old new cmd number stated same =
    let before = stated.before.entries in
    let entry = entry_of old stated.reading cmd in
    let last = ap (λ (j : Journal). j.entries) stated.last in
    let count = stated.number in
    let newer = stated.newer in
    let beyond = stated.beyond in
    let mark = stated.mark in
    let longer = ap length last ∙ length-append before (entry ∷ []) in
    record {
      later = record {
        id = same.0;
        seen = (
          same.1,
          prefix_trans old.seen.entries before new.seen.entries stated.extends.1
              (entry ∷ [], sym last),
        );
        learnt = stated.known.learnt;
        counted = stated.counted;
        looked = λ none. (let still = same.2 in omega (arith, still));
      };
      right = λ history is front least known.
          (let low = known.0 in
          let high = known.1 in
          let rest = is.begins.1.0 in
          let all : before ++ entry ∷ rest ≡ history.entries =
          sym (append_assoc before (entry ∷ []) rest)
          ∙ ap (λ (l : List Entry). l ++ rest) (sym last) ∙ is.begins.1.1 in (
            (
              omega (arith, low, newer),
              omega (arith, high, beyond),
              (
                stated.reading,
                numbered history.opening.count number history.entries before rest entry
                    (whole_count history is.whole) (omega (arith, count, longer)) all,
              ),
            ),
            (omega (arith, count), omega (arith, mark)),
          ));
    }

-- the reply to an order that was refused is right
pub refused : (ticker : SharedTicker) (old new : Known) (cmd : Command) (refusal : Refusal) →
    IsRefused old new cmd refusal → IsSameCaller old new →
    IsAnswer ticker old new (Order cmd) (Refused refusal)
refused ticker old new cmd refusal stated same =
    let more = begins_length old.seen new.seen stated.extends in
    let counted = stated.counted in
    record {
      later = record {
        id = same.0;
        seen = stated.extends;
        learnt = subst (λ (l : Learnt). IsPrefix old.learnt.publications l.publications)
            (sym stated.learnt) (prefix_self old.learnt.publications);
        counted = omega (arith, counted);
        looked = λ none. (let still = same.2 in omega (arith, still));
      };
      right = λ history is front mark known.
          (let low = known.0 in
          let high = known.1 in
          let learnt = ap (λ (l : Learnt). mark_of l.publications) stated.learnt in (
            record {
              front = length new.seen.entries;
              reading = stated.reading;
              least = omega (arith, low, more);
              within = begins_length new.seen history is.begins;
              masked = subst (λ (o : Opening). stated.reading ≤ mask o.counter) (sym is.begins.0)
                  stated.masked;
              reason = subst
                  (λ (j : Journal). IsRefusalAfter 0 j (entry_of old stated.reading cmd) refusal)
                  (begins_prefix new.seen history is.begins)
                  (refused_unfolded new.folded new.seen (entry_of old stated.reading cmd) refusal
                  stated.reason);
            },
            (omega (arith, low, more), omega (arith, high, learnt)),
          ));
    }
