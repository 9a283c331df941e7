-- Why a shared keeper refuses a command.
use Rattle.std.proofs.Common.{◌≡◌, ◌⊎◌, ℕ, ◌+◌, ◌≤◌, length, sym, ◌∙◌, arith, true, inl, inr}
use Rattle.std.specs.Prelude.{◌||◌, nat_le, Some, None}
use Rattle.std.proofs.lemmas.Bool.{cases_lt}
use Rattle.std.proofs.lemmas.Bool.Decides.{nat_tests}
use Rattle.tk_clock.specs.declared.command.Entry.{Entry}
use Rattle.tk_clock.specs.declared.refusal.Refusal.{Refusal}
use Rattle.tk_clock.specs.declared.refusal.Refusal.TheVariants.{Full, Asleep, Awake, Invalid, Behind, Range, Memory}
use Rattle.tk_clock.specs.Journal.{Journal, accepted_count}
use Rattle.tk_clock.specs.Legal.{IsWhole}
use Rattle.tk_clock.specs.Limits.{listed_most, counted_most}
use Rattle.tk_clock.specs.Refusal.{clock_refusal, first_refusal, IsRefusal}
use Rattle.tk_shared.specs.Callers.{IsFullAfter, IsRefusalAfter}
use Rattle.tk_shared.specs.History.{IsKeptOf}
use Rattle.tk_clock.proofs.Refusals.{clock_refusal-stated, is_full-refused, passes_clock}
use Rattle.tk_shared.proofs.Kept.{kept_count, kept_refusal}

-- a journal is full that lists few entries: it counts too many
counts_most : (listed counted : ℕ) → listed + 1 ≤ listed_most →
    nat_le listed_most listed || nat_le counted_most counted ≡ true → counted_most ≤ counted
counts_most listed counted few full = grind (arith, nat_tests)

-- a full journal lists or counts the most entries that it may, without the folded ones
full_long : (folded listed counted all : ℕ) → folded + listed ≡ all → counted ≡ all →
    nat_le listed_most listed || nat_le counted_most counted ≡ true →
    (listed_most + folded ≤ all) ⊎ (counted_most ≤ all)
full_long folded listed counted all parts same full = elim (cases_lt listed listed_most) [
  | inl few ↦
      let many = counts_most listed counted (omega (arith, few)) full in
      inr (omega (arith, many, same))
  | inr many ↦ inl (omega (arith, many, parts))
]

pub refused_after : (history kept : Journal) (entry : Entry) (refusal : Refusal) →
    IsWhole history → IsKeptOf history kept → IsRefusal kept entry refusal →
    IsRefusalAfter kept.opening.count history entry refusal
refused_after history kept entry refusal whole is stated = go refusal stated
  where
    same : clock_refusal kept entry ≡ clock_refusal history entry
    same = kept_refusal history kept whole is entry

    other : (r : Refusal) → (r ≡ Full → ⊥) → first_refusal kept entry ≡ Some r →
        clock_refusal history entry ≡ Some r
    other r apart h =
        sym same ∙ clock_refusal-stated kept entry (Some r) (λ e. absurd (apart (cc e))) h

    long : first_refusal kept entry ≡ Some Full → IsFullAfter kept.opening.count history
    long h =
        let count = kept_count history kept whole is in
        full_long kept.opening.count (length kept.entries) (accepted_count kept)
        (length history.entries) (omega (arith, count)) count
        (is_full-refused kept entry h)

    go : (r : Refusal) → IsRefusal kept entry r →
        IsRefusalAfter kept.opening.count history entry r
    go Full h = long h
    go Asleep h = other Asleep (λ e. absurd (cc e)) h
    go Awake h = other Awake (λ e. absurd (cc e)) h
    go Invalid h = other Invalid (λ e. absurd (cc e)) h
    go Behind h = other Behind (λ e. absurd (cc e)) h
    go Range h = other Range (λ e. absurd (cc e)) h
    go Memory h = sym same ∙ passes_clock kept entry h

-- an accepted entry passes the clock's tests after the history
pub accepted_after : (history kept : Journal) (entry : Entry) →
    IsWhole history → IsKeptOf history kept → first_refusal kept entry ≡ None →
    clock_refusal history entry ≡ None
accepted_after history kept entry whole is stated =
    sym (kept_refusal history kept whole is entry)
    ∙ passes_clock kept entry stated

-- a refusal when entries are folded is one when none is
pub refused_unfolded : (folded : ℕ) (history : Journal) (entry : Entry) (refusal : Refusal) →
    IsRefusalAfter folded history entry refusal → IsRefusalAfter 0 history entry refusal
refused_unfolded folded history entry Full (inl many) = inl (omega (arith, many))
refused_unfolded folded history entry Full (inr most) = inr most
refused_unfolded folded history entry Asleep is = is
refused_unfolded folded history entry Awake is = is
refused_unfolded folded history entry Invalid is = is
refused_unfolded folded history entry Behind is = is
refused_unfolded folded history entry Range is = is
refused_unfolded folded history entry Memory is = is
