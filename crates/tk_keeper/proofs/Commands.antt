-- The result of a command, in terms of the journal before it.
use Rattle.std.proofs.Common.{◌≡◌, ◌∙◌, ℕ, ◌+◌, List, [], ◌∷◌, ◌++◌, length, sym, ap, subst, false}
use Rattle.std.specs.Prelude.{Option, Some, None, Result, Ok, Err, MatchResult, IfOk, IsErrOf}
use Rattle.tk_clock.specs.declared.command.Entry.{Entry}
use Rattle.tk_clock.specs.declared.refusal.Refusal.{Refusal}
use Rattle.tk_clock.specs.declared.refusal.Refusal.TheVariants.{Memory}
use Rattle.tk_clock.specs.Legal.{Beginning}
use Rattle.tk_clock.specs.Journal.{Journal, followed_by, accepted_count}
use Rattle.tk_clock.specs.Monotonic.{monotonic}
use Rattle.tk_clock.specs.Refusal.{is_full, first_refusal, state_refusal, IsRefusal}
use Rattle.tk_clock.specs.State.{State, state_of, effect}
use Rattle.tk_clock.proofs.Monotone.{agrees}
use Rattle.tk_clock.specs.Folding.{journal_from}
use Rattle.tk_clock.proofs.Legal.{first_refusal-state, state_of-followed_by}
use Rattle.tk_clock.proofs.Refusals.{IsRefusal-stated}
use Rattle.tk_keeper.specs.Keeper.{Keeper, IsKept}
use Rattle.tk_keeper.proofs.Room.{IsKept-followed_by}

-- a journal accepted an entry, and became another
abbrev pub IsAccepted : Journal → Journal → Entry → ℕ → Type 0
IsAccepted before after entry number =
    (first_refusal before entry ≡ None) × (after ≡ followed_by before entry)
    × (number ≡ accepted_count after)

-- the answer of a keeper with spare capacity
abbrev pub IsEntered : Keeper → Keeper → Entry → Result ℕ Refusal → Type 0
IsEntered before after entry result =
    MatchResult result (IsAccepted before.journal after.journal entry)
    (λ refusal. (first_refusal before.journal entry ≡ Some refusal) × (after ≡ before))

-- the answer of any keeper
abbrev pub IsApplied : Keeper → Keeper → Entry → Result ℕ Refusal → Type 0
IsApplied before after entry result =
    MatchResult result (IsAccepted before.journal after.journal entry)
    (λ refusal. IsRefusal before.journal entry refusal × (after ≡ before))

-- the clocks' tests never report an allocation failure
pub not_stated : (journal : Journal) (entry : Entry) (refusal : Refusal) → is_full journal ≡ false →
    first_refusal journal entry ≡ Some refusal → refusal ≡ Memory → ⊥
not_stated journal entry refusal room stated e =
    let memory : first_refusal journal entry ≡ Some Memory = stated ∙ ap (λ (r : Refusal). Some r) e
    in
    let none = IsRefusal-stated journal entry Memory room memory in
    cc (none, memory)

pub IsApplied-entered : (before after : Keeper) (entry : Entry) (result : Result ℕ Refusal) →
    is_full before.journal ≡ false → IsEntered before after entry result →
    IsApplied before after entry result
IsApplied-entered before after entry (Ok number) free stated = stated
IsApplied-entered before after entry (Err refusal) free stated =
    (IsRefusal-stated before.journal entry refusal free stated.0, stated.1)

pub not_memory-entered : (before after : Keeper) (entry : Entry) (result : Result ℕ Refusal) →
    is_full before.journal ≡ false → IsEntered before after entry result →
    IsErrOf result Memory → ⊥
not_memory-entered before after entry (Ok number) free stated e = cc
not_memory-entered before after entry (Err refusal) free stated e =
    not_stated before.journal entry refusal free stated.0 cc

-- capacity that is reserved for an accepted command doesn't change its answer
pub IsApplied-grown : (before grown after : Keeper) (entry : Entry) (result : Result ℕ Refusal) →
    grown.journal ≡ before.journal → first_refusal before.journal entry ≡ None →
    IsEntered grown after entry result →
    IsApplied before after entry result
IsApplied-grown before grown after entry (Ok number) same accepted stated =
    (accepted, stated.1 ∙ ap (λ (j : Journal). followed_by j entry) same, stated.2)
IsApplied-grown before grown after entry (Err refusal) same accepted stated =
    let refused : first_refusal before.journal entry ≡ Some refusal =
    ap (λ (j : Journal). first_refusal j entry) (sym same) ∙ stated.0 in
    absurd (cc (sym accepted ∙ refused))

-- MONOTONIC at the command's reading is the same before and after
pub agrees-accepted : (before after : Journal) (entry : Entry) (Refused : Refusal → Type 0)
    (result : Result ℕ Refusal) →
    MatchResult result (IsAccepted before after entry) Refused →
    IfOk result (λ _. monotonic before entry.reading ≡ monotonic after entry.reading)
agrees-accepted before after entry Refused (Ok number) stated =
    agrees before entry stated.0
    ∙ ap (λ (j : Journal). monotonic j entry.reading) (sym stated.1)
agrees-accepted before after entry Refused (Err refusal) stated = tt

-- the clocks after an accepted command are the clocks of the journal with its entry
pub running-accepted : (journal : Journal) (before after : State) (entry : Entry) →
    before ≡ state_of journal →
    (state_refusal before entry.reading entry.cmd ≡ None)
    × (after ≡ effect before entry.reading entry.cmd) →
    after ≡ state_of (followed_by journal entry)
running-accepted journal before after entry running stated =
    stated.1 ∙ state_of-followed_by journal before entry.who entry.reading entry.cmd running stated.0

-- a keeper's journal refuses the commands that its clocks refuse
pub first_refusal-clocks : (began : Beginning) (folded spare : ℕ) (start clock : State)
    (entries : List Entry) (keeper : Keeper) (entry : Entry) (refusal : Option Refusal) →
    record { journal = journal_from folded start entries; began = began; spare = spare } ≡ keeper →
    is_full keeper.journal ≡ false → IsKept began (journal_from folded start entries) clock →
    state_refusal clock entry.reading entry.cmd ≡ refusal → first_refusal keeper.journal entry ≡ refusal
first_refusal-clocks began folded spare start clock entries keeper entry refusal shows free held answer =
    subst (λ (k : Keeper). is_full k.journal ≡ false → first_refusal k.journal entry ≡ refusal) shows
    (λ room. first_refusal-state (journal_from folded start entries) clock entry.who entry.reading
    entry.cmd refusal held.running room answer)
    free

-- a keeper whose clocks accepted a command: it consists of these parts, and `keeper` is its view
module _ (began : Beginning) (folded spare : ℕ) (start before after : State)
    (entries : List Entry) (entry : Entry) (keeper : Keeper)
    (shows : ◌≡◌ {A = Keeper}
    (record { journal = journal_from folded start entries; began = began; spare = spare }) keeper)
    (free : is_full keeper.journal ≡ false)
    (held : IsKept began (journal_from folded start entries) before)
    (done : (state_refusal before entry.reading entry.cmd ≡ None)
    × (after ≡ effect before entry.reading entry.cmd)) where
  abbrev journal : Journal
  journal = journal_from folded start entries

  accepted : first_refusal keeper.journal entry ≡ None
  accepted = first_refusal-clocks began folded spare start before entries keeper entry None shows free held
      done.0

  pub running_entered : after ≡ state_of (followed_by journal entry)
  running_entered = running-accepted journal before after entry held.running done

  pub kept_entered : IsKept began (followed_by journal entry) after
  kept_entered = IsKept-followed_by began journal entry before after held
      (subst (λ (k : Keeper). first_refusal k.journal entry ≡ None) (sym shows) accepted)
      running_entered

  pub answer_entered : (longer : List Entry) (number : ℕ) → longer ≡ entries ++ entry ∷ [] →
      number ≡ folded + length longer →
      IsAccepted keeper.journal (journal_from folded start longer) entry number
  answer_entered longer number pushed counted = (
    accepted,
    ap (journal_from folded start) pushed ∙ ap (λ (k : Keeper). followed_by k.journal entry) shows,
    counted,
  )
