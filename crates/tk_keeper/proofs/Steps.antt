-- The listed entries of a legal journal, applied one by one.
use Rattle.std.proofs.Common.{◌≡◌, ℕ, ◌+◌, ◌<◌, List, [], ◌∷◌, ◌++◌, length, get_or, take, refl, sym, ◌∙◌, ap}
use Rattle.std.specs.Prelude.{Result, Ok, Err, Option, Some, None, IsOk, MatchResult, slice_get}
use Rattle.std.proofs.lemmas.List.{take_more}
use Rattle.std.proofs.lemmas.Option.{slice_get_within, slice_get-get_or, get_or_from_slice_get}
use Rattle.tk_clock.specs.declared.command.Entry.{Entry}
use Rattle.tk_clock.specs.declared.refusal.Refusal.{Refusal}
use Rattle.tk_clock.specs.Journal.{Journal, prefix, followed_by}
use Rattle.tk_clock.specs.Legal.{IsAccepted}
use Rattle.tk_clock.specs.Refusal.{state_refusal}
use Rattle.tk_clock.specs.State.{state_of, effect}
use Rattle.tk_clock.proofs.Ledger.{clock_refusal-state}
use Rattle.tk_clock.proofs.Legal.{state_of-followed_by}

-- the state before a listed entry doesn't refuse it
pub passes : (journal : Journal) (k : ℕ) (entry : Entry) → IsAccepted journal →
    slice_get journal.entries k ≡ Some entry →
    state_refusal (state_of (prefix k journal)) entry.reading entry.cmd ≡ None
passes journal k entry all here =
    sym (clock_refusal-state (prefix k journal) entry.who entry.reading entry.cmd)
    ∙ all k entry here

-- the entry leaves the state of the next place
pub next_state : (journal : Journal) (k : ℕ) (entry : Entry) → IsAccepted journal →
    slice_get journal.entries k ≡ Some entry →
    effect (state_of (prefix k journal)) entry.reading entry.cmd ≡ state_of (prefix (k + 1) journal)
next_state journal k entry all here =
    let more : prefix (k + 1) journal ≡ followed_by (prefix k journal) entry =
    ap (λ (es : List Entry). record journal { entries = es })
    (take_more journal.entries k entry (slice_get_within journal.entries k entry here)
    ∙ ap (λ (e : Entry). take k journal.entries ++ e
    ∷ []) (get_or_from_slice_get journal.entries k entry entry here)) in
    state_of-followed_by (prefix k journal) (state_of (prefix k journal)) entry.who entry.reading
    entry.cmd refl (passes journal k entry all here)
    ∙ ap state_of (sym more)

-- a command that no test refuses is applied
pub is_done : (after : Type 0) (other : Refusal →
    Type 0) (stated : Option Refusal) (result : Result (Unit {0}) Refusal) → stated ≡ None →
    MatchResult result (λ _. (stated ≡ None) × after) (λ refusal. (stated ≡ Some refusal)
    × other refusal) → IsOk result
is_done after other stated (Ok done) none e = refl
is_done after other stated (Err refusal) none e = let some = e.0 in absurd (cc (none, some))

-- an item that is found at a place within a list
pub listed_item : {X : Type 0} (xs : List X) (k : ℕ) (x : X) → k < length xs →
    x ≡ get_or xs k x → slice_get xs k ≡ Some x
listed_item xs k x within e = slice_get-get_or xs k x within ∙ ap (λ y. Some y) (sym e)

pub effect_of : (after : Type 0) (other : Refusal →
    Type 0) (stated : Option Refusal) (result : Result (Unit {0}) Refusal) → stated ≡ None →
    MatchResult result (λ _. (stated ≡ None) × after) (λ refusal. (stated ≡ Some refusal)
    × other refusal) → after
effect_of after other stated (Ok done) none e = e.1
effect_of after other stated (Err refusal) none e = let some = e.0 in absurd (cc (none, some))
