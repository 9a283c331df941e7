-- A list of events, each answered in order.
use Rattle.std.proofs.Common.{◌≡◌, ℕ, ◌+◌, ◌-◌, ◌<◌, ◌≤◌, min, List, [], ◌∷◌, ◌++◌, length, get_or, drop, refl, sym, ◌∙◌, ap, subst, arith, add-one, append_assoc}
use Rattle.std.specs.Prelude.{Result, Ok, Err, Some, None, MatchResult, IfOk}
use Rattle.std.proofs.Math.Seq.{drop-cons}
use Rattle.std.proofs.lemmas.List.{length_push}
use Rattle.tk_clock.specs.declared.command.Entry.{Entry}
use Rattle.tk_clock.specs.declared.refusal.Refusal.{Refusal}
use Rattle.tk_clock.specs.declared.refusal.Refusal.TheVariants.{Full, Asleep, Awake, Invalid, Behind, Range, Memory}
use Rattle.tk_clock.specs.Journal.{Journal, followed_by, accepted_count}
use Rattle.tk_clock.specs.Refusal.{first_refusal, IsRefusal}
use Rattle.tk_clock.proofs.Refusals.{accepts_room}
use Rattle.tk_clock.specs.Run.{Reply, Run, reply_if, reply_to, run}
use Rattle.tk_keeper.specs.Keeper.{Keeper}
use Rattle.tk_keeper.proofs.Room.{not_full}
use Rattle.tk_clock.specs.Limits.{listed_most}

-- the result of `apply`, and the keeper after it
abbrev pub IsAnswer : Keeper → Entry → Result ℕ Refusal → Keeper → Type 0
IsAnswer before entry result after =
    MatchResult result
    (λ number. (first_refusal before.journal entry ≡ None)
    × (after.journal ≡ followed_by before.journal entry)
    × (number ≡ accepted_count after.journal))
    (λ refusal. IsRefusal before.journal entry refusal × (after ≡ before))

-- a refusal other than `Memory` is the one of the first test that fails
first_refusal-is : (journal : Journal) (entry : Entry) (refusal : Refusal) →
    IsRefusal journal entry refusal → (refusal ≡ Memory → ⊥) →
    first_refusal journal entry ≡ Some refusal
first_refusal-is journal entry Full stated other = stated
first_refusal-is journal entry Asleep stated other = stated
first_refusal-is journal entry Awake stated other = stated
first_refusal-is journal entry Invalid stated other = stated
first_refusal-is journal entry Behind stated other = stated
first_refusal-is journal entry Range stated other = stated
first_refusal-is journal entry Memory stated other = absurd (other refl)

-- unless an allocation failed, this is the definition's reply
pub reply-answer : (before after : Keeper) (entry : Entry) (result : Result ℕ Refusal) →
    IsAnswer before entry result after →
    (result ≡ Err Memory → ⊥) →
    reply_to before.journal entry ≡ record { answer = result; journal = after.journal }
reply-answer before after entry (Ok number) stated enough =
    let next : accepted_count before.journal + 1 ≡ number =
    omega (arith, length_push before.journal.entries entry, stated.2, ap accepted_count stated.1) in
    let put : ℕ → Journal → Reply = λ n j. record { answer = Ok n; journal = j } in
    ap (reply_if before.journal entry) stated.0
    ∙ ap (λ n. put n (followed_by before.journal entry)) next
    ∙ ap (put number) (sym stated.1)
reply-answer before after entry (Err refusal) stated enough =
    ap (reply_if before.journal entry)
    (first_refusal-is before.journal entry refusal stated.0 (λ e. enough (ap Err e)))
    ∙ ap (λ (k : Keeper). let reply : Reply = record { answer = Err refusal; journal = k.journal }
    in reply) (sym stated.1)

-- if there is capacity for the remaining events, there is capacity for an accepted one
some_room : (left listed spare : ℕ) → 0 < left → listed < listed_most →
    min left (listed_most - listed) ≤ spare → 0 < spare
some_room left listed spare some low enough = omega arith

pub finds_room : (journal : Journal) (entry : Entry) (left spare : ℕ) → 0 < left →
    min left (listed_most - length journal.entries) ≤ spare →
    first_refusal journal entry ≡ None → 0 < spare
finds_room journal entry left spare some enough accepted =
    some_room left (length journal.entries) spare some
    (not_full journal (accepts_room journal entry accepted)).0 enough

pub never_short : (before after : Keeper) (entry : Entry) (result : Result ℕ Refusal) (left : ℕ) →
    IsAnswer before entry result after →
    (result ≡ Err Memory → before.spare ≡ 0) → 0 < left →
    min left (listed_most - length before.journal.entries) ≤ before.spare →
    result ≡ Err Memory → ⊥
never_short before after entry result left stated short some enough e =
    let accepted = (subst (λ r. IsAnswer before entry r after) e stated).0 in
    let more = finds_room before.journal entry left before.spare some enough accepted in
    let none = short e in
    omega arith

-- an accepted event leaves capacity for the events after it
less_room : (left listed listed' spare spare' : ℕ) → spare' + 1 ≡ spare → listed' ≡ listed + 1 →
    min left (listed_most - listed) ≤ spare →
    min (left - 1) (listed_most - listed') ≤ spare'
less_room left listed listed' spare spare' e longer enough = omega arith

same_room : (left listed spare : ℕ) → min left (listed_most - listed) ≤ spare →
    min (left - 1) (listed_most - listed) ≤ spare
same_room left listed spare enough = omega arith

pub room_left : (before after : Keeper) (entry : Entry) (result : Result ℕ Refusal) (left : ℕ) →
    IsAnswer before entry result after →
    IfOk result (λ _. 0 < before.spare → after.spare + 1 ≡ before.spare) → 0 < left →
    min left (listed_most - length before.journal.entries) ≤ before.spare →
    min (left - 1) (listed_most - length after.journal.entries) ≤ after.spare
room_left before after entry (Ok number) left stated less some enough =
    less_room left (length before.journal.entries) (length after.journal.entries) before.spare
    after.spare
    (less (finds_room before.journal entry left before.spare some enough stated.0))
    (ap (λ (j : Journal). length j.entries) stated.1
    ∙ length_push before.journal.entries entry) enough
room_left before after entry (Err refusal) left stated less some enough =
    subst (λ (k : Keeper). min (left - 1) (listed_most - length k.journal.entries) ≤ k.spare)
    (sym stated.1)
    (same_room left (length before.journal.entries) before.spare enough)

-- an accepted event takes the capacity of one, and a refused one takes none
pub takes_one : (before after : Keeper) (entry : Entry) (result : Result ℕ Refusal) (left : ℕ) →
    IsAnswer before entry result after →
    IfOk result (λ _. 0 < before.spare → after.spare + 1 ≡ before.spare) → 0 < left →
    min left (listed_most - length before.journal.entries) ≤ before.spare →
    after.spare + accepted_count after.journal ≡ before.spare + accepted_count before.journal
takes_one before after entry (Ok number) left stated less some enough =
    let lower = less (finds_room before.journal entry left before.spare some enough stated.0) in
    omega (arith, lower, length_push before.journal.entries entry, ap accepted_count stated.1)
takes_one before after entry (Err refusal) left stated less some enough =
    ap (λ (k : Keeper). k.spare + accepted_count k.journal) stated.1

-- the run of the events, starting at one of them
pub run-next : (journal after : Journal) (events : List Entry) (k : ℕ) (answer : Result ℕ Refusal)
    (none : Entry) → k < length events →
    reply_to journal (get_or events k none) ≡ record { answer = answer; journal = after } →
    run journal (drop k events)
    ≡ record {
      answers = answer ∷ (run after (drop (k + 1) events)).answers;
      journal = (run after (drop (k + 1) events)).journal;
    }
run-next journal after events k answer none within reply =
    let event = get_or events k none in
    let later = drop (k + 1) events in
    let next : drop k events ≡ event ∷ later = rw add-one (drop-cons events k none within) in
    let from_reply : Reply →
    Run = λ (r : Reply). record {
      answers = r.answer ∷ (run r.journal later).answers;
      journal = (run r.journal later).journal;
    } in
    ap (run journal) next ∙ ap from_reply reply

-- the answers so far and the remaining ones, after one more answer
pub one_more : (all before left later after : List (Result ℕ Refusal)) (answer : Result ℕ Refusal) →
    all ≡ before ++ left →
    left ≡ answer ∷ later → after ≡ before ++ answer ∷ [] → all ≡ after ++ later
one_more all before left later after answer e next stated =
    e ∙ ap (λ xs. before ++ xs) next ∙ sym (append_assoc before (answer ∷ []) later)
    ∙ ap (λ xs. xs ++ later) (sym stated)
