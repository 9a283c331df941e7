-- If the callers have different numbers, none has more entries than were accepted.
use Rattle.std.proofs.Common.{◌≡◌, ◌≢◌, ℕ, zero, suc, ◌+◌, ◌≤◌, ◌==◌, Bool, true, false, cond, List, [], ◌∷◌, ◌++◌, All, length, ap, sym, ◌∙◌, arith, refl, ne_eqb}
use Rattle.std.proofs.lemmas.Bool.{eq-eqb}
use Rattle.std.proofs.lemmas.List.Sums.{sum_by-append}
use mathlib.Core.List.{IsPrefix}
use mathlib.Core.Logic.{dite}
use native.Mathlib.Decide.{ℕ_discrete}
use Rattle.tk_clock.specs.declared.command.Entry.{Entry}
use Rattle.tk_clock.specs.Journal.{Journal}
use Rattle.tk_shared.specs.Callers.{Known, made_by}
use Rattle.tk_shared.specs.Closing.{accepted_by, IsApart, AreDifferent, IsPartOf, IsCounted}

made_by-append : (id : ℕ) (xs ys : List Entry) →
    made_by id (xs ++ ys) ≡ made_by id xs + made_by id ys
made_by-append id xs ys = sum_by-append (λ (e : Entry). cond (e.who == id) 1 0) xs ys

-- a longer list has no fewer entries of a caller
pub made_by-prefix : (id : ℕ) (xs ys : List Entry) → IsPrefix xs ys → made_by id xs ≤ made_by id ys
made_by-prefix id xs ys p =
    let parts = made_by-append id xs p.0 in
    let whole = ap (made_by id) p.1 in
    omega (arith, parts, whole)

-- a caller's entry counts once
own_once : (id : ℕ) (entry : Entry) → entry.who ≡ id → made_by id (entry ∷ []) ≡ 1
own_once id entry own = ap (λ (b : Bool). 0 + cond b 1 0) (eq-eqb entry.who id own)

-- a caller has no more accepted commands than the history has entries of it, also with one more
pub own_more : (id accepted : ℕ) (seen history : List Entry) (entry : Entry) → entry.who ≡ id →
    IsPrefix seen history → accepted ≤ made_by id seen →
    accepted + 1 ≤ made_by id (history ++ entry ∷ [])
own_more id accepted seen history entry own begins few =
    let once = own_once id entry own in
    let longer = made_by-prefix id seen history begins in
    let parts = made_by-append id history (entry ∷ []) in
    omega (arith, once, longer, parts, few)

made_at_most : (id : ℕ) (entry : Entry) → made_by id (entry ∷ []) ≤ 1
made_at_most id entry = go (entry.who == id)
  where
    go : (b : Bool) → 0 + cond b 1 0 ≤ 1
    go true = omega arith
    go false = omega arith

made_by_other : (id : ℕ) (entry : Entry) → entry.who ≢ id → made_by id (entry ∷ []) ≡ 0
made_by_other id entry other = ap (λ (b : Bool). 0 + cond b 1 0) (ne_eqb entry.who id other)

-- the number of entries that these callers made together
made_together : List Known → List Entry → ℕ
made_together [] entries = 0
made_together (caller ∷ callers) entries =
    made_by caller.id entries + made_together callers entries

together_none : (callers : List Known) → made_together callers [] ≡ 0
unfolding made_together
together_none [] = refl
together_none (caller ∷ callers) = let rest = together_none callers in omega (arith, rest)

together-cons : (callers : List Known) (entry : Entry) (entries : List Entry) →
    made_together callers (entry ∷ entries)
    ≡ made_together callers (entry ∷ []) + made_together callers entries
unfolding made_together
together-cons [] entry entries = refl
together-cons (caller ∷ callers) entry entries =
    let first = made_by-append caller.id (entry ∷ []) entries in
    let rest = together-cons callers entry entries in
    omega (arith, first, rest)

-- an entry of one caller isn't an entry of another one
together_apart : (id : ℕ) (callers : List Known) (entry : Entry) → entry.who ≡ id →
    IsApart id callers → made_together callers (entry ∷ []) ≡ 0
unfolding made_together
together_apart id [] entry is apart = refl
together_apart id (caller ∷ callers) entry is apart =
    let first = made_by_other caller.id entry (λ same. apart.0 (sym same ∙ is)) in
    let rest = together_apart id callers entry is apart.1 in
    omega (arith, first, rest)

together_one : (callers : List Known) (entry : Entry) → AreDifferent callers →
    made_together callers (entry ∷ []) ≤ 1
unfolding made_together
together_one [] entry different = omega arith
together_one (caller ∷ callers) entry different = dite (ℕ_discrete entry.who caller.id)
    (λ is.
    let first = made_at_most caller.id entry in
    let rest = together_apart caller.id callers entry is different.0 in
    omega (arith, first, rest))
    (λ other.
    let first = made_by_other caller.id entry other in
    let rest = together_one callers entry different.1 in
    omega (arith, first, rest))

-- together they made no more entries than there are
together_within : (callers : List Known) (entries : List Entry) → AreDifferent callers →
    made_together callers entries ≤ length entries
together_within callers [] different =
    let none = together_none callers in omega (arith, none)
together_within callers (entry ∷ entries) different =
    let parts = together-cons callers entry entries in
    let first = together_one callers entry different in
    let rest = together_within callers entries different in
    omega (arith, parts, first, rest)

abbrev pub Each : (Known → Type 0) → List Known → Type 0
Each P [] = Unit {0}
Each P (caller ∷ callers) = P caller × Each P callers

pub each_of : (P : Known → Type 0) (callers : List Known) → All P callers → Each P callers
each_of P [] all = tt
each_of P (caller ∷ callers) all =
    (all 0 caller (omega arith), each_of P callers (λ k d l. all (suc k) d (omega arith)))

pub all_of : (P : Known → Type 0) (callers : List Known) → Each P callers → All P callers
all_of P [] each k d l = absurd (omega arith)
all_of P (caller ∷ callers) each zero d l = each.0
all_of P (caller ∷ callers) each (suc k) d l = all_of P callers each.1 k d (omega arith)

-- one more in front
pub all_first : (P : Known → Type 0) (caller : Known) (callers : List Known) → P caller →
    All P callers → All P (caller ∷ callers)
all_first P caller callers first rest =
    all_of P (caller ∷ callers) (first, each_of P callers rest)

pub accepted-cons : (caller : Known) (callers : List Known) →
    accepted_by (caller ∷ callers) ≡ caller.accepted + accepted_by callers
accepted-cons caller callers =
    let parts = sum_by-append (λ (k : Known). k.accepted) (caller ∷ []) callers in
    omega (arith, parts)

no_more : (callers : List Known) (entries : List Entry) →
    Each (λ caller. caller.accepted ≤ made_by caller.id entries) callers →
    accepted_by callers ≤ made_together callers entries
unfolding made_together
no_more [] entries each = omega arith
no_more (caller ∷ callers) entries each =
    let parts = accepted-cons caller callers in
    let rest = no_more callers entries each.1 in
    let first = each.0 in
    omega (arith, parts, rest, first)

exact : (history : Journal) (callers : List Known) →
    Each (λ caller. caller.accepted ≤ made_by caller.id history.entries) callers →
    made_together callers history.entries ≤ accepted_by callers → Each (IsCounted history) callers
unfolding made_together
exact history [] each few = tt
exact history (caller ∷ callers) each few =
    let parts = accepted-cons caller callers in
    let rest = no_more callers history.entries each.1 in
    let first = each.0 in (
      omega (arith, parts, rest, first, few),
      exact history callers each.1 (omega (arith, parts, first, few)),
    )

own_in : (history : Journal) (caller : Known) → IsPartOf history caller →
    caller.accepted ≤ made_by caller.id history.entries
own_in history caller part =
    let seen = part.own in
    let more = made_by-prefix caller.id caller.seen.entries history.entries part.begins.1 in
    omega (arith, seen, more)

pub all_counted : (history : Journal) (callers : List Known) → AreDifferent callers →
    All (IsPartOf history) callers → length history.entries ≡ accepted_by callers →
    All (IsCounted history) callers
all_counted history callers different parts whole =
    let least = each_of (λ caller. caller.accepted ≤ made_by caller.id history.entries) callers
    (λ k d l. own_in history _ (parts k d l)) in
    let within = together_within callers history.entries different in
    all_of (IsCounted history) callers (exact history callers least (omega (arith, within, whole)))
