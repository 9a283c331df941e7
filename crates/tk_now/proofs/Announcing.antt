-- The steps of the writer keep the rule, as do a new reader and a new notice.
use Rattle.std.proofs.Common.{◌≡◌, ℕ, zero, suc, ◌+◌, ◌*◌, ◌≤◌, List, [], ◌∷◌, ◌++◌, length, Some, None, IsSome, true, false, true≢false, slice_get, get_or, set, refl, sym, ap, ◌∙◌, subst, arith, length-append, length-set, get_or-set_same}
use Rattle.std.proofs.lemmas.Option.{same_Some}
use mathlib.Core.List.{IsPrefix}
use mathlib.Core.Option.{some, none, some-ne-none, some-injective}
use lib.ListN.{get_elem?}
use Rattle.atomic_table.specs.Table.{step, keeps, stepped, Allows, Splits, opening}
use Rattle.tk_clock.proofs.Lists.{prefix_self}
use Rattle.tk_now.specs.declared.rule.Taken.{Taken}
use Rattle.tk_now.specs.declared.rule.View.{View}
use Rattle.tk_now.specs.declared.rule.Role.{Role}
use Rattle.tk_now.specs.declared.rule.Role.TheVariants.{Spent, Resting, Timing, Idle, Announced, Noting}
use Rattle.tk_now.specs.Moments.{AreBefore, AreAnswered}
use Rattle.tk_now.specs.Rule.{started, limit, Stands, Knows, Kept}
use Rattle.tk_now.specs.Steps.{Seated, announced, accepted, withdrawn}
use Rattle.tk_now.specs.Views.{view_of, taken, from_by, since_by, announcing, IsIdle, IsAnnounced}
use Rattle.tk_now.proofs.Lists.{prefix_push, none_later, before_more, before_push, answered_more, ordered_push, life_command}
use Rattle.tk_now.proofs.Keeping.{Words, word, kept_with, parted, known_of, limited}

none_given : false ≡ true → ⊥
none_given e = true≢false (sym e)

-- a writer's role
pub announced_of : (role : Role) → role ≡ announcing (since_by role) → IsSome (since_by role) →
    role ≡ Announced (from_by role)
announced_of Spent e is = absurd (none_given is)
announced_of (Noting noted answers) e is = absurd (none_given is)
announced_of (Resting found) e is = absurd (none_given is)
announced_of (Timing found first from) e is = absurd (none_given is)
announced_of Idle e is = absurd (none_given is)
announced_of (Announced from) e is = refl

pub idle_of : (role : Role) → role ≡ announcing (since_by role) → since_by role ≡ None →
    role ≡ Idle
idle_of role e is = e ∙ ap announcing is

-- the rule at the writer's role
stands_at : (s : Words) (r : Kept s) (role : Role) → r.role ≡ role →
    Stands (word s) r.moment r.commands role
stands_at s r role is = subst (Stands (word s) r.moment r.commands) is r.stands

before_at : (s : Words) (r : Kept s) (role : Role) → r.role ≡ role →
    AreBefore (limit role r.moment) r.commands
before_at s r role is = subst (λ w. AreBefore (limit w r.moment) r.commands) is r.before

answered_at : (s : Words) (r : Kept s) (role : Role) → r.role ≡ role →
    AreAnswered (length r.commands) (limit role r.moment) r.log
answered_at s r role is =
    subst (λ w. AreAnswered (length r.commands) (limit w r.moment) r.log) is r.answered

-- the writer stores a word and takes up this role, with no new command
stores : (s : Words) (r : Kept s) (id n : ℕ) (me : View) (role : Role) → id ≡ r.writer →
    limit role (r.moment + 1) ≡ r.moment + 1 → Stands n (r.moment + 1) r.commands role →
    Knows (r.moment + 1) r.commands r.log role r.writer id me.commands me.log role →
    Kept (stepped s 0 n id [] (view_of me.commands me.log role) keeps)
stores s r id n me role own last stands mine =
    let wide = r.wide in
    let now = r.moment + 1 in
    let old = limit r.role r.moment in
    let least = limited (word s) r.moment r.commands r.role r.stands in
    let v0 : get_or (set s.words 0 n) 0 0 ≡ n = get_or-set_same s.words 0 n 0 (omega arith) in
    kept_with s r (set s.words 0 n) id (view_of me.commands me.log role) now r.commands r.log role
    (length-set s.words 0 n ∙ wide) (omega arith) (prefix_self r.commands) (prefix_self r.log)
    (none_later r.moment r.log) (subst (λ w. Stands w now r.commands role) (sym v0) stands)
    (before_more old (limit role now) r.commands (omega arith) r.before)
    (answered_more (length r.commands) (length r.commands) old (limit role now) r.log (omega arith)
    (omega arith) r.answered)
    r.ordered r.alive r.turn (λ seat apart e. absurd (apart (e ∙ sym own))) mine

pub announces : (slots id : ℕ) (me : Seated) (odd : ℕ) → IsIdle me.0 →
    odd + 1 ≡ 2 * length me.0.commands →
    Allows Kept slots id me 0 (λ _. odd) (λ _. announced (step slots 0 odd 0 none) me odd)
announces slots id me odd is up s r _ at _ =
    let known = known_of s r id me.0 Idle at is in
    let now = r.moment + 1 in
    let long = ap length known.1 in (
      view_of me.0.commands me.0.log (Announced now),
      keeps,
      tt,
      stores s r id odd me.0 (Announced now) known.0 refl (omega arith, omega arith)
          (known.0, known.1, refl, known.3),
      (refl, refl, refl),
    )

pub accepts : (slots id : ℕ) (me : Seated) (even reading : ℕ) → IsAnnounced me.0 →
    even ≡ 2 * length me.0.commands →
    Allows Kept slots id me 0 (λ _. even) (λ _. accepted reading (step slots 0 even 0 none) me even)
accepts slots id me even reading is up s r _ at _ =
    let from = from_by me.0.role in
    let known = known_of s r id me.0 (Announced from) at is in
    let wide = r.wide in
    let h = stands_at s r (Announced from) known.2 in
    let low = h.1 in
    let now = r.moment + 1 in
    let long = ap length known.1 in
    let t = taken from now reading in
    let more = r.commands ++ t ∷ [] in
    let longer = length-append r.commands (t ∷ []) in
    let before = before_at s r (Announced from) known.2 in
    let answered = answered_at s r (Announced from) known.2 in
    let ws = set s.words 0 even in
    let v0 : get_or ws 0 0 ≡ even = get_or-set_same s.words 0 even 0 (omega arith) in
    let v = view_of (me.0.commands ++ t ∷ []) me.0.log Idle in (
      v,
      keeps,
      tt,
      kept_with s r ws id v now more r.log Idle (length-set s.words 0 even ∙ wide) (omega arith)
          (prefix_push r.commands t) (prefix_self r.log) (none_later r.moment r.log) (omega arith)
          (before_push from now r.commands t (omega arith) (omega arith) (omega arith) before)
          (answered_more (length r.commands) (length more) from now r.log (omega arith)
          (omega arith) answered)
          (ordered_push from r.commands t before (omega arith) r.ordered)
          (life_command from r.commands r.log t answered (omega arith) r.alive) r.turn
          (λ seat apart own. absurd (apart (own ∙ sym known.0)))
          (known.0, ap (λ (l : List Taken). l ++ t ∷ []) known.1, refl, known.3),
      (refl, (from, now, refl, omega arith, refl), refl),
    )

pub withdraws : (slots id : ℕ) (me : Seated) (even : ℕ) → IsAnnounced me.0 →
    even + 2 ≡ 2 * length me.0.commands →
    Allows Kept slots id me 0 (λ _. even) (λ _. withdrawn (step slots 0 even 0 none) me even)
withdraws slots id me even is up s r _ at _ =
    let known = known_of s r id me.0 (Announced (from_by me.0.role)) at is in
    let long = ap length known.1 in (
      view_of me.0.commands me.0.log Idle,
      keeps,
      tt,
      stores s r id even me.0 Idle known.0 refl (omega arith) (known.0, known.1, refl, known.3),
      (refl, refl, refl),
    )

-- the writer's seat gives a reader's
pub hands : (id : ℕ) (view : View) → IsIdle view →
    Splits Kept id view view (view_of view.commands [] (Resting []))
hands id view is s r at =
    let known = known_of s r id view Idle at is in
    parted s r id view (view_of view.commands [] (Resting [])) (r.each id view at)
    (λ seat. (subst (IsPrefix view.commands) known.1 (prefix_self view.commands), (r.log, refl)))

-- only the opening
only_opening : (reading place : ℕ) (t : Taken) → slice_get (taken 0 0 reading ∷ []) place ≡ Some t →
    (place ≡ 0) × (taken 0 0 reading ≡ t)
only_opening reading zero t e = (refl, same_Some (taken 0 0 reading) t e)
only_opening reading (suc place) t e = absurd (cc (e))

-- at the start
pub starts : (reading : ℕ) → Kept (opening (0 ∷ []) [] (started reading))
starts reading = record {
  moment = 0;
  commands = taken 0 0 reading ∷ [];
  log = [];
  role = Idle;
  writer = 0;
  wide = refl;
  stands = refl;
  before = λ place t at. let e = (only_opening reading place t at).1 in
      subst (λ (x : Taken). (x.from ≤ x.to) × (x.to ≤ 0)) e (omega arith, omega arith);
  answered = λ i a at. absurd (cc (at));
  ordered = λ i j t u less at_i at_j. let e = (only_opening reading j u at_j).0 in
      absurd (omega arith);
  alive = λ i place a t at_a at_t. absurd (cc (at_a));
  turn = λ i j a b less at_a at_b. absurd (cc (at_a));
  each = one;
}
  where
    one : (seat : ℕ) (view : View) → get_elem? (started reading ∷ []) seat ≡ some view →
        Knows 0 (taken 0 0 reading ∷ []) [] Idle 0 seat view.commands view.log view.role
    one zero view e = subst
        (λ (w : View). Knows 0 (taken 0 0 reading ∷ []) [] Idle 0 0 w.commands w.log w.role)
        (some-injective _ _ e) (refl, refl, refl, ([], refl))
    one (suc seat) view e = absurd (some-ne-none view (sym e))
