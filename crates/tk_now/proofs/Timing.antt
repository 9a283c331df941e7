-- The loads of a reader keep the rule, and the result of two loads.
use Rattle.std.proofs.Common.{◌≡◌, ℕ, ◌+◌, ◌/◌, ◌%◌, List, [], ◌∷◌, ◌++◌, length, refl, sym, ap, ◌∙◌, subst, arith, append_assoc}
use mathlib.Core.List.{IsPrefix}
use mathlib.Core.Logic.{dite}
use mathlib.Core.Option.{none}
use native.Mathlib.Decide.{ℕ_discrete}
use Rattle.atomic_table.specs.Table.{step, keeps, stepped, Allows}
use Rattle.atomic_table.specs.Seated.{TableId}
use Rattle.tk_clock.proofs.Lists.{prefix_self, prefix_trans, prefix_whole, prefix_length}
use Rattle.tk_now.specs.declared.rule.Taken.{Taken}
use Rattle.tk_now.specs.declared.rule.Answer.{Answer}
use Rattle.tk_now.specs.declared.rule.View.{View}
use Rattle.tk_now.specs.declared.rule.Role.TheVariants.{Resting, Timing}
use Rattle.tk_now.specs.Moments.{AreBefore, AreAnswered, AreInLife, AreInTurn, AreLater, IsTimed, IsBusy}
use Rattle.tk_now.specs.Rule.{limit, Knows, Kept}
use Rattle.tk_now.specs.Steps.{Seated, began, ended, IsBegun, IsEnd, IsListed, answer_of}
use Rattle.tk_now.specs.Views.{Noticed, view_of, found_by, first_by, from_by, IsResting, IsTiming}
use Rattle.tk_now.proofs.Lists.{prefix_push, none_later, later_more, later_push, turn_push, before_more, answered_more, answered_push, life_answer}
use Rattle.tk_now.proofs.Keeping.{Words, word, loads, known_of, counted, at_rest, stands_on, limit_on, limited}

-- one moment later, with no new answer
answered_on : (s : Words) (r : Kept s) →
    AreAnswered (length r.commands) (limit r.role (r.moment + 1)) r.log
answered_on s r =
    let count = length r.commands in
    answered_more count count (limit r.role r.moment) (limit r.role (r.moment + 1)) r.log
    (omega arith) (limit_on r.role r.moment (r.moment + 1) (omega arith)) r.answered

-- one moment passes at a load
looks : (s : Words) (r : Kept s) (id : ℕ) (cs : List (ℕ × Unit {0})) (v : View)
    (log : List Answer) → IsPrefix r.log log → AreLater r.moment (length r.log) log →
    AreAnswered (length r.commands) (limit r.role (r.moment + 1)) log → AreInLife r.commands log →
    AreInTurn log → Knows (r.moment + 1) r.commands log r.role r.writer id v.commands v.log v.role →
    Kept (stepped s 0 (word s) id cs v keeps)
looks s r id cs v log more fresh answered alive turn mine =
    let now = r.moment + 1 in
    loads s r id cs v now log (omega arith) more fresh
    (stands_on (word s) r.moment now r.commands r.role (omega arith) r.stands)
    (before_more (limit r.role r.moment) (limit r.role now) r.commands
    (limit_on r.role r.moment now (omega arith)) r.before)
    answered alive turn mine

-- the first load
pub begins : (slots id : ℕ) (me : Seated) → IsResting me.0 →
    Allows Kept slots id me 0 (λ n. n) (began (step slots 0 0 0 none) me)
begins slots id me is s r _ at _ =
    let found = found_by me.0.role in
    let known = known_of s r id me.0 (Resting found) at is in
    let n = word s in
    let now = r.moment + 1 in
    let old = limit r.role r.moment in
    let less = limited n r.moment r.commands r.role r.stands in
    let counts = counted n r.moment r.commands r.role r.stands in
    let v = view_of r.commands r.log (Timing (found ++ n ∷ []) n now) in (
      v,
      keeps,
      tt,
      looks s r id me.1 v r.log (prefix_self r.log) (none_later r.moment r.log) (answered_on s r)
          r.alive r.turn (
            prefix_self r.commands,
            prefix_self r.log,
            counts,
            omega arith,
            none_later now r.log,
          ),
      (
        refl,
        refl,
        record {
          timing = refl;
          first = refl;
          found_is = refl;
          commands = known.0;
          log = known.1;
          counts = counts;
          before = before_more old now r.commands (omega arith) r.before;
          answered = answered_more (length r.commands) (length r.commands) old now r.log
              (omega arith) (omega arith) r.answered;
        },
      ),
    )

abbrev Ends : ℕ → ℕ → ℕ → Seated → Words → Type 0
Ends reading slots id me s = (w : View) × Kept (stepped s 0 (word s) id me.1 w keeps)
    × ended reading (step slots 0 0 0 none) me (word s) (w, me.1)

-- the knowledge of a reader between its loads
abbrev Held : ℕ → Seated → (s : Words) → Kept s → Type 0
Held id me s r = Knows r.moment r.commands r.log r.role r.writer id me.0.commands me.0.log
    (Timing (found_by me.0.role) (first_by me.0.role) (from_by me.0.role))

-- the second load, after which this is the log
rested : (reading slots id : ℕ) (me : Seated) (s : Words) (r : Kept s) (log : List Answer) →
    Held id me s r → IsPrefix r.log log → AreLater r.moment (length r.log) log →
    AreAnswered (length r.commands) (limit r.role (r.moment + 1)) log → AreInLife r.commands log →
    AreInTurn log → (let new = view_of r.commands log (Resting (found_by me.0.role ++ word s ∷ [])) in
    word s ≡ first_by me.0.role → word s % 2 ≡ 0 → IsListed reading me.0 new) →
    Ends reading slots id me s
rested reading slots id me s r log known more fresh answered alive turn answer =
    let w = view_of r.commands log (Resting (found_by me.0.role ++ word s ∷ [])) in (
      w,
      looks s r id me.1 w log more fresh answered alive turn (prefix_self r.commands, prefix_self log),
      (
        refl,
        refl,
        record {
          resting = refl;
          found_is = refl;
          commands = known.0;
          log = prefix_trans me.0.log r.log log known.1 more;
          ordered = r.ordered;
          alive = alive;
          turn = turn;
          answer = answer;
        },
      ),
    )

-- the second load finds the first one's word, which is even: the reading is listed
listed : (reading slots id : ℕ) (me : Seated) (s : Words) (r : Kept s) →
    AreBefore (from_by me.0.role) me.0.commands → Held id me s r → word s ≡ first_by me.0.role →
    word s % 2 ≡ 0 → Ends reading slots id me s
listed reading slots id me s r before known here even =
    let n = word s in
    let first = first_by me.0.role in
    let from = from_by me.0.role in
    let now = r.moment + 1 in
    let mine = known.2 in
    let low = mine.0 in
    let high = mine.1 in
    let past = known.3 in
    let counts = counted n r.moment r.commands r.role r.stands in
    let cl = counts.0 in
    let ch = counts.1 in
    let all : me.0.commands ≡ r.commands =
    prefix_whole me.0.commands r.commands known.0 (omega arith) in
    let stands = stands_on n r.moment now r.commands r.role (omega arith) r.stands in
    let rest = at_rest n now r.commands r.role stands even in
    let least = limited n r.moment r.commands r.role r.stands in
    let a = answer_of first from now reading in
    let place : length me.0.commands ≡ first / 2 + 1 = omega arith in
    let long : length r.commands ≡ first / 2 + 1 = sym (ap length all) ∙ place in
    let alive = life_answer r.commands r.log a
    (subst (AreBefore from) all before) (omega arith) r.alive in
    let fresh = later_push r.moment r.log a (omega arith) in
    rested reading slots id me s r (r.log ++ a ∷ []) known (prefix_push r.log a) fresh
    (answered_push (length r.commands) (limit r.role now) r.log a (omega arith) (omega arith)
    (answered_on s r)) alive
    (turn_push (length r.commands) (limit r.role r.moment) r.log a r.answered (omega arith) r.turn)
    (λ _ _. record {
      same = sym all;
      place = place;
      to = now;
      span = omega arith;
      between = r.log;
      extends = known.1;
      listed = refl;
      later = later_more from r.moment (length me.0.log) r.log (r.log ++ a ∷ [])
          (prefix_push r.log a) past known.4 fresh;
    })

-- it does not
unlisted : (reading slots id : ℕ) (me : Seated) (s : Words) (r : Kept s) → Held id me s r →
    (word s ≡ first_by me.0.role → ¬ (word s % 2 ≡ 0)) → Ends reading slots id me s
unlisted reading slots id me s r known moved =
    rested reading slots id me s r r.log known (prefix_self r.log) (none_later r.moment r.log)
    (answered_on s r) r.alive r.turn
    (λ here even. absurd (moved here even))

-- the second look
pub ends : (reading slots id : ℕ) (me : Seated) → IsTiming me.0 →
    AreBefore (from_by me.0.role) me.0.commands →
    Allows Kept slots id me 0 (λ n. n) (ended reading (step slots 0 0 0 none) me)
ends reading slots id me is before s r _ at _ =
    let known = known_of s r id me.0
    (Timing (found_by me.0.role) (first_by me.0.role) (from_by me.0.role)) at is in
    let e : Ends reading slots id me s = dite (ℕ_discrete (word s) (first_by me.0.role))
    (λ here. dite (ℕ_discrete (word s % 2) 0)
    (λ even. listed reading slots id me s r before known here even)
    (λ odd. unlisted reading slots id me s r known (λ _. odd)))
    (λ other. unlisted reading slots id me s r known (λ here. absurd (other here))) in
    (e.0, keeps, tt, e.1, e.2)

-- the words that both loads found
pub both_found : (old begun new : View) (first last reading : ℕ) → IsBegun old first begun →
    IsEnd reading begun last new →
    found_by new.role ≡ found_by old.role ++ first ∷ last ∷ []
both_found old begun new first last reading b e =
    e.found_is ∙ (ap (λ (f : List ℕ). f ++ last ∷ []) b.found_is
    ∙ append_assoc (found_by old.role) (first ∷ []) (last ∷ []))

-- both loads only add to the reader's knowledge
pub both_prefixes : (old : Noticed) (v0 v1 v2 : View) (first last reading : ℕ) →
    old.commands ≡ v0.commands → old.log ≡ v0.log → IsBegun v0 first v1 →
    IsEnd reading v1 last v2 →
    IsPrefix old.commands v2.commands × IsPrefix old.log v2.log
both_prefixes old v0 v1 v2 first last reading commands log b e = (
  subst (λ (l : List Taken). IsPrefix l v2.commands) (sym commands)
      (prefix_trans v0.commands v1.commands v2.commands b.commands e.commands),
  subst (λ (l : List Answer). IsPrefix l v2.log) (sym log)
      (prefix_trans v0.log v1.log v2.log b.log e.log),
)

-- two loads that found one even word, and a reading between them
pub times : {C : Type 0} (answers : C → ℕ → ℕ → Type 0) (counter : C) (old : Noticed)
    (v0 v1 v2 : View) (table : TableId) (first last reading : ℕ) → old.log ≡ v0.log →
    old.found ≡ found_by v0.role → IsBegun v0 first v1 → IsEnd reading v1 last v2 →
    answers counter (from_by v1.role) reading → first ≡ last → first % 2 ≡ 0 →
    IsTimed answers counter old (record {
      notice = table;
      commands = v2.commands;
      log = v2.log;
      found = found_by v2.role;
    }) (first / 2) reading
times answers counter old v0 v1 v2 table first last reading log found b e given same even =
    let here : last ≡ first_by v1.role = sym same ∙ sym b.first in
    let still : last % 2 ≡ 0 = subst (λ (n : ℕ). n % 2 ≡ 0) same even in
    let a = e.answer here still in
    let from = from_by v1.role in
    let long = ap length a.same in
    let place = a.place in
    let is = b.first in
    record {
      word = first;
      found = both_found v0 v1 v2 first last reading b e
          ∙ (ap (λ (f : List ℕ). f ++ first ∷ last ∷ []) (sym found)
          ∙ ap (λ (n : ℕ). old.found ++ first ∷ n ∷ []) (sym same));
      even = omega arith;
      latest = sym (long ∙ place ∙ ap (λ (n : ℕ). n / 2 + 1) is);
      from = from;
      given = given;
      begun = v1.log;
      known = subst (λ (l : List Answer). IsPrefix l v1.log) (sym log) b.log;
      above = subst (λ (n : ℕ). AreAnswered n from v1.log) (sym long) b.answered;
      later = a.later;
      after = subst (AreBefore from) (sym a.same) b.before;
      to = a.to;
      span = a.span;
      between = a.between;
      extends = a.extends;
      listed = a.listed ∙ ap (λ (n : ℕ). a.between ++ answer_of n from a.to reading ∷ []) is;
    }

-- two loads that found two words, or an odd one
pub is_busy : (old : Noticed) (v0 v1 v2 : View) (table : TableId) (first last reading : ℕ) →
    old.commands ≡ v0.commands → old.found ≡ found_by v0.role → IsBegun v0 first v1 →
    IsEnd reading v1 last v2 → (first ≡ last → first % 2 ≡ 1) → IsBusy old (record {
      notice = table;
      commands = v2.commands;
      log = v2.log;
      found = found_by v2.role;
    }) first last
is_busy old v0 v1 v2 table first last reading commands found b e busy =
    let no_less = prefix_length v0.commands v1.commands b.commands in
    let long = ap length commands in
    let count = b.counts.0 in
    record {
      found = both_found v0 v1 v2 first last reading b e
          ∙ ap (λ (f : List ℕ). f ++ first ∷ last ∷ []) (sym found);
      from = omega arith;
      busy = busy;
    }
