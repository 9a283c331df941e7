-- The facts that every step of a notice must keep.
use Rattle.std.proofs.Common.{◌≡◌, ◌≢◌, ℕ, ◌%◌, ◌≤◌, List, [], ◌∷◌, ◌++◌, length, get_or, set, sym, refl, ◌∙◌, subst, ⊎_elim, arith}
use Rattle.std.proofs.lemmas.List.{set-get_or}
use mathlib.Core.List.{IsPrefix}
use mathlib.Core.Option.{some}
use lib.ListN.{get_elem?}
use Rattle.atomic_table.specs.Table.{State, keeps, stepped}
use Rattle.atomic_table.proofs.Lists.{at_snoc}
use Rattle.tk_clock.proofs.Lists.{each_after, prefix_self, prefix_trans}
use Rattle.tk_now.specs.declared.rule.Taken.{Taken}
use Rattle.tk_now.specs.declared.rule.Answer.{Answer}
use Rattle.tk_now.specs.declared.rule.View.{View}
use Rattle.tk_now.specs.declared.rule.Role.{Role}
use Rattle.tk_now.specs.declared.rule.Role.TheVariants.{Spent, Resting, Timing, Idle, Announced, Noting}
use Rattle.tk_now.specs.Moments.{AreBefore, AreAnswered, AreInOrder, AreInLife, AreInTurn, AreLater}
use Rattle.tk_now.specs.Rule.{limit, Stands, Counts, Knows, Kept}
use Rattle.tk_now.proofs.Lists.{later_more, none_later}

abbrev pub Words : Type 0
Words = State (Unit {0}) View

abbrev pub word : Words → ℕ
word s = get_or s.words 0 0

-- the knowledge of the other seats stays true
others_know : (m m' : ℕ) (commands commands' : List Taken) (log log' : List Answer)
    (role role' : Role) (writer seat : ℕ) → m ≤ m' → IsPrefix commands commands' →
    IsPrefix log log' → AreLater m (length log) log' → (seat ≡ writer → (commands ≡ commands') × (role ≡ role')) →
    (mine : List Taken) (told : List Answer) (own : Role) →
    Knows m commands log role writer seat mine told own →
    Knows m' commands' log' role' writer seat mine told own
others_know m m' cs cs' lg lg' role role' by seat le p q fresh same mine told Spent k = tt
others_know m m' cs cs' lg lg' role role' by seat le p q fresh same mine told (Noting noted answers) k = (
  k.0,
  k.1 ∙ (same k.0).0,
  sym (same k.0).1 ∙ k.2,
  prefix_trans noted cs cs' k.3 p,
  prefix_trans answers lg lg' k.4 q,
  prefix_trans told lg lg' k.5 q,
)
others_know m m' cs cs' lg lg' role role' by seat le p q fresh same mine told (Resting found) k =
    (prefix_trans mine cs cs' k.0 p, prefix_trans told lg lg' k.1 q)
others_know m m' cs cs' lg lg' role role' by seat le p q fresh same mine told (Timing found first from) k =
    let low = k.3 in (
      prefix_trans mine cs cs' k.0 p,
      prefix_trans told lg lg' k.1 q,
      k.2,
      omega arith,
      later_more from m (length told) lg lg' q low k.4 fresh,
    )
others_know m m' cs cs' lg lg' role role' by seat le p q fresh same mine told Idle k =
    (k.0, k.1 ∙ (same k.0).0, sym (same k.0).1 ∙ k.2, prefix_trans told lg lg' k.3 q)
others_know m m' cs cs' lg lg' role role' by seat le p q fresh same mine told (Announced from) k =
    (k.0, k.1 ∙ (same k.0).0, sym (same k.0).1 ∙ k.2, prefix_trans told lg lg' k.3 q)

-- the knowledge of this seat by the rule
abbrev pub IsKnown : (s : Words) → Kept s → ℕ → View → Type 0
IsKnown s r seat view =
    Knows r.moment r.commands r.log r.role r.writer seat view.commands view.log view.role

-- the rule after a step
pub kept_with : (s : Words) (r : Kept s) (ws : List ℕ) (id : ℕ) (v : View) (m : ℕ)
    (commands : List Taken) (log : List Answer) (role : Role) → length ws ≡ 1 → r.moment ≤ m →
    IsPrefix r.commands commands → IsPrefix r.log log → AreLater r.moment (length r.log) log →
    Stands (get_or ws 0 0) m commands role → AreBefore (limit role m) commands →
    AreAnswered (length commands) (limit role m) log → AreInOrder commands →
    AreInLife commands log → AreInTurn log →
    ((seat : ℕ) → seat ≢ id → seat ≡ r.writer → (r.commands ≡ commands) × (r.role ≡ role)) →
    Knows m commands log role r.writer id v.commands v.log v.role →
    Kept (record { words = ws; homes = s.homes; views = set s.views id v })
kept_with s r ws id v m commands log role wide le p q fresh stands before answered ordered alive turn same mine = record {
  moment = m;
  commands = commands;
  log = log;
  role = role;
  writer = r.writer;
  wide = wide;
  stands = stands;
  before = before;
  answered = answered;
  ordered = ordered;
  alive = alive;
  turn = turn;
  each = each_after (λ seat u. Knows m commands log role r.writer seat u.commands u.log u.role)
      s.views id v mine
      (λ seat u apart at. others_know r.moment m r.commands commands r.log log r.role role
      r.writer seat le p q fresh (same seat apart) u.commands u.log u.role (r.each seat u at));
}

-- one seat knows something else
pub reseated : (s : Words) (r : Kept s) (id : ℕ) (view : View) → IsKnown s r id view →
    Kept (record { words = s.words; homes = s.homes; views = set s.views id view })
reseated s r id view mine = kept_with s r s.words id view r.moment r.commands r.log r.role r.wide
    (omega arith) (prefix_self r.commands) (prefix_self r.log) (none_later r.moment r.log) r.stands
    r.before r.answered r.ordered r.alive r.turn (λ seat apart own. (refl, refl)) mine

-- one seat knows something else, and there is one more seat
pub parted : (s : Words) (r : Kept s) (id : ℕ) (left right : View) → IsKnown s r id left →
    ((seat : ℕ) → IsKnown s r seat right) →
    Kept (record { words = s.words; homes = s.homes; views = set s.views id left ++ right ∷ [] })
parted s r id left right mine theirs = record {
  moment = r.moment;
  commands = r.commands;
  log = r.log;
  role = r.role;
  writer = r.writer;
  wide = r.wide;
  stands = r.stands;
  before = r.before;
  answered = r.answered;
  ordered = r.ordered;
  alive = r.alive;
  turn = r.turn;
  each = λ seat u e. ⊎_elim
      (each_after (IsKnown s r) s.views id left mine (λ i y _ at. r.each i y at) seat u)
      (λ (t : right ≡ u). subst (λ x. IsKnown s r seat x) t (theirs seat))
      (at_snoc (set s.views id left) right u seat e);
}

-- the rule after a load
pub loads : (s : Words) (r : Kept s) (id : ℕ) (cs : List (ℕ × Unit {0})) (v : View) (m : ℕ)
    (log : List Answer) → r.moment ≤ m → IsPrefix r.log log →
    AreLater r.moment (length r.log) log → Stands (word s) m r.commands r.role → AreBefore (limit r.role m) r.commands →
    AreAnswered (length r.commands) (limit r.role m) log → AreInLife r.commands log →
    AreInTurn log → Knows m r.commands log r.role r.writer id v.commands v.log v.role →
    Kept (stepped s 0 (word s) id cs v keeps)
loads s r id cs v m log le q fresh stands before answered alive turn mine =
    let after : List ℕ → Words =
    λ ws. record { words = ws; homes = s.homes; views = set s.views id v } in
    subst (λ ws. Kept (after ws)) (sym (set-get_or s.words 0 0))
    (kept_with s r s.words id v m r.commands log r.role r.wide le (prefix_self r.commands) q fresh
    stands before answered r.ordered alive turn (λ seat apart own. (refl, refl)) mine)

-- a load at which no moment passes and nothing is listed
pub loads_as : (s : Words) (r : Kept s) (id : ℕ) (cs : List (ℕ × Unit {0})) (v : View) →
    IsKnown s r id v →
    Kept (stepped s 0 (word s) id cs v keeps)
loads_as s r id cs v mine = loads s r id cs v r.moment r.log (omega arith) (prefix_self r.log)
    (none_later r.moment r.log) r.stands r.before r.answered r.alive r.turn mine

-- the facts of the rule about one seat
pub known_of : (s : Words) (r : Kept s) (id : ℕ) (view : View) (own : Role) →
    get_elem? s.views id ≡ some view → view.role ≡ own →
    Knows r.moment r.commands r.log r.role r.writer id view.commands view.log own
known_of s r id view own at same =
    subst (λ (w : Role). Knows r.moment r.commands r.log r.role r.writer id view.commands
    view.log w) same (r.each id view at)

-- the facts about the commands that the word shows
pub counted : (n m : ℕ) (commands : List Taken) (role : Role) → Stands n m commands role →
    Counts commands n
counted n m commands Spent h = absurd h
counted n m commands (Noting noted answers) h = absurd h
counted n m commands (Resting found) h = absurd h
counted n m commands (Timing found first from) h = absurd h
counted n m commands Idle h = (omega arith, omega arith)
counted n m commands (Announced from) h = let e = h.0 in (omega arith, omega arith)

-- an even word: no command is in progress
pub at_rest : (n m : ℕ) (commands : List Taken) (role : Role) → Stands n m commands role →
    n % 2 ≡ 0 → limit role m ≡ m
at_rest n m commands Spent h even = absurd h
at_rest n m commands (Noting noted answers) h even = absurd h
at_rest n m commands (Resting found) h even = absurd h
at_rest n m commands (Timing found first from) h even = absurd h
at_rest n m commands Idle h even = refl
at_rest n m commands (Announced from) h even = let e = h.0 in absurd (omega arith)

-- time passes
pub stands_on : (n m m' : ℕ) (commands : List Taken) (role : Role) → m ≤ m' →
    Stands n m commands role → Stands n m' commands role
stands_on n m m' commands Spent le h = absurd h
stands_on n m m' commands (Noting noted answers) le h = absurd h
stands_on n m m' commands (Resting found) le h = absurd h
stands_on n m m' commands (Timing found first from) le h = absurd h
stands_on n m m' commands Idle le h = h
stands_on n m m' commands (Announced from) le h = let low = h.1 in (h.0, omega arith)

pub limit_on : (role : Role) (m m' : ℕ) → m ≤ m' → limit role m ≤ limit role m'
limit_on Spent m m' le = le
limit_on (Noting noted answers) m m' le = le
limit_on (Resting found) m m' le = le
limit_on (Timing found first from) m m' le = le
limit_on Idle m m' le = le
limit_on (Announced from) m m' le = omega arith

pub limited : (n m : ℕ) (commands : List Taken) (role : Role) → Stands n m commands role →
    limit role m ≤ m
limited n m commands Spent h = absurd h
limited n m commands (Noting noted answers) h = absurd h
limited n m commands (Resting found) h = absurd h
limited n m commands (Timing found first from) h = absurd h
limited n m commands Idle h = omega arith
limited n m commands (Announced from) h = h.1
