-- The facts that every step of a latch must keep.
use Rattle.std.proofs.Common.{◌≡◌, ◌≢◌, ℕ, ◌≤◌, List, get_or, set, sym, ◌∙◌, subst, arith, length-set}
use Rattle.std.proofs.lemmas.List.{set-get_or}
use mathlib.Core.Option.{some}
use lib.ListN.{get_elem?}
use Rattle.atomic_table.specs.Table.{State, keeps, stepped}
use Rattle.tk_clock.proofs.Lists.{each_after}
use Rattle.tk_clock.specs.Snapshot.{Snapshot}
use Rattle.tk_latch.specs.declared.rule.History.{History}
use Rattle.tk_latch.specs.declared.rule.View.{View}
use Rattle.tk_latch.specs.declared.rule.Role.{Role}
use Rattle.tk_latch.specs.declared.rule.Role.TheVariants.{Spent, Resting, Reading, Making, Copying, Noting}
use Rattle.tk_latch.specs.Publications.{AreNumbered, IsBeginning}
use Rattle.tk_latch.specs.Rule.{Copies, Counts, Knows, Latched}
use Rattle.tk_latch.proofs.Publications.{begins_trans}

abbrev pub Words : Type 0
Words = State (Unit {0}) View

abbrev pub word : Words → ℕ → ℕ
word s i = get_or s.words i 0

abbrev pub history_of : View → History
history_of view = view.history

-- the knowledge of any seat except the writer's stays true
others_know : (n n' : ℕ) (history history' : History) (role role' : Role) (writer seat : ℕ) →
    seat ≢ writer → n ≤ n' → IsBeginning history history' →
    (known : History) (own : Role) → Knows n history role writer seat known own →
    Knows n' history' role' writer seat known own
others_know n n' h h' role role' writer seat apart le more known Spent k = tt
others_know n n' h h' role role' writer seat apart le more known (Resting found) k =
    begins_trans known h h' k more
others_know n n' h h' role role' writer seat apart le more known (Reading found first now) k =
    let low = k.3 in (begins_trans known h h' k.0 more, k.1, k.2, omega arith)
others_know n n' h h' role role' writer seat apart le more known (Making written) k =
    absurd (apart k.0)
others_know n n' h h' role role' writer seat apart le more known (Copying count) k =
    absurd (apart k.0)
others_know n n' h h' role role' writer seat apart le more known (Noting note) k =
    absurd (apart k.0)

-- the knowledge of this seat by the rule
abbrev pub IsKnown : (s : Words) → Latched s → ℕ → View → Type 0
IsKnown s r seat view = Knows (word s 0) r.history r.role r.writer seat view.history view.role

-- the rule holds for other views, if all seats know the statement of their views
pub with_views : (s : Words) (r : Latched s) (views : List View) →
    ((seat : ℕ) (view : View) → get_elem? views seat ≡ some view → IsKnown s r seat view) →
    Latched (record { words = s.words; homes = s.homes; views = views })
with_views s r views each = record {
  history = r.history;
  role = r.role;
  writer = r.writer;
  wide = r.wide;
  numbered = r.numbered;
  copies = r.copies;
  each = each;
}

-- a store of the writer keeps the rule
pub writes : (s : Words) (r : Latched s) (i n id : ℕ) (cs : List (ℕ × Unit {0})) (history : History)
    (role : Role) →
    id ≡ r.writer → word s 0 ≤ get_or (set s.words i n) 0 0 → IsBeginning r.history history →
    AreNumbered history.counter 0 history.list →
    Copies (set s.words i n) history.list role →
    Knows (get_or (set s.words i n) 0 0) history role r.writer id history role →
    Latched (stepped s i n id cs (record { history = history; role = role }) keeps)
writes s r i n id cs history role own le more numbered copies mine = record {
  history = history;
  role = role;
  writer = r.writer;
  wide = length-set s.words i n ∙ r.wide;
  numbered = numbered;
  copies = copies;
  each = each_after (λ seat v. Knows
      (get_or (set s.words i n) 0 0) history role r.writer seat v.history v.role) s.views id
      (record { history = history; role = role }) mine
      (λ seat v apart at. others_know (word s 0)
      (get_or (set s.words i n) 0 0) r.history history r.role role r.writer seat
      (λ e. apart (e ∙ sym own)) le more v.history v.role (r.each seat v at));
}

-- a load keeps the rule
pub unmoved : (s : Words) (r : Latched s) (i id : ℕ) (cs : List (ℕ × Unit {0})) (view : View) →
    IsKnown s r id view → Latched (stepped s i (word s i) id cs view keeps)
unmoved s r i id cs view mine =
    let after : List ℕ → Words = λ ws. record {
      words = ws;
      homes = s.homes;
      views = set s.views id view;
    } in
    subst (λ ws. Latched (after ws)) (sym (set-get_or s.words i 0))
    (with_views s r (set s.views id view)
    (each_after (IsKnown s r) s.views id view mine (λ seat v apart at. r.each seat v at)))

-- the facts of the rule about one seat
pub known_of : (s : Words) (r : Latched s) (id : ℕ) (view is : View) →
    get_elem? s.views id ≡ some view → view ≡ is → IsKnown s r id is
known_of s r id view is at same = subst (λ w. IsKnown s r id w) same (r.each id view at)

-- the facts about the publications that the sequence shows
pub counted : (words : List ℕ) (list : List Snapshot) (role : Role) → Copies words list role →
    Counts list (get_or words 0 0)
counted words list Spent c = absurd c
counted words list (Resting found) c = absurd c
counted words list (Reading found first now) c = absurd c
counted words list (Making written) c = let h = c.0 in (omega arith, omega arith)
counted words list (Copying count) c = let h = c.0 in (omega arith, omega arith)
counted words list (Noting note) c = absurd c
