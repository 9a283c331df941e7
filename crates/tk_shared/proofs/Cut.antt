-- The first entries of a history.
use Rattle.std.proofs.Common.{◌≡◌, ℕ, zero, suc, ◌+◌, ◌<◌, ◌≤◌, List, [], ◌∷◌, ◌++◌, length, get_or, map, take, drop, refl, sym, ap, ◌∙◌, subst, arith}
use Rattle.std.specs.Prelude.{All, Some, pos, ◌≤ℤ◌, slice_get}
use Rattle.std.proofs.lemmas.List.{take-append-le, take_all, length-take-le, take-append-drop}
use Rattle.std.proofs.lemmas.Option.{same_Some, slice_get_within}
use Rattle.std.proofs.Math.Dec.{le→leb}
use mathlib.Core.List.{IsPrefix}
use Rattle.tk_clock.specs.declared.command.Entry.{Entry}
use Rattle.tk_clock.specs.Command.{is_suspend}
use Rattle.tk_clock.specs.Journal.{Journal, at_place}
use Rattle.tk_clock.proofs.Lists.{prefix_length}
use Rattle.tk_now.specs.declared.rule.Taken.{Taken}
use Rattle.tk_now.specs.declared.rule.Answer.{Answer}
use Rattle.tk_now.specs.Life.{AreNear, AreReadings}
use Rattle.tk_now.proofs.Lists.{get_first}
use Rattle.tk_shared.specs.NeverBack.{IsHonest}

-- an item of a list of which something holds
get_or_at : {X : Type 0} (xs : List X) (i : ℕ) (x d : X) → slice_get xs i ≡ Some x →
    get_or xs i d ≡ x
get_or_at [] i x d e = absurd (cc (e))
get_or_at (y ∷ xs) zero x d e = same_Some y x e
get_or_at (y ∷ xs) (suc i) x d e = get_or_at xs i x d e

pub all_at : {X : Type 0} (P : X → Type 0) (xs : List X) (i : ℕ) (x : X) → All P xs →
    slice_get xs i ≡ Some x → P x
all_at P xs i x all e = subst P (get_or_at xs i x x e) (all i x (slice_get_within xs i x e))

-- the shorter of two beginnings of a list begins the longer one
pub prefix_shorter : {X : Type 0} (xs ys zs : List X) → IsPrefix xs zs → IsPrefix ys zs →
    length xs ≤ length ys → IsPrefix xs ys
prefix_shorter [] ys zs p q le = (ys, refl)
prefix_shorter (x ∷ xs) [] zs p q le = absurd (omega arith)
prefix_shorter (x ∷ xs) (y ∷ ys) [] p q le = absurd (cc (p.1))
prefix_shorter (x ∷ xs) (y ∷ ys) (z ∷ zs) p q le =
    let head : x ≡ y = cc (p.1, q.1) in
    let rest = prefix_shorter xs ys zs (p.0, cc (p.1)) (q.0, cc (q.1)) (omega arith) in
    (rest.0, cc (head, rest.1))

-- a beginning is the first items
pub first_items : {X : Type 0} (xs ys : List X) → IsPrefix xs ys → take (length xs) ys ≡ xs
first_items xs ys p =
    ap (take (length xs)) (sym p.1) ∙ take-append-le (length xs) xs p.0 (omega arith)
    ∙ take_all (length xs) xs (omega arith)

pub pos_le : (m n : ℕ) → m ≤ n → pos m ≤ℤ pos n
pos_le m n le = record { le = le→leb m n le }

abbrev pub cut : Journal → List Entry → Journal
cut history entries = record history { entries = entries }

-- up to its end a beginning has the values of the history
values : {X : Type 0} (f : Entry → X) (es more : List Entry) (k : ℕ) (d : X) → k < length es →
    get_or (map f (es ++ more)) k d ≡ get_or (map f es) k d
values f [] more k d within = absurd (omega arith)
values f (e ∷ es) more zero d within = refl
values f (e ∷ es) more (suc k) d within = values f es more k d (omega arith)

pub at_place-cut : {X : Type 0} (opening : X) (f : Entry → X) (es all : List Entry) (k : ℕ) →
    IsPrefix es all → k ≤ length es → at_place opening f all k ≡ at_place opening f es k
at_place-cut opening f es all zero p within = refl
at_place-cut opening f es all (suc k) p within =
    ap (λ (l : List Entry). get_or (map f l) k opening) (sym p.1)
    ∙ values f es p.0 k opening (omega arith)

pub readings_cut : (history : Journal) (es : List Entry) (commands mine : List Taken) →
    IsPrefix es history.entries → IsPrefix mine commands → length mine ≡ length es + 1 →
    AreReadings history commands → AreReadings (cut history es) mine
readings_cut history es commands mine p q long are = record {
  count = long;
  each = λ place t at.
      let within = slice_get_within mine place t at in
      are.each place t (get_first mine commands q place t at)
      ∙ at_place-cut history.opening.reading (λ (e : Entry). e.reading) es history.entries place p
      (omega (arith, within, long));
}

near_cut : (history : Journal) (es : List Entry) (command : ℕ → ℕ) → IsPrefix es history.entries →
    AreNear history command → AreNear (cut history es) command
near_cut history es command p near place within awake =
    let longer = prefix_length es history.entries p in
    near place (omega (arith, within, longer))
    (at_place-cut history.opening.asleep (λ (e : Entry). is_suspend e.cmd) es history.entries place
    p (omega (arith, within)) ∙ awake)

pub honest_cut : (history : Journal) (es : List Entry) (commands mine : List Taken)
    (first second : Answer) → IsPrefix es history.entries → IsPrefix mine commands →
    second.place ≤ length es → IsHonest history commands first second →
    IsHonest (cut history es) mine first second
honest_cut history es commands mine first second p q within honest = record {
  at = honest.at;
  grows = honest.grows;
  command = honest.command;
  one = honest.one;
  two = honest.two;
  commands_read = λ place t at. honest.commands_read place t (get_first mine commands q place t at);
  first_read = honest.first_read;
  second_read = honest.second_read;
  near = near_cut history es honest.command p honest.near;
  close = λ awake. honest.close
      (at_place-cut history.opening.asleep (λ (e : Entry). is_suspend e.cmd) es history.entries
      second.place p within ∙ awake);
}

-- the first items of a list
pub some_first : {X : Type 0} (xs : List X) (n : ℕ) → IsPrefix (take n xs) xs
some_first xs n = (drop n xs, take-append-drop n xs)

-- fewer first items of these are those of the whole
pub fewer_first : {X : Type 0} (xs : List X) (n m : ℕ) → n ≤ m → m ≤ length xs →
    take n (take m xs) ≡ take n xs
fewer_first xs n m le within =
    let short = length-take-le n xs (omega (arith, le, within)) in
    let long = length-take-le m xs within in
    ap (λ (k : ℕ). take k (take m xs)) (sym short)
    ∙ first_items (take n xs) (take m xs)
    (prefix_shorter (take n xs) (take m xs) xs (some_first xs n) (some_first xs m)
    (omega (arith, short, long, le)))
