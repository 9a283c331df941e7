-- The steps of the writer keep the rule.
use Rattle.std.proofs.Common.{◌≡◌, ℕ, zero, suc, ◌+◌, ◌*◌, ◌<◌, ◌≤◌, List, [], ◌∷◌, ◌++◌, length, drop, get_or, set, refl, sym, ap, ◌∙◌, subst, arith, length-append, get_or-set_other, get_or-set_same}
use Rattle.std.proofs.Math.ListN.{get_or-append}
use Rattle.std.proofs.lemmas.List.{get_or-append-add}
use mathlib.Core.Logic.{dite}
use mathlib.Core.Option.{some, none, some-ne-none, some-injective}
use native.Mathlib.Decide.{ℕ_discrete}
use lib.ListN.{get_elem?}
use Rattle.atomic_table.specs.Table.{step, stepped, keeps, Allows, opening}
use Rattle.tk_clock.specs.Snapshot.{Snapshot}
use Rattle.tk_clock.specs.Words.{words_of, snapshot_of_words}
use Rattle.tk_latch.specs.declared.rule.History.{History}
use Rattle.tk_latch.specs.declared.rule.View.{View}
use Rattle.tk_latch.specs.declared.rule.Role.{Role}
use Rattle.tk_latch.specs.declared.rule.Role.TheVariants.{Making, Copying}
use Rattle.tk_latch.specs.Publications.{latest_words, IsPublication, AreNumbered, IsBeginning, opening_of, pushed, pushed_words, IsNext}
use Rattle.tk_latch.specs.Rule.{started, InCopy0, InCopy1, Copies, Knows, Latched}
use Rattle.tk_latch.specs.Steps.{Seated, opened, found_word, replaced_word, committed, checked_word, copied_word}
use Rattle.tk_latch.specs.Views.{making, copying}
use Rattle.tk_latch.proofs.Publications.{begins_self, latest_words-push, numbered_push}
use Rattle.tk_latch.proofs.Pushing.{get_or-push_old, get_or-push_new, last_set, last_set-push}
use Rattle.tk_latch.proofs.Keeping.{Words, word, writes, known_of, unmoved}

-- the copies and the history of the rule, in the writer's view
copies_at : (s : Words) (r : Latched s) (history : History) (role : Role) → history ≡ r.history →
    r.role ≡ role →
    Copies s.words history.list role
copies_at s r history role same is = subst (λ (t : History × Role). Copies s.words t.0.list t.1)
    (λ i. (sym same i, is i)) r.copies

numbered_at : (s : Words) (r : Latched s) (history : History) → history ≡ r.history →
    AreNumbered history.counter 0 history.list
numbered_at s r history same = subst (λ h. AreNumbered h.counter 0 h.list) (sym same) r.numbered

begins_at : (history other : History) → history ≡ other → IsBeginning other history
begins_at history other same = subst (λ h. IsBeginning h history) same (begins_self history)

-- the view after one more word of copy 0, after another last word of copy 0, after the publication,
-- and after one more word of copy 1
abbrev with_word : ℕ → History → Role → View
with_word x history (Making written) = making history (written ++ x ∷ [])
with_word x history role = record { history = history; role = role }

abbrev with_last : ℕ → History → Role → View
with_last x history (Making written) = making history (last_set x written)
with_last x history role = record { history = history; role = role }

abbrev with_publication : History → Role → View
with_publication history (Making written) = copying (pushed_words history written) 1
with_publication history role = record { history = history; role = role }

abbrev with_copied : History → Role → View
with_copied history (Copying count) = copying history (count + 1)
with_copied history role = record { history = history; role = role }

-- the sequence becomes odd
pub opens : (slots id : ℕ) (me : Seated) (history : History) (odd : ℕ) → me.0 ≡ copying history 10 →
    odd + 1 ≡ 2 * length history.list →
    Allows Latched slots id me 0 (λ _. odd) (λ _. opened (step slots 0 odd 0 none) me odd)
opens slots id me history odd is up s r _ at _ =
    let known = known_of s r id me.0 (copying history 10) at is in
    let wide = r.wide in
    let copies = copies_at s r history (Copying 10) known.1 known.2 in
    let now : get_or (set s.words 0 odd) 0 0 ≡ odd =
    get_or-set_same s.words 0 odd 0 (omega arith) in
    let before = copies.0 in
    let front = length history.list ∷ [] in (
      making history front,
      keeps,
      tt,
      writes s r 0 odd id me.1 history (Making front) known.0 (omega arith)
          (begins_at history r.history known.1) (numbered_at s r history known.1) (
            omega arith,
            omega arith,
            (λ i low l. get_or-set_other s.words 0 (i + 9) odd 0 (λ e. omega arith)
                ∙ copies.3 i low l),
            (λ i low l. absurd (omega arith)),
          )
          (known.0, refl, refl),
      λ history' is'. ap (λ (v : View). making v.history (length v.history.list ∷ []))
          (sym is ∙ is'),
    )

-- a word that goes into copy 0 after the first words of the publication being made keeps the rule
puts_word : (s : Words) (r : Latched s) (id : ℕ) (cs : List (ℕ × Unit {0})) (history : History)
    (before written : List ℕ) (k x : ℕ) →
    Knows (word s 0) r.history r.role r.writer id history (Making before) →
    k ≡ length written → 1 ≤ k → k < 10 → length written ≤ length before →
    ((i : ℕ) → i < length written → get_or before i 0 ≡ get_or written i 0) →
    Latched (stepped s k x id cs (making history (written ++ x ∷ [])) keeps)
puts_word s r id cs history before written k x known place some_there room shorter same =
    let wide = r.wide in
    let copies = copies_at s r history (Making before) known.1 known.2 in
    let still : get_or (set s.words k x) 0 0 ≡ word s 0 =
    get_or-set_other s.words k 0 x 0 (λ e. omega arith) in
    let sequence = copies.0 in
    let long = length-append written (x ∷ []) in
    writes s r k x id cs history (Making (written ++ x ∷ [])) known.0 (omega arith)
    (begins_at history r.history known.1) (numbered_at s r history known.1) (
      omega arith,
      omega (arith, long),
      (λ i low l. get_or-set_other s.words k (i + 9) x 0 (λ e. omega arith) ∙ copies.2 i low l),
      (λ i low l. dite (ℕ_discrete i (length written))
          (λ e. let here : i ≡ k = omega arith in
          ap (λ (z : ℕ). get_or (set s.words k x) z 0) here
          ∙ (get_or-set_same s.words k x 0 (omega arith)
          ∙ sym (get_or-push_new written x i e)))
          (λ other. let h : i < length written = omega (arith, long) in
          get_or-set_other s.words k i x 0 (λ e. other (omega arith))
          ∙ (copies.3 i low (omega arith) ∙ same i h ∙ sym (get_or-push_old written x i h)))),
    )
    (known.0, refl, refl)

-- a word of copy 0 is found
pub finds_word : (slots id : ℕ) (me : Seated) (history : History) (written : List ℕ) (k : ℕ) →
    me.0 ≡ making history written →
    k ≡ length written → 1 ≤ k → k < 10 → Allows Latched slots id me k (λ n. n)
    (found_word (step slots k 0 0 none) me)
finds_word slots id me history written k is place some_there room s r _ at _ = (
  making history (written ++ word s k ∷ []),
  keeps,
  tt,
  puts_word s r id me.1 history written written k (word s k)
      (known_of s r id me.0 (making history written) at is) place some_there room (omega arith)
      (λ i l. refl),
  λ history' written' is'.
      ap (λ (v : View). with_word (word s k) v.history v.role) (sym is ∙ is'),
)

-- the word of copy 0 that was found is replaced
pub replaces_word : (slots id : ℕ) (me : Seated) (history : History) (written : List ℕ)
    (former k x : ℕ) → me.0 ≡ making history (written ++ former ∷ []) →
    k ≡ length written → 1 ≤ k → k < 10 → Allows Latched slots id me k (λ _. x)
    (λ _. replaced_word (step slots k x 0 none) me x)
replaces_word slots id me history written former k x is place some_there room s r _ at _ =
    let long = length-append written (former ∷ []) in (
      making history (written ++ x ∷ []),
      keeps,
      tt,
      puts_word s r id me.1 history (written ++ former ∷ []) written k x
          (known_of s r id me.0 (making history (written ++ former ∷ [])) at is) place some_there room
          (omega (arith, long)) (λ i l. get_or-push_old written former i l),
      λ history' written' former' is'. ap (making history) (sym (last_set-push x written former))
          ∙ ap (λ (v : View). with_last x v.history v.role) (sym is ∙ is')
          ∙ ap (making history') (last_set-push x written' former'),
    )

-- the publication is made
pub commits : (slots id : ℕ) (me : Seated) (history : History) (written : List ℕ) (even : ℕ) →
    me.0 ≡ making history written →
    IsNext history written → even ≡ 2 * length history.list →
    Allows Latched slots id me 0 (λ _. even) (λ _. committed (step slots 0 even 0 none) me even)
commits slots id me history written even is next up s r _ at _ =
    let known = known_of s r id me.0 (making history written) at is in
    let wide = r.wide in
    let copies = copies_at s r history (Making written) known.1 known.2 in
    let now : get_or (set s.words 0 even) 0 0 ≡ even =
    get_or-set_same s.words 0 even 0 (omega arith) in
    let before = copies.0 in
    let latest = snapshot_of_words history.counter written in
    let more = pushed history latest in
    let long = length-append history.list (latest ∷ []) in
    let shown : latest_words more.list ≡ written = latest_words-push history.list latest
    ∙ next.words_again in
    let ten : length written ≡ 10 = ap length (sym next.words_again) in (
      copying more 1,
      keeps,
      tt,
      writes s r 0 even id me.1 more (Copying 1) known.0 (omega arith)
          (subst (λ h. IsBeginning h more) known.1 (refl, (latest ∷ [], refl)))
          (numbered_push history.counter 0 history.list latest (numbered_at s r history known.1)
          (subst (λ (n : ℕ). IsPublication history.counter n latest) (omega arith)
          next.publication)) (
            omega (arith, long),
            omega arith,
            (λ i low l. get_or-set_other s.words 0 i even 0 (λ e. omega arith)
                ∙ (copies.3 i low (omega (arith, ten)) ∙ ap (λ p. get_or p i 0) (sym shown))),
            (λ i low l. absurd (omega arith)),
          )
          (known.0, refl, refl),
      λ history' written' is'. ap (λ (v : View). with_publication v.history v.role) (sym is ∙ is'),
    )

-- a word of the publication goes into copy 1
pub copies_word : (slots id : ℕ) (me : Seated) (history : History) (count i x : ℕ) →
    me.0 ≡ copying history count → i ≡ count + 9 → 1 ≤ count → count < 10 →
    x ≡ get_or (latest_words history.list) count 0 →
    Allows Latched slots id me i (λ _. x) (λ _. copied_word (step slots i x 0 none) me x)
copies_word slots id me history count i x is place some_there room right s r _ at _ =
    let known = known_of s r id me.0 (copying history count) at is in
    let wide = r.wide in
    let copies = copies_at s r history (Copying count) known.1 known.2 in
    let still : get_or (set s.words i x) 0 0 ≡ word s 0 =
    get_or-set_other s.words i 0 x 0 (λ e. omega arith) in
    let before = copies.0 in (
      copying history (count + 1),
      keeps,
      tt,
      writes s r i x id me.1 history (Copying (count + 1)) known.0 (omega arith)
          (begins_at history r.history known.1) (numbered_at s r history known.1) (
            omega arith,
            omega arith,
            (λ j low l. get_or-set_other s.words i j x 0 (λ e. omega arith) ∙ copies.2 j low l),
            (λ j low l. dite (ℕ_discrete j count)
                (λ e. let here : j + 9 ≡ i = omega arith in
                ap (λ (z : ℕ). get_or (set s.words i x) z 0) here
                ∙ (get_or-set_same s.words i x 0 (omega arith)
                ∙ (right ∙ ap (λ (z : ℕ). get_or (latest_words history.list) z 0) (sym e))))
                (λ other. get_or-set_other s.words i (j + 9) x 0 (λ e. other (omega arith))
                ∙ copies.3 j low (omega arith))),
          )
          (known.0, refl, refl),
      λ history' count' is'. ap (λ (v : View). with_copied v.history v.role) (sym is ∙ is'),
    )

-- the number of copied words, and the word of the latest publication after them
abbrev count_of : Role → ℕ
count_of (Copying count) = count
count_of role = 0

abbrev next_word : View → ℕ
next_word v = get_or (latest_words v.history.list) (count_of v.role) 0

-- a word of copy 1 is found
pub checks_word : (slots id : ℕ) (me : Seated) (history : History) (count i : ℕ) →
    me.0 ≡ copying history count → i ≡ count + 9 → 1 ≤ count → count < 10 →
    Allows Latched slots id me i (λ n. n) (checked_word (step slots i 0 0 none) me)
checks_word slots id me history count i is place some_there room s r a at b =
    dite (ℕ_discrete (word s i) (get_or (latest_words history.list) count 0))
    (λ same.
    let copied = copies_word slots id me history count i (word s i) is place some_there room same
    s r a at b in (
      copied.0,
      copied.1,
      copied.2,
      copied.3,
      λ history' count' is'. (
        λ _. copied.4 history' count' is',
        λ other. absurd (other (same ∙ ap next_word (sym is ∙ is'))),
      ),
    ))
    (λ other. let known = known_of s r id me.0 (copying history count) at is in (
      copying history count,
      keeps,
      tt,
      unmoved s r i id me.1 (copying history count) known,
      λ history' count' is'. (
        λ same. absurd (other (same ∙ sym (ap next_word (sym is ∙ is')))),
        λ _. sym is ∙ is',
      ),
    ))

-- a latch that was just opened
pub begins : (words : List ℕ) (snapshot : Snapshot) →
    IsPublication snapshot.base.counter 0 snapshot →
    words ≡ words_of snapshot ++ drop 1 (words_of snapshot) →
    Latched (opening words [] (started snapshot))
begins words snapshot new is =
    holds snapshot.front (drop 1 (words_of snapshot)) refl refl
  where
    one : (seat : ℕ) (view : View) → get_elem? (started snapshot ∷ []) seat ≡ some view →
        Knows 0 (opening_of snapshot) (Copying 10) 0 seat view.history view.role
    one zero view e = subst
        (λ (w : View). Knows 0 (opening_of snapshot) (Copying 10) 0 0 w.history w.role)
        (some-injective _ _ e) (refl, refl, refl)
    one (suc seat) view e = absurd (some-ne-none view (sym e))

    holds : (front : ℕ) (rest : List ℕ) → words_of snapshot ≡ front ∷ rest → length rest ≡ 9 →
        Latched (opening words [] (started snapshot))
    holds front rest same long =
        let none : front ≡ 0 = ap (λ ws. get_or ws 0 0) (sym same) ∙ new.front in
        let all : words ≡ 0 ∷ (rest ++ rest) = is ∙ ap (λ ws. ws ++ drop 1 ws) same
        ∙ ap (λ (n : ℕ). n ∷ (rest ++ rest)) none in
        subst (λ (ws : List ℕ). Latched (opening ws [] (started snapshot))) (sym all) record {
          history = opening_of snapshot;
          role = Copying 10;
          writer = 0;
          wide = let l = length-append rest rest in omega (arith, l);
          numbered = (new, tt);
          copies = (
            refl,
            omega arith,
            first_copy front rest same long,
            second_copy front rest same long,
          );
          each = one;
        }
      where
        first_copy : (front : ℕ) (rest : List ℕ) → words_of snapshot ≡ front ∷ rest →
            length rest ≡ 9 →
            InCopy0 (0 ∷ (rest ++ rest)) 10 (words_of snapshot)
        first_copy front rest same long zero low l = absurd (omega arith)
        first_copy front rest same long (suc i) low l =
            get_or-append rest rest 0 i (omega arith) ∙ ap (λ ws. get_or ws (suc i) 0) (sym same)

        second_copy : (front : ℕ) (rest : List ℕ) → words_of snapshot ≡ front ∷ rest →
            length rest ≡ 9 →
            InCopy1 (0 ∷ (rest ++ rest)) 10 (words_of snapshot)
        second_copy front rest same long zero low l = absurd (omega arith)
        second_copy front rest same long (suc i) low l =
            let here : suc i + 9 ≡ suc (9 + i) = omega arith in
            ap (λ (k : ℕ). get_or (0 ∷ (rest ++ rest)) k 0) here
            ∙ (ap (λ (k : ℕ). get_or (rest ++ rest) (k + i) 0) (sym long)
            ∙ get_or-append-add rest rest i 0)
            ∙ ap (λ ws. get_or ws (suc i) 0) (sym same)
