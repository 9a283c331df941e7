-- The steps of a reader keep the rule, and the result of a whole read.
use Rattle.std.proofs.Common.{◌≡◌, ℕ, ◌+◌, ◌*◌, ◌/◌, ◌%◌, ◌<◌, ◌≤◌, List, [], ◌∷◌, ◌++◌, length, slice_get, Some, get_or, set, refl, sym, ap, ◌∙◌, subst, arith, append_assoc, length-set, get_or-set_other, get_or-set_same}
use Rattle.std.proofs.lemmas.List.{ext_get_or}
use Rattle.std.proofs.lemmas.Option.{same_Some}
use mathlib.Core.Logic.{dite}
use mathlib.Core.Option.{none}
use native.Mathlib.Decide.{ℕ_discrete}
use Rattle.atomic_table.specs.Table.{step, keeps, Allows}
use Rattle.atomic_table.specs.Seated.{TableId}
use Rattle.tk_clock.specs.Snapshot.{Snapshot}
use Rattle.tk_clock.specs.Words.{restored}
use Rattle.tk_clock.proofs.Lists.{prefix_length}
use Rattle.tk_latch.specs.declared.rule.History.{History}
use Rattle.tk_latch.specs.declared.rule.View.{View}
use Rattle.tk_latch.specs.declared.rule.Role.{Role}
use Rattle.tk_latch.specs.declared.rule.Role.TheVariants.{Spent, Resting, Reading, Making, Copying, Noting}
use Rattle.tk_latch.specs.Latch.{Learnt, IsRead}
use Rattle.tk_latch.specs.Publications.{latest_words, AreNumbered, IsBeginning}
use Rattle.tk_latch.specs.Rule.{Copies, Counts, Latched}
use Rattle.tk_latch.specs.Steps.{Seated, began, loaded, ended}
use Rattle.tk_latch.specs.Views.{resting, reading, found_by}
use Rattle.tk_latch.specs.Attempt.{Gathered, AreLatest, IsAttempt}
use Rattle.tk_latch.proofs.Publications.{snapshot_is, begins_self, begins_trans, begins_whole, are_latest, latest_front, latest_long}
use Rattle.tk_latch.proofs.Keeping.{word, history_of, known_of, unmoved, counted}

-- the copy that the sequence names is the latest publication
named : (words : List ℕ) (list : List Snapshot) (role : Role) → Copies words list role → (n i : ℕ) →
    n ≡ get_or words 0 0 → 1 ≤ i → i < 10 →
    get_or words (i + 9 * (n % 2)) 0 ≡ get_or (latest_words list) i 0
named words list Spent c n i here low l = absurd c
named words list (Resting found) c n i here low l = absurd c
named words list (Reading found first now) c n i here low l = absurd c
named words list (Making written) c n i here low l =
    let h = c.0 in let odd : i + 9 * (n % 2) ≡ i + 9 = omega arith in
    ap (λ (k : ℕ). get_or words k 0) odd ∙ c.2 i low l
named words list (Copying count) c n i here low l =
    let h = c.0 in let even : i + 9 * (n % 2) ≡ i = omega arith in
    ap (λ (k : ℕ). get_or words k 0) even ∙ c.2 i low l
named words list (Noting note) c n i here low l = absurd c

-- a reader that knows the number of all publications knows all of them
all_known : (known history : History) (first n : ℕ) → IsBeginning known history →
    Counts known.list first → Counts history.list n → n ≡ first →
    known ≡ history
all_known known history first n begins mine theirs same =
    begins_whole known history begins
    (let a = mine.0 in let b = mine.1 in let c = theirs.0 in let d = theirs.1 in omega arith)

abbrev found_of : View → List ℕ
found_of view = found_by view.role

abbrev first_by : Role → ℕ
first_by (Reading found first now) = first
first_by _ = 0

abbrev now_by : Role → ℕ
now_by (Reading found first now) = now
now_by _ = 0

-- equal views of a read have equal parts
parts : {known known' : History} {before before' : List ℕ} {first first' now now' : ℕ} →
    reading known before first now ≡ reading known' before' first' now' →
    ◌≡◌ {A = History × List ℕ × ℕ × ℕ}
    (known, before, first, now) (known', before', first', now')
parts same i = (
  ap history_of same i,
  ap found_of same i,
  ap (λ (v : View). first_by v.role) same i,
  ap (λ (v : View). now_by v.role) same i,
)

-- a read begins
pub reads_begin : (slots id : ℕ) (me : Seated) (known : History) (before : List ℕ) →
    me.0 ≡ resting known before →
    Allows Latched slots id me 0 (λ n. n) (began (step slots 0 0 0 none) me)
reads_begin slots id me known before is s r _ at _ =
    let begins = known_of s r id me.0 (resting known before) at is in
    let n = word s 0 in
    let counts = counted s.words r.history.list r.role r.copies in
    let w = reading r.history (before ++ n ∷ []) n n in (
      w,
      keeps,
      tt,
      unmoved s r 0 id me.1 w (begins_self r.history, counts, omega arith, omega arith),
      (
        refl,
        refl,
        λ known' before' is'. let same = sym is ∙ is' in (
          r.history,
          ap (λ f. reading r.history (f ++ n ∷ []) n n) (ap found_of same),
          subst
              (λ h. IsBeginning h r.history) (ap history_of same) begins,
          counts,
          r.numbered,
        ),
      ),
    )

-- a word is loaded
pub reads_word : (slots id : ℕ) (me : Seated) (known : History) (before : List ℕ)
    (first last k : ℕ) → me.0 ≡ reading known before first last →
    Allows Latched slots id me k (λ n. n) (loaded (step slots k 0 0 none) me)
reads_word slots id me known before first last k is s r _ at _ =
    let held = known_of s r id me.0 (reading known before first last) at is in
    let n = word s 0 in
    let counts = counted s.words r.history.list r.role r.copies in
    let below = held.2 in
    let above = held.3 in
    let w = reading known before first n in
    let found : (now : ℕ) × (w ≡ reading known before first now) × (last ≤ now)
    × (now ≤ first → (i : ℕ) → 1 ≤ i → i < 10 → k ≡ i + 9 * (first % 2) →
    word s k ≡ get_or (latest_words known.list) i 0) = (
      n,
      refl,
      above,
      λ still i low inside place.
          let here : n ≡ first = omega arith in
          let all = all_known known r.history first n held.0 held.1 counts here in
          ap (λ (z : ℕ). word s z) place ∙ named s.words r.history.list r.role r.copies first i
          (sym here) low inside
          ∙ ap (λ h. get_or (latest_words h.list) i 0) (sym all),
    ) in (
      w,
      keeps,
      tt,
      unmoved s r k id me.1 w (held.0, held.1, omega arith, omega arith),
      (
        refl,
        λ known' before' first' last' is'. let same = sym is ∙ is' in
            subst (λ (t : History × List ℕ × ℕ × ℕ). (now : ℕ) × (w ≡ reading t.0 t.1 t.2 now)
            × (t.3 ≤ now)
            × (now ≤ t.2 → (i : ℕ) → 1 ≤ i → i < 10 → k ≡ i + 9 * (t.2 % 2) →
            word s k ≡ get_or (latest_words t.0.list) i 0))
            (parts same) found,
      ),
    )

-- a read ends
pub reads_end : (slots id : ℕ) (me : Seated) (known : History) (before : List ℕ) (first last : ℕ) →
    me.0 ≡ reading known before first last →
    Allows Latched slots id me 0 (λ n. n) (ended (step slots 0 0 0 none) me)
reads_end slots id me known before first last is s r _ at _ =
    let held = known_of s r id me.0 (reading known before first last) at is in
    let n = word s 0 in
    let counts = counted s.words r.history.list r.role r.copies in
    let below = held.2 in
    let above = held.3 in
    let w = resting r.history (before ++ n ∷ []) in
    let found : (later : History) × (w ≡ resting later (before ++ n ∷ [])) × IsBeginning known later
    × Counts later.list n × (last ≤ n)
    × (first ≤ n) × (n ≡ first → later ≡ known) = (
      r.history,
      refl,
      held.0,
      counts,
      above,
      omega arith,
      λ here. sym
          (all_known known r.history first n held.0 held.1 counts here),
    ) in (
      w,
      keeps,
      tt,
      unmoved s r 0 id me.1 w (begins_self r.history),
      (
        refl,
        refl,
        λ known' before' first' last' is'. let same = sym is ∙ is' in
            subst (λ (t : History × List ℕ × ℕ × ℕ). (later : History)
            × (w ≡ resting later (t.1 ++ n ∷ [])) × IsBeginning t.0 later
            × Counts later.list n × (t.3 ≤ n) × (t.2 ≤ n) × (n ≡ t.2 → later ≡ t.0))
            (parts same) found,
      ),
    )

-- one more word was loaded
pub gathers_one : (begun : View) (first : ℕ) (words : List ℕ) (old new : View) (i x : ℕ) →
    (g : Gathered begun first words old i) →
    (now : ℕ) → new ≡ reading begun.history (found_by begun.role) first now → g.0 ≤ now → 1 ≤ i →
    i < 10 →
    (now ≤ first → x ≡ get_or (latest_words begun.history.list) i 0) →
    Gathered begun first (set words i x) new (i + 1)
gathers_one begun first words old new i x g now is later low inside right =
    let up = g.2 in
    let long = g.3 in (
      now,
      is,
      omega arith,
      length-set words i x ∙ long,
      get_or-set_other words i 0 x 0 (λ e. omega arith) ∙ g.4,
      λ still j some_low l. dite (ℕ_discrete j i)
          (λ e. ap (λ (z : ℕ). get_or (set words i x) z 0) e
          ∙ (get_or-set_same words i x 0 (omega arith)
          ∙ (right still ∙ ap (λ (z : ℕ). get_or (latest_words begun.history.list) z 0)
          (sym e))))
          (λ other. get_or-set_other words i j x 0 other
          ∙ g.5 (omega arith) j some_low (omega arith)),
    )

-- word 0 is the front of the latest publication, and the other words were loaded
all_words : (known : History) (first : ℕ) (words : List ℕ) →
    AreNumbered known.counter 0 known.list → Counts known.list first →
    get_or words 0 0 ≡ first / 2 →
    ((i : ℕ) → 1 ≤ i → i < 10 → get_or words i 0 ≡ get_or (latest_words known.list) i 0) →
    (i : ℕ) → i < 10 → get_or words i 0 ≡ get_or (latest_words known.list) i 0
all_words known first words numbered counts front others i inside =
    dite (ℕ_discrete i 0)
    (λ none.
    let some_there : 0 < length known.list = (let h = counts.1 in omega arith) in
    let number = latest_front known numbered some_there in
    let low = counts.0 in
    let high = counts.1 in
    let same : get_or words 0 0 ≡ get_or (latest_words known.list) 0 0 = omega arith in
    ap (λ (z : ℕ). get_or words z 0) none ∙ same
    ∙ ap (λ (z : ℕ). get_or (latest_words known.list) z 0) (sym none))
    (λ some. others i (omega arith) inside)

-- the facts that the first and the second load of the sequence showed
abbrev pub Begun : View → View → ℕ → Type 0
Begun old begun first =
    (later : History) × (begun ≡ reading later (found_by old.role ++ first ∷ []) first first)
    × IsBeginning old.history later
    × Counts later.list first × AreNumbered later.counter 0 later.list

abbrev pub Finishes : View → View → ℕ → Type 0
Finishes view new last =
    (known : History) (before : List ℕ) (first now : ℕ) → view ≡ reading known before first now →
    (later : History) × (new ≡ resting later (before ++ last ∷ [])) × IsBeginning known later
    × Counts later.list last × (now ≤ last)
    × (first ≤ last) × (last ≡ first → later ≡ known)

-- a whole read
pub attempts : (old begun view new : View) (first last : ℕ) (words : List ℕ) → Begun old begun first →
    Gathered begun first words view 10 →
    Finishes view new last → IsAttempt old new first words last
attempts old begun view new first last words b g finish =
    let known = b.0 in
    let here : begun.history ≡ known = ap history_of b.1 in
    let e = finish begun.history (found_by begun.role) first g.0 g.1 in
    let now : new.history ≡ e.0 = ap history_of e.1 in
    let more = begins_trans old.history known e.0 b.2 (subst (λ h. IsBeginning h e.0) here e.2) in
    let count = b.3.0 in
    let no_less = prefix_length old.history.list known.list b.2.1 in
    let listed : found_by new.role ≡ found_by begun.role ++ last ∷ [] = ap found_of e.1 in
    let before : found_by begun.role ≡ found_by old.role ++ first ∷ [] = ap found_of b.1 in
    let some_there : 0 < length known.list = (let h = b.3.1 in omega arith) in
    let latest = are_latest known b.4 some_there in
    record {
      reader = e.1 ∙ ap (λ (t : History × List ℕ). resting t.0 t.1)
          (λ i. (sym now i, sym listed i));
      found = listed ∙ (ap (λ (f : List ℕ). f ++ last ∷ []) before
          ∙ append_assoc (found_by old.role) (first ∷ []) (last ∷ []));
      extends = subst (IsBeginning old.history) (sym now) more;
      counts = subst (λ h. Counts h.list last) (sym now) e.3;
      order = e.5;
      from = omega arith;
      whole = λ same.
          let still : g.0 ≤ first = (let h = e.4 in omega arith) in
          let after : known ≡ new.history = sym here ∙ (sym (e.6 (sym same)) ∙ sym now) in
          let shown = ap (λ h. latest_words h.list) here in
          let long : length words ≡ length (latest_words begun.history.list) = g.3
          ∙ sym (ap length shown ∙ latest_long known.list some_there) in
          let words_are : words ≡ latest_words known.list =
          ext_get_or 0 words (latest_words known.list) (long ∙ ap length shown)
          (λ i l. all_words known first words b.4 b.3 g.4
          (λ j low inside. g.5 still j low inside ∙ ap (λ ws. get_or ws j 0) shown)
          i (let h = g.3 in omega arith)) in
          subst (λ h. AreLatest h words) after (subst (AreLatest known) (sym words_are) latest);
    }

-- the knowledge of a reader by its view
abbrev pub learnt_of : TableId → View → Learnt
learnt_of table view = record {
  latch = record { table = table; counter = view.history.counter };
  publications = view.history.list;
  found = found_of view;
}

-- a read that found one sequence twice
pub whole_read : (table : TableId) (old : Learnt) (before after : View) (first last : ℕ)
    (words : List ℕ) (snapshot : Snapshot) →
    IsAttempt before after first words last → first ≡ last → old.publications ≡ before.history.list →
    old.found ≡ found_of before →
    restored after.history.counter words ≡ Some snapshot →
    IsRead old (learnt_of table after) snapshot
whole_read table old before after first last words snapshot attempt same publications found back =
    let latest = attempt.whole same in
    let is : latest.snapshot ≡ snapshot = same_Some latest.snapshot snapshot
    (sym latest.answer ∙ back) in
    let number : snapshot.front + 1 ≡ length after.history.list =
    subst (λ (s : Snapshot). s.front + 1 ≡ length after.history.list) is latest.latest in
    let long = ap length publications in
    let count = attempt.counts in
    let low = count.0 in
    let high = count.1 in
    let from = attempt.from in
    record {
      whole =
          subst (λ (s : Snapshot). slice_get after.history.list s.front ≡ Some s) is latest.listed;
      counter = ap (λ (s : Snapshot). s.base.counter)
          (sym (snapshot_is after.history.counter words snapshot back));
      mark = omega (arith, number);
      newer = omega (arith, number, long, low, high, from, same);
      sequence = first;
      found = attempt.found ∙ ap (λ (f : List ℕ). f ++ first ∷ last ∷ []) (sym found)
          ∙ ap (λ (n : ℕ). old.found ++ first ∷ n ∷ []) (sym same);
      half = omega (arith, number, low, high, same);
    }
