-- Lists of commands and of answers, and one more of them.
use Rattle.std.proofs.Common.{◌≡◌, ℕ, zero, suc, ◌+◌, ◌<◌, ◌≤◌, ◌⊎◌, List, [], ◌∷◌, ◌++◌, length, Some, slice_get, refl, sym, ap, ◌∙◌, subst, ⊎_elim, inl, inr, arith}
use Rattle.std.proofs.lemmas.Bool.{cases_lt}
use Rattle.std.proofs.lemmas.Option.{same_Some, slice_get_within}
use mathlib.Core.List.{IsPrefix}
use Rattle.tk_now.specs.declared.rule.Taken.{Taken}
use Rattle.tk_now.specs.declared.rule.Answer.{Answer}
use Rattle.tk_now.specs.Moments.{AreBefore, AreAnswered, AreInOrder, AreInLife, AreInTurn, AreLater}

module _ {A : Type 0} where
  pub prefix_push : (xs : List A) (x : A) → IsPrefix xs (xs ++ x ∷ [])
  prefix_push xs x = (x ∷ [], refl)

  -- an item of a list with one more item is an old one or the new one
  pub get_push : (xs : List A) (x : A) (i : ℕ) (y : A) → slice_get (xs ++ x ∷ []) i ≡ Some y →
      (slice_get xs i ≡ Some y) ⊎ ((i ≡ length xs) × (x ≡ y))
  get_push [] x zero y e = inr (refl, same_Some x y e)
  get_push [] x (suc i) y e = absurd (cc (e))
  get_push (z ∷ zs) x zero y e = inl e
  get_push (z ∷ zs) x (suc i) y e =
      ⊎_elim inl (λ (t : (i ≡ length zs) × (x ≡ y)). inr (ap suc t.0, t.1)) (get_push zs x i y e)

  -- an item of a beginning
  get_append : (xs ys : List A) (i : ℕ) (y : A) → slice_get xs i ≡ Some y →
      slice_get (xs ++ ys) i ≡ Some y
  get_append [] ys i y e = absurd (cc (e))
  get_append (x ∷ xs) ys zero y e = e
  get_append (x ∷ xs) ys (suc i) y e = get_append xs ys i y e

  pub get_first : (xs ys : List A) → IsPrefix xs ys → (i : ℕ) (y : A) → slice_get xs i ≡ Some y →
      slice_get ys i ≡ Some y
  get_first xs ys p i y e =
      subst (λ (l : List A). slice_get l i ≡ Some y) p.1 (get_append xs p.0 i y e)

-- there is an item at each place of a list
pub there : {A : Type 0} (xs : List A) (i : ℕ) → i < length xs → (x : A) × (slice_get xs i ≡ Some x)
there [] i l = absurd (omega arith)
there (x ∷ xs) zero l = (x, refl)
there (x ∷ xs) (suc i) l = there xs i (omega arith)

-- no item of a list is after its end
pub none_later : (m : ℕ) (log : List Answer) → AreLater m (length log) log
none_later m log i a at le = let within = slice_get_within log i a at in absurd (omega arith)

-- what is listed after this moment is over after an earlier one too
pub later_more : (from m count : ℕ) (log log' : List Answer) → IsPrefix log log' → from ≤ m →
    AreLater from count log → AreLater m (length log) log' → AreLater from count log'
later_more from m count log log' p le old new i a at past = elim (cases_lt i (length log)) [
  | inl less ↦
      let b = there log i (omega (arith, less)) in
      let same : b.0 ≡ a = same_Some b.0 a (sym (get_first log log' p i b.0 b.1) ∙ at) in
      subst (λ (x : Answer). from < x.taken.to) same (old i b.0 b.1 past)
  | inr no_less ↦ let over = new i a at (omega (arith, no_less)) in omega (arith, over, le)
]

-- one more answer, which is over after this moment
pub later_push : (m : ℕ) (log : List Answer) (b : Answer) → m < b.taken.to →
    AreLater m (length log) (log ++ b ∷ [])
later_push m log b over i a at past =
    ⊎_elim (λ old. let within = slice_get_within log i a old in absurd (omega arith))
    (λ (e : (i ≡ length log) × (b ≡ a)). subst (λ (x : Answer). m < x.taken.to) e.1 over)
    (get_push log b i a at)

pub turn_push : (n m : ℕ) (log : List Answer) (b : Answer) → AreAnswered n m log →
    m < b.taken.to → AreInTurn log → AreInTurn (log ++ b ∷ [])
turn_push n m log b answered over all i j a c less at_a at_c =
    ⊎_elim
    (λ (late : slice_get log j ≡ Some c). ⊎_elim
    (λ (early : slice_get log i ≡ Some a). all i j a c less early late)
    (λ (e : (i ≡ length log) × (b ≡ a)).
    let same = e.0 in let within = slice_get_within log j c late in absurd (omega arith))
    (get_push log b i a at_a))
    (λ (new : (j ≡ length log) × (b ≡ c)). ⊎_elim
    (λ (early : slice_get log i ≡ Some a).
    let low = (answered i a early).1 in
    subst (λ (x : Answer). a.taken.to < x.taken.to) new.1 (omega arith))
    (λ (e : (i ≡ length log) × (b ≡ a)).
    let same = e.0 in let last = new.0 in absurd (omega arith))
    (get_push log b i a at_a))
    (get_push log b j c at_c)

pub before_more : (m m' : ℕ) (commands : List Taken) → m ≤ m' → AreBefore m commands →
    AreBefore m' commands
before_more m m' commands le b place t at =
    let h = b place t at in let l = h.1 in (h.0, omega arith)

pub before_push : (m m' : ℕ) (commands : List Taken) (u : Taken) → m ≤ m' → u.from ≤ u.to → u.to ≤ m' →
    AreBefore m commands → AreBefore m' (commands ++ u ∷ [])
before_push m m' commands u le span over b place t at =
    ⊎_elim (λ old. let h = b place t old in let l = h.1 in (h.0, omega arith))
    (λ (e : (place ≡ length commands) × (u ≡ t)).
    subst (λ (x : Taken). (x.from ≤ x.to) × (x.to ≤ m')) e.1 (span, over))
    (get_push commands u place t at)

pub answered_more : (n n' m m' : ℕ) (log : List Answer) → n ≤ n' → m ≤ m' → AreAnswered n m log →
    AreAnswered n' m' log
answered_more n n' m m' log l k b i a at =
    let h = b i a at in let p = h.0 in let t = h.1 in (omega arith, omega arith)

pub answered_push : (n m : ℕ) (log : List Answer) (b : Answer) → b.place < n → b.taken.to ≤ m →
    AreAnswered n m log → AreAnswered n m (log ++ b ∷ [])
answered_push n m log b place over all i a at =
    ⊎_elim (λ old. all i a old)
    (λ (e : (i ≡ length log) × (b ≡ a)).
    subst (λ (x : Answer). (x.place < n) × (x.taken.to ≤ m)) e.1 (place, over))
    (get_push log b i a at)

-- one more command, announced after all others had their readings
pub ordered_push : (m : ℕ) (commands : List Taken) (x : Taken) → AreBefore m commands →
    m ≤ x.from → AreInOrder commands → AreInOrder (commands ++ x ∷ [])
ordered_push m commands x b le all i j t u less at_i at_j =
    ⊎_elim
    (λ (old : slice_get commands j ≡ Some u). ⊎_elim
    (λ (low : slice_get commands i ≡ Some t). all i j t u less low old)
    (λ (e : (i ≡ length commands) × (x ≡ t)).
    let same = e.0 in let within = slice_get_within commands j u old in absurd (omega arith))
    (get_push commands x i t at_i))
    (λ (new : (j ≡ length commands) × (x ≡ u)). ⊎_elim
    (λ (low : slice_get commands i ≡ Some t).
    let over = (b i t low).1 in
    subst (λ (y : Taken). t.to ≤ y.from) new.1 (omega arith))
    (λ (e : (i ≡ length commands) × (x ≡ t)).
    let same = e.0 in let last = new.0 in absurd (omega arith))
    (get_push commands x i t at_i))
    (get_push commands x j u at_j)

pub life_command : (m : ℕ) (commands : List Taken) (log : List Answer) (x : Taken) →
    AreAnswered (length commands) m log → m ≤ x.from → AreInLife commands log →
    AreInLife (commands ++ x ∷ []) log
life_command m commands log x b le all i place a t at_a at_t =
    ⊎_elim (λ (old : slice_get commands place ≡ Some t). all i place a t at_a old)
    (λ (new : (place ≡ length commands) × (x ≡ t)).
    let h = b i a at_a in
    let count = h.0 in
    let over = h.1 in
    let last = new.0 in (
      (λ later. subst (λ (y : Taken). a.taken.to ≤ y.from) new.1 (omega arith)),
      (λ earlier. absurd (omega arith)),
    ))
    (get_push commands x place t at_t)

-- the first of these answers
pub life_first : (commands : List Taken) (log log' : List Answer) → IsPrefix log log' →
    AreInLife commands log' → AreInLife commands log
life_first commands log log' p all i place a t at_a at_t =
    all i place a t (get_first log log' p i a at_a) at_t

-- one more answer, after the latest command
pub life_answer : (commands : List Taken) (log : List Answer) (b : Answer) →
    AreBefore b.taken.from commands → length commands ≤ b.place + 1 → AreInLife commands log →
    AreInLife commands (log ++ b ∷ [])
life_answer commands log b before latest all i place a t at_a at_t =
    ⊎_elim (λ (old : slice_get log i ≡ Some a). all i place a t old at_t)
    (λ (new : (i ≡ length log) × (b ≡ a)).
    let within = slice_get_within commands place t at_t in
    let over = (before place t at_t).1 in
    subst (λ (y : Answer).
    (y.place < place → y.taken.to ≤ t.from) × (place ≤ y.place → t.to ≤ y.taken.from)) new.1
    ((λ later. absurd (omega arith)), (λ _. over)))
    (get_push log b i a at_a)
