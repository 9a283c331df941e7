-- Publications, one more publication, and the latest one.
use Rattle.std.proofs.Common.{◌≡◌, ℕ, suc, ◌+◌, ◌-◌, ◌<◌, ◌≤◌, List, [], ◌∷◌, ◌++◌, length, Some, slice_get, refl, ap, sym, ◌∙◌, subst, arith}
use Rattle.std.specs.Prelude.{Option, None, IsSome, IfSome, slice_index}
use Rattle.std.proofs.lemmas.Option.{same_Some}
use Rattle.tk_counter.specs.Counter.{Counter}
use Rattle.tk_clock.specs.Snapshot.{Snapshot}
use Rattle.tk_clock.specs.Words.{words_of, restored, snapshot_of_words}
use Rattle.tk_clock.proofs.Lists.{prefix_self, prefix_trans, prefix_whole}
use Rattle.tk_clock.proofs.Words.{stated-restored, restored-stated}
use Rattle.tk_latch.specs.declared.rule.History.{History}
use Rattle.tk_latch.specs.Publications.{latest_words, IsPublication, AreNumbered, IsBeginning}
use Rattle.tk_latch.specs.Attempt.{AreLatest}

-- the snapshot that words encode is the one that they restore
pub snapshot_is : (counter : Counter) (words : List ℕ) (snapshot : Snapshot) →
    restored counter words ≡ Some snapshot →
    snapshot_of_words counter words ≡ snapshot
snapshot_is counter words snapshot is =
    let kept = stated-restored counter words (subst IsSome (sym is) refl) in
    same_Some (snapshot_of_words counter words) snapshot
    (sym (restored-stated counter words kept.range kept.within) ∙ is)

-- the front and the counter of a snapshot that words restore
pub restored_parts : (counter : Counter) (words : List ℕ) (front : ℕ) →
    slice_index words 0 ≡ front →
    IfSome (restored counter words)
    (λ snapshot. (snapshot.front ≡ front) × (snapshot.base.counter ≡ counter))
restored_parts counter words front is = by (restored counter words) refl
  where
    by : (back : Option Snapshot) → restored counter words ≡ back →
        IfSome back (λ snapshot. (snapshot.front ≡ front) × (snapshot.base.counter ≡ counter))
    by None e = tt
    by (Some snapshot) e =
        let same = sym (snapshot_is counter words snapshot e) in
        (ap (λ s. s.front) same ∙ is, ap (λ s. s.base.counter) same)

pub begins_self : (history : History) → IsBeginning history history
begins_self history = (refl, prefix_self history.list)

pub begins_trans : (a b c : History) → IsBeginning a b → IsBeginning b c → IsBeginning a c
begins_trans a b c p q = (p.0 ∙ q.0, prefix_trans a.list b.list c.list p.1 q.1)

-- a beginning as long as the whole is the whole
pub begins_whole : (a b : History) → IsBeginning a b → length b.list ≤ length a.list → a ≡ b
begins_whole a b p le =
    let same = prefix_whole a.list b.list p.1 le in λ i. record { counter = p.0 i; list = same i }

pub latest_words-push : (list : List Snapshot) (x : Snapshot) →
    latest_words (list ++ x ∷ []) ≡ words_of x
latest_words-push [] x = refl
latest_words-push (y ∷ []) x = refl
latest_words-push (y ∷ z ∷ ys) x = latest_words-push (z ∷ ys) x

-- one publication more, under the next number
pub numbered_push : (c : Counter) (k : ℕ) (list : List Snapshot) (x : Snapshot) →
    AreNumbered c k list →
    IsPublication c (k + length list) x → AreNumbered c k (list ++ x ∷ [])
numbered_push c k [] x all new = (subst (λ (n : ℕ). IsPublication c n x) (omega arith) new, tt)
numbered_push c k (y ∷ ys) x all new = (
  all.0,
  numbered_push c (k + 1) ys x all.1
      (subst (λ (n : ℕ). IsPublication c n x) (omega arith) new),
)

-- the latest publication is the last of the list, has the last number, and its words are the latest
-- words
record IsLatest (c : Counter) (k : ℕ) (list : List Snapshot) : Type 0 where
  snapshot : Snapshot
  listed : slice_get list (length list - 1) ≡ Some snapshot
  shown : latest_words list ≡ words_of snapshot
  publication : IsPublication c (k + (length list - 1)) snapshot

latest_from : (c : Counter) (k : ℕ) (x : Snapshot) (xs : List Snapshot) → AreNumbered c k (x ∷ xs) →
    IsLatest c k (x ∷ xs)
latest_from c k x [] all = record {
  snapshot = x;
  listed = refl;
  shown = refl;
  publication = subst (λ (n : ℕ). IsPublication c n x) (omega arith) all.0;
}
latest_from c k x (y ∷ ys) all =
    let rest = latest_from c (k + 1) y ys all.1 in
    let place : length (x ∷ y ∷ ys) - 1 ≡ suc (length (y ∷ ys) - 1) = omega arith in
    record {
      snapshot = rest.snapshot;
      listed = ap (slice_get (x ∷ y ∷ ys)) place ∙ rest.listed;
      shown = rest.shown;
      publication = subst (λ (n : ℕ). IsPublication c n rest.snapshot)
          (omega arith) rest.publication;
    }

-- the words of the latest publication of a history
pub are_latest : (history : History) → AreNumbered history.counter 0 history.list →
    0 < length history.list →
    AreLatest history (latest_words history.list)
are_latest history all some_there = by history.list refl
  where
    by : (list : List Snapshot) → history.list ≡ list →
        AreLatest history (latest_words history.list)
    by [] is = absurd (omega (arith, ap length is))
    by (x ∷ xs) is =
        let last = latest_from history.counter 0 x xs
        (subst (AreNumbered history.counter 0) is all) in
        let front : last.snapshot.front ≡ length (x ∷ xs) - 1 = last.publication.front
        ∙ omega arith in
        let long = ap length is in
        record {
          snapshot = last.snapshot;
          answer = ap (λ l. restored history.counter (latest_words l)) is
              ∙ ap (restored history.counter) last.shown ∙ last.publication.whole;
          listed = ap (λ l. slice_get l last.snapshot.front) is ∙ ap (slice_get (x ∷ xs)) front
              ∙ last.listed;
          latest = omega (arith, front, long);
        }

-- their front is the number of the latest publication
pub latest_front : (history : History) → AreNumbered history.counter 0 history.list →
    0 < length history.list →
    slice_index (latest_words history.list) 0 + 1 ≡ length history.list
latest_front history all some_there = by history.list refl
  where
    by : (list : List Snapshot) → history.list ≡ list →
        slice_index (latest_words history.list) 0 + 1 ≡ length history.list
    by [] is = absurd (omega (arith, ap length is))
    by (x ∷ xs) is =
        let last = latest_from history.counter 0 x xs
        (subst (AreNumbered history.counter 0) is all) in
        let front : slice_index (latest_words history.list) 0 ≡ last.snapshot.front =
        ap (λ l. slice_index (latest_words l) 0) is ∙ ap (λ ws. slice_index ws 0) last.shown in
        let number = last.publication.front in
        let long = ap length is in
        omega (arith, front, number, long)

-- there are ten of them
pub latest_long : (list : List Snapshot) → 0 < length list → length (latest_words list) ≡ 10
latest_long [] some_there = absurd (omega arith)
latest_long (x ∷ []) some_there = refl
latest_long (x ∷ y ∷ ys) some_there = latest_long (y ∷ ys) (omega arith)
