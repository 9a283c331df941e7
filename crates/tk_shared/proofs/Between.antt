-- The times of two callers of one keeper.
use Rattle.std.proofs.Common.{◌≡◌, ℕ, zero, suc, ◌+◌, ◌%◌, ◌^◌, ◌≤◌, List, [], ◌∷◌, take, sym, ap, ◌∙◌, subst, arith, inl, inr}
use Rattle.std.specs.Prelude.{ℤ, Some, ◌≤ℤ◌, slice_get}
use Rattle.std.proofs.lemmas.Bool.{cases_lt}
use Rattle.std.proofs.lemmas.List.{take_all, length-take-le}
use Rattle.tk_clock.specs.declared.timespec.Timespec.{Timespec}
use Rattle.tk_clock.specs.Journal.{Journal, prefix}
use Rattle.tk_clock.specs.Monotonic.{monotonic}
use Rattle.tk_clock.specs.Time.{nanoseconds}
use Rattle.tk_now.specs.declared.rule.Taken.{Taken}
use Rattle.tk_now.specs.declared.rule.Answer.{Answer}
use Rattle.tk_now.specs.Life.{AreReadings}
use Rattle.tk_now.specs.Moments.{AreInLife, AreInOrder}
use Rattle.tk_now.proofs.Lists.{get_first, there}
use Rattle.tk_shared.specs.Callers.{Known}
use Rattle.tk_shared.specs.NeverBack.{IsHonest, IsOverBefore, NowNeverFalls, OpenNowNeverFalls}
use Rattle.tk_shared.proofs.Back.{never_back}
use Rattle.tk_shared.proofs.Calls.{Answered, closed_within, informed_within, known_within, answered_of}
use Rattle.tk_shared.proofs.Cut.{cut, fewer_first, honest_cut, pos_le, readings_cut, some_first}

-- two answers in their lives
pub life_two : (commands mine : List Taken) (log : List Answer) (first second : Answer) (i j : ℕ) →
    ((k : ℕ) (t : Taken) → slice_get mine k ≡ Some t → slice_get commands k ≡ Some t) →
    slice_get log i ≡ Some first → slice_get log j ≡ Some second → AreInLife commands log →
    AreInLife mine (first ∷ second ∷ [])
life_two commands mine log first second i j more at_i at_j alive zero k c t at_c at_t =
    alive i k c t (at_i ∙ at_c) (more k t at_t)
life_two commands mine log first second i j more at_i at_j alive (suc zero) k c t at_c at_t =
    alive j k c t (at_j ∙ at_c) (more k t at_t)
life_two commands mine log first second i j more at_i at_j alive (suc (suc n)) k c t at_c at_t =
    absurd (cc (at_c))

module _ (history : Journal) (commands : List Taken) (log : List Answer) (old new old' new' : Known)
    (first second : Answer) (time time' : Timespec)
    (a : Answered history commands log old new first time)
    (b : Answered history commands log old' new' second time') (alive : AreInLife commands log) where
  -- the first call was over before the second one's first look
  over_before : IsOverBefore new old' first second → first.taken.to ≤ second.taken.from
  over_before (inl before) = before
  over_before (inr (inr more)) =
      let long = b.long in
      let next = first.place + 1 in
      let t = there b.mine next (omega (arith, long, more)) in
      let at_t = get_first b.mine commands b.known next t.0 t.1 in
      let over = (alive a.position next first t.0 a.listed at_t).0 (omega arith) in
      let mid = b.after next t.0 t.1 in
      let low = mid.0 in
      let high = mid.1 in
      omega (arith, over, low, high)
  over_before (inr (inl mine)) = b.above a.position first
      (get_first new.noticed.log old'.noticed.log mine a.position first a.own)

  -- the first answer follows no later command than the second
  no_later : first.taken.to ≤ second.taken.from → first.place ≤ second.place
  no_later before = elim (cases_lt second.place first.place) [
    | inr no_less ↦ omega (arith, no_less)
    | inl less ↦
        let long = a.long in
        let next = second.place + 1 in
        let t = there a.mine next (omega (arith, long, less)) in
        let at_t = get_first a.mine commands a.known next t.0 t.1 in
        let over = (alive b.position next second t.0 b.listed at_t).0 (omega arith) in
        let mid = a.after next t.0 t.1 in
        let span = a.span in
        let span' = b.span in
        let low = mid.0 in
        let high = mid.1 in
        absurd (omega (arith, over, low, high, span, span', before))
  ]

  in_order : AreReadings history commands → AreInOrder commands →
      IsHonest history commands first second → first.taken.to ≤ second.taken.from →
      nanoseconds time ≤ℤ nanoseconds time'
  in_order readings order honest before =
      let n = first.place in
      let m = second.place in
      let place = no_later before in
      let es = take m history.entries in
      let begins = some_first history.entries m in
      let many = length-take-le m history.entries b.within in
      let now = prefix m history in
      let more : (k : ℕ) (t : Taken) → slice_get b.mine k ≡ Some t → slice_get commands k ≡ Some t =
      λ k t at. get_first b.mine commands b.known k t at in
      let low = never_back now b.mine first second
      (readings_cut history es commands b.mine begins b.known (b.long ∙ ap (λ (k : ℕ). k + 1) (sym many))
      readings)
      (λ i j t u less at_i at_j. order i j t u less (more i t at_i) (more j u at_j))
      (life_two commands b.mine log first second a.position b.position more a.listed b.listed alive)
      (honest_cut history es commands b.mine first second begins b.known (omega (arith, many)) honest)
      before place (sym many) in
      let left : prefix n now ≡ prefix n history =
      ap (cut history) (fewer_first history.entries n m place b.within) in
      let right : prefix m now ≡ now = ap (cut history) (take_all m es (omega (arith, many))) in
      let bits = history.opening.counter.bits in
      let r = first.taken.reading % 2 ^ bits in
      let s = second.taken.reading % 2 ^ bits in
      let stated : monotonic (prefix n history) r ≤ monotonic now s =
      subst (λ (p : Journal × Journal). monotonic p.0 r ≤ monotonic p.1 s)
      (λ i. (left i, right i)) low in
      subst (λ (p : ℤ × ℤ). p.0 ≤ℤ p.1) (λ i. (sym a.value i, sym b.value i)) (pos_le _ _ stated)

pub times_in_order : {S : Type 0} (answers : S → ℕ → ℕ → Type 0) → NowNeverFalls answers
times_in_order answers journal callers closed counter counter' old new old' new' time time' first second call call' is is' over honest =
    let history = closed.history in
    let commands = closed.commands in
    let a = answered_of answers counter history commands closed.log old new time
    (closed_within journal callers closed old new call) first is in
    let b = answered_of answers counter' history commands closed.log old' new' time'
    (closed_within journal callers closed old' new' call') second is' in
    in_order history commands closed.log old new old' new' first second time time' a b closed.alive
    closed.readings closed.order honest
    (over_before history commands closed.log old new old' new' first second time time' a b
    closed.alive over)

pub open_in_order : {S : Type 0} (answers : S → ℕ → ℕ → Type 0) → OpenNowNeverFalls answers
open_in_order answers last informed counter counter' old new old' new' time time' first second known known' is is' over honest =
    let history = last.seen in
    let commands = last.noticed.commands in
    let log = last.noticed.log in
    let all = informed_within last informed in
    let a = answered_of answers counter history commands log old new time
    (known_within history commands log new last known all) first is in
    let b = answered_of answers counter' history commands log old' new' time'
    (known_within history commands log new' last known' all) second is' in
    in_order history commands log old new old' new' first second time time' a b informed.life
    informed.readings informed.order honest
    (over_before history commands log old new old' new' first second time time' a b informed.life
    over)
