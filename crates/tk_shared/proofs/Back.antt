-- No answer is below one that was over before its call began.
use Rattle.std.proofs.Common.{List, [], ◌∷◌, ◌≡◌, ℕ, zero, suc, ◌%◌, ◌^◌, ◌≤◌, Bool, true, false, length, Some, slice_get, refl, sym, ap, ◌∙◌, subst, arith, inl, inr}
use Rattle.std.specs.Prelude.{nat_lt, if◌then◌else◌}
use Rattle.std.proofs.lemmas.Bool.{cases_lt, le-ltb}
use Rattle.std.proofs.lemmas.List.{take_all}
use Rattle.std.proofs.lemmas.Option.{same_Some}
use Rattle.std.proofs.Math.Nat.{mul-le-mul_right}
use Rattle.std.proofs.Math.Pow.{shr_mono}
use Rattle.tk_counter.specs.Counter.{Counter, gap, half}
use Rattle.tk_clock.specs.declared.command.Entry.{Entry}
use Rattle.tk_clock.specs.Journal.{Journal, prefix, is_asleep, is_asleep_at, last_reading, reading_at}
use Rattle.tk_clock.specs.Monotonic.{monotonic, current_multiplier, cycles_since}
use Rattle.tk_clock.proofs.Monotone.{never_falls}
use Rattle.tk_now.proofs.Honesty.{in_order}
use Rattle.tk_now.proofs.Life.{in_life, true_gap}
use Rattle.tk_now.proofs.Lists.{there}
use Rattle.tk_now.specs.declared.rule.Taken.{Taken}
use Rattle.tk_now.specs.declared.rule.Answer.{Answer}
use Rattle.tk_now.specs.Honest.{IsTrueCount, AreTrueCounts, masked}
use Rattle.tk_now.specs.Life.{AreReadings}
use Rattle.tk_now.specs.Moments.{AreInLife, AreInOrder}
use Rattle.tk_shared.specs.NeverBack.{IsHonest}

at_most : (b : Bool) (x y : ℕ) → x ≤ y → (if b then 0 else x) ≤ y
at_most true x y low = omega arith
at_most false x y low = low

-- a later reading counts no fewer cycles
since_more : (counter : Counter) (asleep : Bool) (last reading later : ℕ) →
    (asleep ≡ false →
    (gap counter last reading ≤ gap counter last later) × (gap counter last later ≤ half counter)) →
    cycles_since counter asleep last reading ≤ cycles_since counter asleep last later
since_more counter true last reading later near = omega arith
since_more counter false last reading later near =
    let le = near refl in
    let low = at_most (nat_lt (half counter) (gap counter last reading)) _ _ le.0 in
    let all : cycles_since counter false last later ≡ gap counter last later =
    ap (λ (b : Bool). if b then 0 else gap counter last later)
    (le-ltb (half counter) (gap counter last later) le.1) in
    omega (arith, low, all)

-- a later reading after the same entries
same_place : (history : Journal) (reading later : ℕ) →
    (is_asleep history ≡ false →
    (gap history.opening.counter (last_reading history) reading
    ≤ gap history.opening.counter (last_reading history) later)
    × (gap history.opening.counter (last_reading history) later ≤ half history.opening.counter)) →
    monotonic history reading ≤ monotonic history later
same_place history reading later near =
    let more = since_more history.opening.counter (is_asleep history) (last_reading history) reading
    later near in
    let units = mul-le-mul_right (current_multiplier history) more in
    shr_mono history.opening.counter.shift (omega (arith, units))

whole : (history : Journal) (n : ℕ) → n ≡ length history.entries → prefix n history ≡ history
whole history n all =
    ap (λ (es : List Entry). record history { entries = es })
    (take_all n history.entries (omega (arith, all)))

-- MONOTONIC of an answer, in nanoseconds, by a history of which the answer's place is an entry
abbrev pub monotonic_of : Journal → Answer → ℕ
monotonic_of history a =
    monotonic (prefix a.place history) (a.taken.reading % 2 ^ history.opening.counter.bits)

-- the counts of two answers
abbrev count_of : ℕ → ℕ → ℕ → ℕ
count_of one two zero = one
count_of one two (suc i) = two

counts_of : (history : Journal) (commands : List Taken) (a b : Answer)
    (honest : IsHonest history commands a b) →
    AreTrueCounts honest.at honest.command (count_of honest.one honest.two)
    history.opening.counter.bits commands (a ∷ b ∷ [])
counts_of history commands a b honest =
    record {
      grows = honest.grows;
      commands_read = honest.commands_read;
      answers_read = each;
    }
  where
    bits : ℕ
    bits = history.opening.counter.bits

    each : (i : ℕ) (c : Answer) → slice_get (a ∷ b ∷ []) i ≡ Some c →
        IsTrueCount honest.at bits (masked bits c.taken) (count_of honest.one honest.two i)
    each zero c at = subst
        (λ (x : Answer). IsTrueCount honest.at bits (masked bits x.taken) honest.one)
        (same_Some a c at) honest.first_read
    each (suc zero) c at = subst
        (λ (x : Answer). IsTrueCount honest.at bits (masked bits x.taken) honest.two)
        (same_Some b c at) honest.second_read
    each (suc (suc n)) c at = absurd (cc (at))

-- two answers, of which the second follows the last entry
pub never_back : (history : Journal) (commands : List Taken) (a b : Answer) →
    AreReadings history commands → AreInOrder commands → AreInLife commands (a ∷ b ∷ []) →
    IsHonest history commands a b → a.taken.to ≤ b.taken.from → a.place ≤ b.place →
    b.place ≡ length history.entries → monotonic_of history a ≤ monotonic_of history b
never_back history commands a b readings order alive honest before place last =
    let counter = history.opening.counter in
    let command = honest.command in
    let answer = count_of honest.one honest.two in
    let exact = counts_of history commands a b honest in
    let m = 2 ^ counter.bits in
    let r = a.taken.reading % m in
    let s = b.taken.reading % m in
    let end : prefix b.place history ≡ history = whole history b.place last in
    elim (cases_lt a.place (length history.entries)) [
      | inl less ↦ subst (λ (h : Journal). monotonic_of history a ≤ monotonic h s) (sym end)
          ((in_life history honest.at command answer commands (a ∷ b ∷ []) readings order alive
          exact honest.near (never_falls history) 0 a refl less).1 s)
      | inr no_less ↦
          let here : a.place ≡ length history.entries = omega (arith, no_less, place, last) in
          let count = readings.count in
          let t = there commands b.place (omega (arith, count, last)) in
          let counts = in_order honest.at command answer counter.bits commands (a ∷ b ∷ []) order
          alive exact in
          let low = counts.after 0 b.place a t.0 refl t.1 (omega (arith, here, last)) in
          let rise = counts.answers_rise 0 1 a b refl refl before in
          let base : last_reading history ≡ command b.place % m =
          ap (λ (n : ℕ). reading_at history n) (sym last) ∙ sym (readings.each b.place t.0 t.1)
          ∙ (honest.commands_read b.place t.0 t.1).read in
          subst (λ (p : Journal × Journal). monotonic p.0 r ≤ monotonic p.1 s)
          (λ k. (sym (whole history a.place here) k, sym end k))
          (same_place history r s (λ awake.
          let half_way = honest.close (ap (is_asleep_at history) last ∙ awake) in
          let long = true_gap counter (command b.place) honest.two (last_reading history) s base
          honest.second_read.read (omega (arith, low, rise)) half_way in
          let short = true_gap counter (command b.place) honest.one (last_reading history) r base
          honest.first_read.read low (omega (arith, low, rise, half_way)) in
          (omega (arith, long, short, rise), omega (arith, long, half_way))))
    ]
