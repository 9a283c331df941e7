-- A stopped counter is honest.
use Rattle.std.proofs.Common.{◌≡◌, ℕ, zero, suc, ◌+◌, ◌%◌, ◌^◌, List, length, Some, slice_get, sym, ap, ◌∙◌, subst, arith, ⊎_elim}
use Rattle.std.proofs.lemmas.List.{length_push}
use Rattle.std.proofs.lemmas.Option.{same_Some, slice_get_within}
use Rattle.tk_clock.specs.Journal.{Journal, Opening, reading_at}
use Rattle.tk_now.specs.declared.rule.Answer.{Answer}
use Rattle.tk_now.specs.declared.rule.Taken.{Taken}
use Rattle.tk_now.specs.Life.{AreReadings}
use Rattle.tk_now.specs.Views.{taken}
use Rattle.tk_now.proofs.Lists.{get_push}
use Rattle.tk_shared.specs.Callers.{IsInformed, Known}
use Rattle.tk_shared.specs.NeverBack.{IsHonest}
use Rattle.tk_shared.specs.Readings.{EndsAtReading}
use Rattle.tk_shared_steered.specs.Readings.{AreAtReadings}
use Rattle.tk_uses.specs.InTurn.{IsTrusted}
use Rattle.tk_uses.specs.Steered.{IsTrustedThroughout}

module _ {C S : Type 0} (n : ℕ) (after : C → ℕ → ℕ → Type 0) (answers : S → ℕ → ℕ → Type 0)
    (counter : S) (opening : Opening) (of_command : (c : C) (m a : ℕ) → after c m a → a ≡ n)
    (of_answer : (m a : ℕ) → answers counter m a → a ≡ n)
    (opened : opening.reading ≡ n % 2 ^ opening.counter.bits) where
  -- each command was at that reading
  commands_at : (history : Journal) (commands : List Taken) → history.opening ≡ opening →
      length history.entries ≡ 1 → AreReadings history commands →
      EndsAtReading after history commands → (place : ℕ) (t : Taken) →
      slice_get commands place ≡ Some t →
      t.reading ≡ n % 2 ^ history.opening.counter.bits
  commands_at history commands same one readings ends place t at =
      let m = 2 ^ history.opening.counter.bits in
      let last = taken ends.from ends.to ends.entry.reading in
      let all = ap length ends.listed ∙ length_push ends.older last in
      let count = readings.count in
      let first = subst (λ (o : Opening). o.reading ≡ n % 2 ^ o.counter.bits) (sym same) opened in
      ⊎_elim
      (λ (old : slice_get ends.older place ≡ Some t).
      let within = slice_get_within ends.older place t old in
      let none : place ≡ 0 = omega (arith, within, all, count, one) in
      readings.each place t at ∙ ap (reading_at history) none ∙ first)
      (λ (new : (place ≡ length ends.older) × (last ≡ t)).
      ap (λ (x : Taken). x.reading) (sym new.1) ∙ ends.read.kept
      ∙ ap (λ (a : ℕ). a % m) (of_command ends.counter ends.from ends.read.answer ends.read.given))
      (get_push ends.older last place t
      (subst (λ (l : List Taken). slice_get l place ≡ Some t) ends.listed at))

  -- the counter is honest for commands at that reading
  honest_at : (history : Journal) (commands : List Taken) (first second : Answer) →
      ((place : ℕ) (t : Taken) → slice_get commands place ≡ Some t →
      t.reading ≡ n % 2 ^ history.opening.counter.bits) →
      answers counter first.taken.from first.taken.reading →
      answers counter second.taken.from second.taken.reading →
      IsHonest history commands first second
  honest_at history commands first second each given given' =
      let m = 2 ^ history.opening.counter.bits in
      record {
        at = λ _. n;
        grows = λ _ _ _. omega arith;
        command = λ _. n;
        one = n;
        two = n;
        commands_read = λ place t at. record {
          read = each place t at;
          from = omega arith;
          to = omega arith;
        };
        first_read = record {
          read = ap (λ (a : ℕ). a % m) (of_answer first.taken.from first.taken.reading given);
          from = omega arith;
          to = omega arith;
        };
        second_read = record {
          read = ap (λ (a : ℕ). a % m) (of_answer second.taken.from second.taken.reading given');
          from = omega arith;
          to = omega arith;
        };
        near = λ place within awake. omega arith;
        close = λ awake. omega arith;
      }

  pub is_trusted : IsTrusted after answers counter opening
  is_trusted history commands first second same one readings order ends given given' life =
      honest_at history commands first second (commands_at history commands same one readings ends)
      given given'

  -- each command was at that reading, however many there are
  all_at : (last : Known) → IsInformed last → last.seen.opening ≡ opening →
      AreAtReadings after last 0 (length last.seen.entries) → (place : ℕ) (t : Taken) →
      slice_get last.noticed.commands place ≡ Some t →
      t.reading ≡ n % 2 ^ last.seen.opening.counter.bits
  all_at last informed same all zero t at =
      informed.readings.each zero t at
      ∙ subst (λ (o : Opening). o.reading ≡ n % 2 ^ o.counter.bits) (sym same) opened
  all_at last informed same all (suc before) t at =
      let commands = last.noticed.commands in
      let within = slice_get_within commands (suc before) t at in
      let count = informed.readings.count in
      let is = all before (omega arith) (omega (arith, within, count)) in
      let this = taken is.from is.to is.entry.reading in
      let next : before + 1 ≡ suc before = omega arith in
      let here : this ≡ t = same_Some this t (sym is.listed ∙ ap (slice_get commands) next ∙ at) in
      ap (λ (x : Taken). x.reading) (sym here)
      ∙ is.read.kept
      ∙ ap (λ (a : ℕ). a % 2 ^ last.seen.opening.counter.bits)
      (of_command is.counter is.from is.read.answer is.read.given)

  pub is_trusted_throughout : IsTrustedThroughout after answers counter opening
  is_trusted_throughout last first second informed same all given given' life =
      honest_at last.seen last.noticed.commands first second (all_at last informed same all) given
      given'
