use Rattle.std.proofs.Common.{◌≡◌, ◌≤◌, ◌∙◌, sym, ap, subst, refl}
use Rattle.std.specs.Prelude.{None}
use Rattle.tk_clock.specs.State.{ReadBase, State}
use Rattle.tk_clock.specs.Running.{IsRunning, IsRated}
use Rattle.tk_clock.specs.ChangeCounter.{base_over, rate_refusal}
use Rattle.tk_clock.proofs.ChangeCounter.{IsRunning-over, passes-rate}
use Rattle.tk_clock.proofs.Steering.{multiplier_some}
use Rattle.tk_clock.proofs.Values.{running_words}
use Rattle.tk_clock.proofs.clock.Clock.carried_over.Goals as goal

pub carried_over-base-requires-clause-some : goal.carried_over-base-requires-clause-some
carried_over-base-requires-clause-some c =
    let words = running_words c.self.invariant in
    let same = rw (words.0, words.1) at c.mult_at-mult.ensures.value in
    subst (λ m. 1 ≤ m) (sym same)
    (multiplier_some c.args.desc c.self.inside.frequency c.self.inside.tick
    c.requires.counter.mult_low c.self.invariant.tick_low)

pub invariant_of-result : goal.invariant_of-result
invariant_of-result c =
    let clock = c.self.inside in
    let words = running_words c.self.invariant in
    let same = c.carried_over-base.ensures in
    let mult = rw (words.0, words.1) at c.mult_at-mult.ensures.value in
    let rated = subst IsRated same (c.if-not-is_rated.ensures.0 refl) in
    rw (words.0, words.1)
    (subst (λ (b : ReadBase). IsRunning b clock.frequency clock.tick) (sym same)
    (IsRunning-over clock.base clock.frequency clock.tick c.args.desc c.args.first
    c.mult_at-mult.result c.self.invariant mult rated))

pub returns : goal.returns
returns c =
    let clock = c.self.inside in
    let words = running_words c.self.invariant in
    let mult = rw (words.0, words.1) at c.mult_at-mult.ensures.value in
    let same = c.carried_over-base.ensures
    ∙ ap (λ m. base_over clock.base c.args.desc c.args.first m) mult in
    let put : ReadBase → State = λ b. record {
      base = b;
      frequency = clock.frequency;
      tick = clock.tick;
    } in
    rw (← c.self.view_is, words.0, words.1) (
      subst (λ (b : ReadBase). rate_refusal b ≡ None) same
          (passes-rate c.carried_over-base.result (c.if-not-is_rated.ensures.0 refl)),
      ap put same,
    )
