use Rattle.std.proofs.Common.{◌≡◌, ◌∙◌, ◌+◌, ◌*◌, sym, ap, refl, ℕ, List, Bool, true, false}
use Rattle.std.specs.Prelude.{if◌then◌else◌}
use mir.Val.{bool_byte}
use Rattle.tk_clock.proofs.Words.{parts, words_of-parts, restored-words}
use Rattle.tk_clock.proofs.read_base.ReadBase.words.Goals as goal

bit_of : (b : Bool) → bool_byte b ≡ (if b then 1 else 0)
bit_of true = refl
bit_of false = refl

pub returns-clause-value : goal.returns-clause-value
returns-clause-value c =
    let base = c.self.inside in
    let put : ℕ → ℕ → List ℕ = λ mult word.
    parts c.args.front base.last mult base.monotonic base.raw base.real_offset base.boot_offset word
    in
    let word = ap (λ t. t * 2 + c.from-3.result) c.from-2.ensures
    ∙ ap (λ b. base.tai * 2 + b) (c.from-3.ensures ∙ bit_of base.asleep) in
    rw (← c.self.view_is)
    (ap (λ m. put m (c.from-2.result * 2 + c.from-3.result)) c.from.ensures
    ∙ ap (put base.mult) word
    ∙ sym (words_of-parts base.desc c.args.front base.last base.mult base.monotonic base.raw
    base.real_offset base.boot_offset
    base.tai base.asleep c.self.invariant.frac_low c.self.invariant.raw_frac_low))

pub returns-clause-back : goal.returns-clause-back
returns-clause-back c =
    let base = c.self.inside in
    rw (← c.self.view_is)
    (restored-words base.desc c.args.front base.last base.mult base.monotonic base.raw
    base.real_offset base.boot_offset base.tai base.asleep
    c.self.invariant)
