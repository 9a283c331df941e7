use Rattle.std.proofs.Common.{ℕ, ◌%◌, ◌^◌, sym, ap, ◌∙◌}
use Rattle.tk_counter.specs.Counter.{Counter}
use Rattle.tk_clock.specs.Journal.{Journal}
use Rattle.tk_uses.proofs.in_turn.prepared.Goals as goal

pub returns-in-Ok : goal.returns-in-Ok
returns-in-Ok g c =
    let n : ℕ = 1000000 in
    let is = c.in-Ok.ensures.answer.2 in
    let read = c.in-Ok.ensures.reading in
    let described = ap (λ (j : Journal). j.opening.counter) is.opened in
    record {
      opened = read.kept
          ∙ (ap (λ (a : ℕ). a % 2 ^ c.in_ok-desc.desc.bits) read.given
          ∙ ap (λ (d : Counter). n % 2 ^ d.bits) (sym described));
    }
