use Rattle.std.proofs.Common.{◌∙◌, ap, sym, ℕ, nat_eq}
use Rattle.tk_clock.specs.Snapshot.{Snapshot}
use Rattle.tk_ntp.specs.SteeredClock.{SteeredClock}
use Rattle.tk_ntp.proofs.Consistent.{consistent_asleep}
use Rattle.tk_ntp.proofs.steered_clock.SteeredClock.is_consistent.Goals as goal

pub returns-then-asleep : goal.returns-then-asleep
returns-then-asleep c =
    let s = c.args.self.now in
    let now = c.snapshot-now.ensures in
    consistent_asleep s (nat_eq c.last_account-last_account.result c.last.result)
    (sym (ap (λ (a : Snapshot). a.base.asleep) now) ∙ sym c.asleep.ensures ∙ c.if-asleep.true)
    (ap (λ (m : ℕ). nat_eq m c.last.result)
    (c.last_account-last_account.ensures ∙ ap (λ (a : SteeredClock). a.last_account) c.self.view_is)
    ∙ ap (nat_eq s.last_account) (c.last.ensures ∙ ap (λ (a : Snapshot). a.base.last) now))
