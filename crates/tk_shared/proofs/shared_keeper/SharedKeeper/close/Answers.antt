use Rattle.std.proofs.Common.{◌≡◌, ℕ, ◌≤◌, All, rules, arith, subst}
use Rattle.std.specs.Prelude.{vec_len}
use Rattle.tk_shared.specs.Closing.{HasFolded, accepted_by}
use Rattle.tk_shared.specs.Locked.{held_of}
use Rattle.tk_shared.proofs.Ends.{closed}
use Rattle.tk_shared.proofs.shared_keeper.SharedKeeper.close.Goals as goal

pub returns : goal.returns
returns g c =
    let inside = c.keeper.inside in
    let held = held_of inside.keeper.journal inside.writers.page inside.writers.latch inside.mask
    inside.book.total in
    let enough : c.args.self ≤ vec_len c.args.callers = search rules in
    let here : c.take_all.new.all.parts ≡ g.L.Ledger.parts = search rules in
    let counted = c.audit.ensures.whole here in
    let none = c.keeper.invariant.2 in
    let joined = c.take_all.ensures.amount in
    let total : inside.book.total ≡ accepted_by c.args.callers.items =
    omega (arith, counted, none, joined) in
    let folded = subst (λ (n : ℕ). All (HasFolded n) c.args.callers.items) c.folded-folded.ensures
    c.take_all.ensures.folded in (
      enough,
      closed g.L.Named.page g.L.Named.latch g.L.Named.notice.commands held inside.writers.notice
          c.args.callers.items c.keeper.invariant.0 c.keeper.invariant.3 c.requires.different
          c.take_all.ensures.seen c.take_all.ensures.noticed c.take_all.ensures.listed
          folded total,
      c.keeper.invariant.5,
    )
