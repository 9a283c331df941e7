use Rattle.std.proofs.Common.{rules, ap, sym, subst, IsSome}
use Rattle.tk_now.proofs.Announcing.{withdraws, announced_of}
use Rattle.tk_now.proofs.writer.NoticeWriter.withdraw.Goals as goal

pub store-requires : goal.store-requires
store-requires g c =
    let some = subst IsSome (sym (ap (λ p. p.since) c.self.view_is)) c.requires.announced in (
      search rules,
      search rules,
      withdraws _ _ _ _ (announced_of _ c.self.invariant.0 some) (search rules),
    )
