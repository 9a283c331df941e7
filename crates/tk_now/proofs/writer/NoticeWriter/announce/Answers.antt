use Rattle.std.proofs.Common.{rules, ap, ◌∙◌}
use Rattle.tk_now.proofs.Announcing.{announces, idle_of}
use Rattle.tk_now.proofs.writer.NoticeWriter.announce.Goals as goal

pub store-requires : goal.store-requires
store-requires g c =
    let idle = idle_of _ c.self.invariant.0 (ap (λ p. p.since) c.self.view_is ∙ c.requires.idle) in
    (search rules, search rules, announces _ _ _ _ idle (search rules))
