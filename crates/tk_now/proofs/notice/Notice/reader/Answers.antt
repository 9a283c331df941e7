use Rattle.std.proofs.Common.{rules, ap, ◌∙◌}
use Rattle.tk_now.proofs.Announcing.{hands, idle_of}
use Rattle.tk_now.proofs.notice.Notice.reader.Goals as goal

pub split_seat-seat-requires : goal.split_seat-seat-requires
split_seat-seat-requires g c =
    let idle = idle_of _ c.writer.invariant.0
    (ap (λ p. p.since) c.writer.view_is ∙ c.requires.idle) in
    (search rules, search rules, hands _ _ idle)
