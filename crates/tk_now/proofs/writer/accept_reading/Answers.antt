use Rattle.std.proofs.Common.{rules}
use Rattle.tk_now.proofs.Announcing.{accepts}
use Rattle.tk_now.proofs.writer.accept_reading.Goals as goal

pub store-requires : goal.store-requires
store-requires g c = (
  search rules,
  search rules,
  accepts _ _ _ _ _ c.requires.announced c.requires.even,
)
