use Rattle.std.proofs.Common.{rules}
use Rattle.crossbeam_utils.proofs.SeqKeeps.{splits}
use Rattle.tk_page.proofs.cell.split.Goals as goal

pub split_seat-requires : goal.split_seat-requires
split_seat-requires g c = (search rules, search rules, splits _ _ _ _ _ _ _ c.requires.rule)
