use Rattle.std.proofs.Common.{rules, refl}
use mathlib.Core.Option.{none, some}
use Rattle.crossbeam_utils.proofs.SeqKeeps.{looks, locks}
use Rattle.tk_page.proofs.cell.hold.Goals as goal

pub load-version-requires : goal.load-version-requires
load-version-requires g c = (search rules, search rules, looks _ _ _ _ _ _)

pub compare_exchange_with-found-requires : goal.compare_exchange_with-found-requires
compare_exchange_with-found-requires g c =
    (search rules, search rules, locks _ _ _ _ _ _ _ _ (some _) (search rules) refl)

pub compare_exchange-found-requires : goal.compare_exchange-found-requires
compare_exchange-found-requires g c =
    (search rules, search rules, locks _ _ _ _ _ _ _ _ none (search rules) refl)
