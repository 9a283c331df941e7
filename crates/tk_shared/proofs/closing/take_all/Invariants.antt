use Rattle.std.proofs.Common.{◌≡◌, ◌+◌, ◌≤◌, List, All, length}
use mathlib.Core.List.{IsPrefix}
use Rattle.tk_now.specs.declared.rule.Answer.{Answer}
use Rattle.tk_now.specs.Moments.{AreInLife, AreInTurn}
use Rattle.std.specs.Vec.Iter.{into_iter_items}
use Rattle.tk_shared.specs.Closing.{HasFolded, HasListed, HasNoticed, IsPartOf, accepted_by}
use Rattle.tk_shared.proofs.closing.take_all.Given as goal

abbrev pub invariant-loop-caller : goal.invariant-loop-caller
invariant-loop-caller g l = record {
  same : (l.writers.page ≡ l.initial.writers.page) × (l.writers.latch ≡ l.initial.writers.latch)
      × (l.writers.notice.notice ≡ l.initial.writers.notice.notice)
      × (l.writers.notice.commands ≡ l.initial.writers.notice.commands)
      × (l.writers.notice.since ≡ l.initial.writers.notice.since)
      × (l.writers.folds ≡ l.initial.writers.folds);
  parts : l.all.parts + length (into_iter_items l.caller-iterator)
      ≡ l.initial.all.parts + length l.fn.callers.items;
  within : l.all.parts ≤ g.L.Ledger.parts;
  amount : l.all.amount + accepted_by (into_iter_items l.caller-iterator)
      ≡ l.initial.all.amount + accepted_by l.fn.callers.items;
  -- if the remaining callers have their parts, all have
  seen : All (IsPartOf l.initial.writers.page.journal) (into_iter_items l.caller-iterator) →
      All (IsPartOf l.initial.writers.page.journal) l.fn.callers.items;
  noticed : All (HasNoticed l.initial.writers.notice.commands) (into_iter_items l.caller-iterator) →
      All (HasNoticed l.initial.writers.notice.commands) l.fn.callers.items;
  folded : All (HasFolded l.fn.folded) (into_iter_items l.caller-iterator) →
      All (HasFolded l.fn.folded) l.fn.callers.items;
  -- the readings of the callers so far are the first that the notice's writer knows. If the callers
  -- that are left know the first of a longer list too, all do
  listed : (log : List Answer) × IsPrefix log l.writers.notice.log
      × AreInLife l.initial.writers.notice.commands log × AreInTurn log
      × ((all : List Answer) → IsPrefix log all →
      All (HasListed all) (into_iter_items l.caller-iterator) → All (HasListed all) l.fn.callers.items);
}
