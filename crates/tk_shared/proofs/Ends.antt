-- The facts that hold after all callers are back.
use Rattle.std.proofs.Common.{◌≡◌, ◌≤◌, List, All, length, sym, ◌∙◌}
use mathlib.Core.List.{IsPrefix}
use Rattle.atomic_table.specs.Seated.{TableId}
use Rattle.tk_clock.specs.Snapshot.{Snapshot}
use Rattle.tk_clock.specs.Journal.{Journal}
use Rattle.tk_page.specs.History.{Begins}
use Rattle.tk_latch.specs.Latch.{LatchId}
use Rattle.tk_shared.specs.Callers.{Known, made_by}
use Rattle.tk_now.specs.Views.{Announcing}
use Rattle.tk_shared.specs.Closing.{accepted_by, AreDifferent, HasFolded, HasNoticed, HaveListed, IsPartOf, IsClosed}
use Rattle.tk_shared.specs.History.{AreSnapshots}
use Rattle.tk_shared.specs.Locked.{Held, IsAtRest, IsHeld}
use Rattle.tk_shared.proofs.Counts.{all_counted}
use Rattle.tk_shared.proofs.Kept.{kept_count}
use Rattle.tk_shared.proofs.Snapshots.{snapshots_prefix}

-- a caller's part, as page and latch show it
pub part_of : (history : Journal) (publications : List Snapshot) (caller : Known) →
    AreSnapshots history publications → Begins caller.seen history →
    IsPrefix caller.learnt.publications publications →
    caller.accepted ≤ made_by caller.id caller.seen.entries → IsPartOf history caller
part_of history publications caller are begins learnt own = record {
  begins = begins;
  learnt = snapshots_prefix history caller.learnt.publications publications are learnt;
  own = own;
}

pub closed : (page : TableId) (latch : LatchId) (notice : TableId) (held : Held)
    (notice_writer : Announcing) (callers : List Known) → IsHeld page latch held →
    IsAtRest notice held.shown.journal notice_writer → AreDifferent callers →
    All (IsPartOf held.shown.journal) callers → All (HasNoticed notice_writer.commands) callers →
    HaveListed notice_writer.commands callers →
    All (HasFolded held.kept.opening.count) callers →
    held.total ≡ accepted_by callers → IsClosed held.kept callers
closed page latch notice held notice_writer callers is rest different parts noticed listed folded total =
    let history = held.shown.journal in
    let all : length history.entries ≡ accepted_by callers = sym is.counted ∙ total in
    record {
      history = history;
      whole = is.whole;
      kept = is.kept;
      commands = notice_writer.commands;
      log = listed.log;
      readings = rest.readings;
      order = rest.order;
      alive = listed.alive;
      turn = listed.turn;
      parts = parts;
      noticed = noticed;
      listed = listed.each;
      known = listed.known;
      folded = folded;
      own = all_counted history callers different parts all;
      counted = kept_count history held.kept is.whole is.kept ∙ all;
    }
