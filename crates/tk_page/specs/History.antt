-- The knowledge of a publisher or a viewer of a page: a journal that was published, entry by entry.
use Rattle.std.specs.Prelude.{◌≡◌, ℕ, [], length, false, pos, nat_lt, if◌then◌else◌}
use mathlib.Core.List.{IsPrefix}
use Rattle.atomic_table.specs.Seated.{TableId}
use Rattle.tk_clock.specs.Journal.{Journal}
use Rattle.tk_clock.specs.Snapshot.{Snapshot, snapshot_of}

-- the knowledge of the publisher: the page, and all of its journal
pub record History : Type 0 where
  pub page : TableId
  pub journal : Journal

-- the knowledge of a viewer: the page, the number of its reads, and the journal that it has seen
pub record Sight : Type 0 where
  pub page : TableId
  pub reads : ℕ
  pub journal : Journal

-- one journal begins another: both were opened alike, and its entries are the first ones of the
-- other
abbrev pub Begins : Journal → Journal → Type 0
Begins before after = (after.opening ≡ before.opening) × IsPrefix before.entries after.entries

-- the journal without entries that a snapshot describes: no command was accepted, the frequency is
-- 0, and the tick is 10,000 microseconds
abbrev pub opened_by : Snapshot → Journal
opened_by snapshot =
    let base = snapshot.base in
    record {
      opening = record {
        counter = base.counter;
        reading = base.last;
        count = 0;
        amount = base.amount;
        raw_amount = base.raw_amount;
        frequency = pos 0;
        tick = pos 10000;
        real_offset = base.real_offset;
        boot_offset = base.boot_offset;
        tai = base.tai;
        asleep = base.asleep;
      };
      entries = [];
    }

-- the snapshot belongs to a journal without entries
abbrev pub IsOpening : Snapshot → Type 0
IsOpening snapshot = snapshot ≡ snapshot_of (opened_by snapshot)

-- the longer of two journals of a page, or the first one if they are equally long
abbrev pub longer : Journal → Journal → Journal
longer one other =
    record one {
      entries =
          if nat_lt (length one.entries) (length other.entries) then other.entries else one.entries;
    }

-- a placeholder: the journal of a pass that knows no journal
abbrev pub no_journal : Journal
no_journal = opened_by (record {
  front = 0;
  base = record {
    counter = record { bits = 0; mult = 0; shift = 0 };
    last = 0;
    mult = 0;
    amount = 0;
    raw_amount = 0;
    real_offset = pos 0;
    boot_offset = pos 0;
    tai = pos 0;
    asleep = false;
  };
})
