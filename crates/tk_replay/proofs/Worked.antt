-- A worked trace, computed from the definitions only: two settings of the frequency, a refused
-- command and a read of a clock between them, and stamps before, between and after.
use Rattle.std.proofs.Common.{◌≡◌, ℕ, List, [], ◌∷◌, codes, get_or, refl, arith, below_more}
use borrow.Author.Count.{below_none}
use Rattle.std.specs.Fmt.{digits}
use Rattle.std.specs.Prelude.{pos, neg_ℤ, None, Ok, IsOk}
use Rattle.tk_counter.specs.Counter.{Counter}
use Rattle.tk_clock.specs.declared.timespec.Timespec.{Timespec}
use Rattle.tk_clock.specs.declared.command.Command.TheVariants.{Freq, Update}
use Rattle.tk_clock.specs.declared.clock_id.ClockId.TheVariants.{Monotonic}
use Rattle.tk_clock.specs.Journal.{Journal, opened}
use Rattle.tk_clock.specs.Limits.{is_bad_setting, is_past_limit, is_well_formed}
use Rattle.tk_keeper.specs.declared.trace_error.TraceError.TheVariants as faults
use Rattle.tk_keeper.specs.Trace.{item_of}
use Rattle.tk_script.specs.declared.opening.Start.TheVariants.{Opened}
use Rattle.tk_script.specs.declared.row.Row.TheVariants.{Act, Look}
use Rattle.tk_script.specs.Grammar.{Parse}
use Rattle.tk_script.specs.Stamps.{Items, items_of}
use Rattle.tk_report.specs.Report.{event}
use Rattle.tk_report.specs.AllRows.{IsJournalOf}
use Rattle.tk_replay.specs.Trace.{IsItemsFault, IsItemsText}

-- one nanosecond per cycle, 32-bit readings
abbrev nanosecond_counter : Counter
nanosecond_counter = record { bits = 32; mult = 16777216; shift = 24 }

abbrev since : Timespec
since = record { sec = pos 1700000000; nsec = 0 }

-- the second row is refused, because its reading is above the mask, and the third one reads a clock
abbrev script : Parse
script = record {
  start = Opened (record { desc = nanosecond_counter; reading = 0; real = since });
  rows = Act 0 (Freq (pos 65536000)) ∷ Act 4294967296 Update ∷ Look 7 Monotonic None
      ∷ Act 1000000000 (Freq (neg_ℤ (pos 32768000))) ∷ [];
}

-- the other two rows are the entries of its journal
abbrev steered : Journal
steered = record (opened nanosecond_counter 0 since) {
  entries = event 0 (Freq (pos 65536000))
      ∷ event 1000000000 (Freq (neg_ℤ (pos 32768000))) ∷ [];
}

left : IsJournalOf (Ok script) steered
unfolding is_well_formed is_past_limit is_bad_setting
left = refl

-- stamps from the opening, after one command, and after both
abbrev stamps : Items
stamps = items_of ((0, 1000000000) ∷ (1, 1000000000) ∷ (2, 1000000001) ∷ [])

abbrev values : List ℕ
values = 1000000000 ∷ 1000499963 ∷ 1000499964 ∷ []

abbrev HasValue : ℕ → Type 0
HasValue k = item_of steered Monotonic stamps.fronts stamps.stamps k ≡ Ok (pos (get_or values k 0))

all_items : IsItemsText Monotonic steered stamps (codes "1000000000\n1000499963\n1000499964\n")
unfolding digits
all_items =
    let first = below_more HasValue 0 (below_none HasValue) refl in
    (values, (refl, below_more HasValue 2 (below_more HasValue 1 first refl) refl), refl)

-- the text of no stamps is empty
nothing : IsItemsText Monotonic steered (items_of []) []
nothing = ([], (refl, λ k below. absurd (omega arith)), refl)

-- one more stamp, with a front that the journal has not reached
abbrev further : Items
further = items_of ((0, 1000000000) ∷ (1, 1000000000) ∷ (2, 1000000001) ∷ (3, 0) ∷ [])

abbrev Passed : ℕ → Type 0
Passed k = IsOk (item_of steered Monotonic further.fronts further.stamps k)

yet_to_come : IsItemsFault Monotonic steered further (faults.Unknown 3)
yet_to_come =
    let first = below_more Passed 0 (below_none Passed) refl in
    let earlier = below_more Passed 2 (below_more Passed 1 first refl) refl in
    (3, record { within = omega arith; fault = refl; before = earlier })
