-- Seconds that begin late add entries at the reading of the call.
use Rattle.std.proofs.Common.{◌≡◌, ◌∙◌, ap, refl, sym, ℕ, true, [], ◌++◌, List, Option, Some, None}
use Rattle.std.specs.Prelude.{⊤, Result, Ok, Err, MatchOption, if◌then◌else◌}
use Rattle.std.specs.List.{All}
use Rattle.std.proofs.lemmas.List.{append_assoc, append-nil}
use Rattle.std.proofs.lemmas.List.Elements.{All-append, All-cons, All-nil}
use Rattle.tk_clock.specs.declared.command.Command.{Command}
use Rattle.tk_clock.specs.declared.command.Entry.{Entry}
use Rattle.tk_clock.specs.declared.refusal.Refusal.{Refusal}
use Rattle.tk_clock.specs.Journal.{Journal}
use Rattle.tk_clock.specs.Refusal.{state_refusal}
use Rattle.tk_clock.specs.State.{State}
use Rattle.tk_keeper.specs.Keeper.{Keeper}
use Rattle.tk_keeper.specs.Room.{HasAdded, HasRoom, IsShort, keeper_state}
use Rattle.tk_ntp.specs.declared.leap.Leap.{Leap}
use Rattle.tk_ntp.specs.Advance.{leap_of_clock, leapt}
use Rattle.tk_ntp.specs.Change.{frequency_command, tick_command}
use Rattle.tk_ntp.specs.Course.{Course, seen}
use Rattle.tk_ntp.specs.Entries.{entries_of_second, made_of, rate_entries, second_entries, unless, with_second}
use Rattle.tk_ntp.specs.Keeping.{Begins, HasArrivedOr, HasBegun, Still}
use Rattle.tk_ntp.specs.Leap.{is_leap}
use Rattle.tk_ntp.specs.Second.{leap_at}
use Rattle.tk_ntp.specs.Steering.{commands}
use Rattle.tk_ntp.specs.SteeredClock.{SteeredClock, given_any, rate_in_force, reading_refusal}
use Rattle.tk_steered.specs.Kept.{IsAdvancedTo, IsContinuedAt, SteeredKeeper, steered_of}

module _ (who reading : ℕ) where
  abbrev pub IsTheirs : Entry → Type 0
  IsTheirs entry = (entry.who ≡ who) × (entry.reading ≡ reading)

  continued-self : (journal : Journal) → IsContinuedAt who reading journal journal
  continued-self journal = record {
    opening = refl;
    added = [];
    entries = sym (append-nil journal.entries);
    each = All-nil IsTheirs;
  }

  joined : (a b c : Journal) → IsContinuedAt who reading a b → IsContinuedAt who reading b c →
      IsContinuedAt who reading a c
  joined a b c h k = record {
    opening = k.opening ∙ h.opening;
    added = h.added ++ k.added;
    entries = k.entries ∙ ap (λ es. es ++ k.added) h.entries
        ∙ append_assoc a.entries h.added k.added;
    each = All-append IsTheirs h.added k.added h.each k.each;
  }

  continued-added : (a b : Keeper) (added : List Entry) → HasAdded a added b → All IsTheirs added →
      IsContinuedAt who reading a.journal b.journal
  continued-added a b added h each = record {
    opening = ap (λ (j : Journal). j.opening) h.journal;
    added = added;
    entries = ap (λ (j : Journal). j.entries) h.journal;
    each = each;
  }

  theirs-unless : (cmd : Command) (refusal : Option Refusal) →
      All IsTheirs (unless refusal (record { who = who; reading = reading; cmd = cmd }))
  theirs-unless cmd None =
      All-cons IsTheirs (record { who = who; reading = reading; cmd = cmd }) [] (refl, refl)
      (All-nil IsTheirs)
  theirs-unless cmd (Some refusal) = All-nil IsTheirs

  theirs : (cmd : Option Command) (clock : State) → All IsTheirs (made_of who reading cmd clock)
  theirs None clock = All-nil IsTheirs
  theirs (Some cmd) clock = theirs-unless cmd (state_refusal clock reading cmd)

  theirs-rate : (steered : SteeredClock) → All IsTheirs (rate_entries who reading steered)
  theirs-rate steered =
      let clock = steered.clock in
      let change = commands clock.base.counter (rate_in_force clock) steered.steering in
      let tick = tick_command change in
      let frequency = frequency_command change in
      let next = given_any reading tick clock in
      All-append IsTheirs (made_of who reading tick clock) (made_of who reading frequency next)
      (theirs tick clock) (theirs frequency next)

  pub theirs-second : (leap : Leap) (begun : SteeredClock) →
      All IsTheirs (entries_of_second who reading leap begun)
  theirs-second leap begun =
      let cmd = if is_leap leap then Some (leap_of_clock leap begun.clock) else None in
      All-append IsTheirs (made_of who reading cmd begun.clock)
      (rate_entries who reading (leapt reading leap begun)) (theirs cmd begun.clock)
      (theirs-rate (leapt reading leap begun))

  continued-by : (a : Keeper) (before : Course) (b : Keeper) (after : Course) →
      HasBegun keeper_state HasAdded HasRoom IsShort true who reading a before b after →
      IsContinuedAt who reading a.journal b.journal
  continued-by start from end to (Still a course) = continued-self a.journal
  continued-by start from last to
      (Begins a ready b end before middle after at due room is given rest) =
      joined a.journal b.journal end.journal
      (joined a.journal ready.journal b.journal
      (continued-added a ready [] room.kept (All-nil IsTheirs))
      (continued-added ready b
      (second_entries true who reading at (seen (keeper_state a) before)) given
      (theirs-second (leap_at before.steering.ntp before.next)
      (with_second true reading at (seen (keeper_state a) before)))))
      (continued-by b middle end after rest)

  arrived-by : (refused : Option Refusal) (a : Keeper) (before : Course)
      (result : Result ⊤ Refusal) (b : Keeper) (after : Course) →
      MatchOption refused
      (HasArrivedOr keeper_state HasAdded HasRoom IsShort true who reading a before result b after)
      (λ r. (result ≡ Err r) × (b ≡ a) × (after ≡ before)) →
      IsContinuedAt who reading a.journal b.journal
  arrived-by None a before (Ok done) b after h = continued-by a before b after h.begun
  arrived-by None a before (Err refusal) b after h =
      joined a.journal h.last.journal b.journal
      (continued-by a before h.last after h.begun)
      (continued-added h.last b [] h.unready.kept (All-nil IsTheirs))
  arrived-by (Some r) a before result b after h =
      rw (h.1) (continued-self a.journal)

  pub continued : (before after : SteeredKeeper) (result : Result ⊤ Refusal) →
      IsAdvancedTo true who reading before result after →
      IsContinuedAt who reading before.keeper.journal after.keeper.journal
  continued before after result =
      arrived-by (reading_refusal reading (steered_of before)) before.keeper before.course result
      after.keeper after.course
