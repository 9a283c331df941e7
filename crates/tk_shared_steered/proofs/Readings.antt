-- The readings of an owner's commands, one after the other.
use Rattle.std.proofs.Common.{◌≡◌, ◌∙◌, sym, ap, subst, ℕ, ◌+◌, List, [], ◌∷◌, ◌++◌, length, inl, inr, arith}
use Rattle.std.specs.Prelude.{slice_get}
use Rattle.std.proofs.lemmas.Bool.{cases_lt}
use Rattle.std.proofs.lemmas.List.{length_push}
use Rattle.tk_clock.specs.declared.command.Command.{Command}
use Rattle.tk_clock.specs.declared.command.Command.TheVariants.{Update}
use Rattle.tk_clock.specs.Journal.{Journal, Opening, opened}
use Rattle.tk_clock.specs.Snapshot.{Snapshot}
use Rattle.tk_clock.proofs.Append.{slice_get-push}
use Rattle.tk_now.specs.declared.rule.Taken.{Taken}
use Rattle.tk_now.specs.Life.{AreReadings}
use Rattle.tk_now.specs.Views.{taken}
use Rattle.tk_now.proofs.Lists.{get_first}
use Rattle.tk_ntp.specs.SteeredClock.{SteeredClock}
use Rattle.tk_shared.specs.Callers.{HasRead, IsAccepted, IsKnownBy, Known, entry_of}
use Rattle.tk_shared.specs.Readings.{EndsAtReading, IsReading}
use Rattle.tk_shared_steered.specs.Given.{IsGiven}
use Rattle.tk_shared_steered.specs.Opened.{IsOpenedAs}
use Rattle.tk_shared_steered.specs.Owner.{IsFollowing, Owner}
use Rattle.tk_shared_steered.specs.Readings.{AreAtReadings, IsAtReading}
use Rattle.tk_shared_steered.proofs.KnownBy.{read_known}

module _ {C : Type 0} (answers : C → ℕ → ℕ → Type 0) where
  -- a caller that knows more
  known_at : (one other : Known) (before : ℕ) → IsKnownBy one other →
      IsAtReading answers one before → IsAtReading answers other before
  known_at one other before known is = record {
    counter = is.counter;
    from = is.from;
    to = is.to;
    entry = is.entry;
    made = get_first one.seen.entries other.seen.entries known.seen.1 before is.entry is.made;
    read = subst (λ (o : Opening).
        IsReading (λ c. answers c is.from) is.counter o.counter is.entry.reading)
        (sym known.seen.0) is.read;
    span = is.span;
    listed = get_first one.noticed.commands other.noticed.commands known.commands (before + 1)
        (taken is.from is.to is.entry.reading) is.listed;
  }

  pub known_since : (one other : Known) (since count : ℕ) → IsKnownBy one other →
      AreAtReadings answers one since count → AreAtReadings answers other since count
  known_since one other since count known all = λ before low high.
      known_at one other before known (all before low high)

  -- the last entry of a history whose commands the caller knows
  last_at : (caller : Known) (before : ℕ) → AreReadings caller.seen caller.noticed.commands →
      length caller.seen.entries ≡ before + 1 →
      EndsAtReading answers caller.seen caller.noticed.commands →
      IsAtReading answers caller before
  last_at caller before readings count ends =
      let last = taken ends.from ends.to ends.entry.reading in
      let entries = ends.before.entries in
      let longer = ap (λ (j : Journal). length j.entries) ends.last
      ∙ length_push entries ends.entry in
      let more = ap length ends.listed ∙ length_push ends.older last in
      let all = readings.count in
      let here : before ≡ length entries = omega (arith, longer, count) in
      let there : before + 1 ≡ length ends.older = omega (arith, more, all, count) in
      record {
        counter = ends.counter;
        from = ends.from;
        to = ends.to;
        entry = ends.entry;
        made = ap (λ (j : Journal). slice_get j.entries before) ends.last
            ∙ ap (slice_get (entries ++ ends.entry ∷ [])) here
            ∙ slice_get-push entries ends.entry;
        read = ends.read;
        span = ends.span;
        listed = ap (λ (l : List Taken). slice_get l (before + 1)) ends.listed
            ∙ ap (slice_get (ends.older ++ last ∷ [])) there
            ∙ slice_get-push ends.older last;
      }

  -- the command was the next entry, and the page was read after it
  pub given_at : (old middle new : Known) (cmd : Command) (number : ℕ) (snapshot : Snapshot) →
      IsAccepted old middle cmd number → HasRead middle new snapshot →
      number ≡ length old.seen.entries + 1 →
      EndsAtReading answers middle.seen middle.noticed.commands →
      IsAtReading answers new (length old.seen.entries)
  given_at old middle new cmd number snapshot a r next ends =
      let all = a.number in
      let before = length old.seen.entries in
      known_at middle new before (read_known middle new snapshot r)
      (last_at middle before a.informed.readings (omega (arith, all, next)) ends)

  -- no entry
  pub none_since : (caller : Known) (since count : ℕ) → since ≡ count →
      AreAtReadings answers caller since count
  none_since caller since count same = λ before low high. absurd (omega (arith, low, high, same))

  -- one entry
  one_since : (caller : Known) (at since count : ℕ) → since ≡ at → count ≡ at + 1 →
      IsAtReading answers caller at → AreAtReadings answers caller since count
  one_since caller at since count first last is = λ before low high.
      let here : at ≡ before = omega (arith, first, last, low, high) in
      subst (λ (n : ℕ). IsAtReading answers caller n) here is

  -- and further entries
  pub further_since : (one other : Known) (since middle count : ℕ) → IsKnownBy one other →
      AreAtReadings answers one since middle → AreAtReadings answers other middle count →
      AreAtReadings answers other since count
  further_since one other since middle count known early late = λ before low high.
      elim (cases_lt before middle) [
        | inl less ↦ known_at one other before known (early before low (omega (arith, less)))
        | inr no_less ↦ late before (omega (arith, no_less)) high
      ]

  -- an owner that follows all that it has seen gave one command
  pub given_since : (cmd : Command) (reading : ℕ) (here old : Owner) (new : Known) (count : ℕ) →
      here ≡ old → IsFollowing old → IsGiven cmd reading here.caller new →
      count ≡ length new.seen.entries →
      IsAtReading answers new (length here.caller.seen.entries) →
      AreAtReadings answers new old.count count
  given_since cmd reading here old new count is following given all at =
      let same = ap (λ (o : Owner). length o.caller.seen.entries) is in
      let longer = ap (λ (j : Journal). length j.entries) given.seen
      ∙ length_push here.caller.seen.entries (entry_of here.caller reading cmd) in
      one_since new (length here.caller.seen.entries) old.count count
      (omega (arith, same, following)) (omega (arith, longer, all)) at

  -- it gave none that it followed
  pub stays_since : (here old : Owner) (new : Known) → here ≡ old →
      AreAtReadings answers new old.count here.count
  stays_since here old new is =
      none_since new old.count here.count (sym (ap (λ (o : Owner). o.count) is))

  -- the first command of clocks that were opened
  pub opened_since : (hz reading : ℕ) (old middle new : Known) (clock : SteeredClock)
      (count : ℕ) → IsOpenedAs hz old new clock → IsGiven Update reading middle new →
      count ≡ length new.seen.entries → IsAtReading answers new (length middle.seen.entries) →
      AreAtReadings answers new 0 count
  opened_since hz reading old middle new clock count is given all at =
      let journal = opened is.counter is.start is.real in
      let first = ap (λ (j : Journal). length j.entries) is.seen
      ∙ length_push journal.entries (entry_of old is.reading Update) in
      let next = ap (λ (j : Journal). length j.entries) given.seen
      ∙ length_push middle.seen.entries (entry_of middle reading Update) in
      one_since new (length middle.seen.entries) 0 count (omega (arith, first, next))
      (omega (arith, next, all)) at
