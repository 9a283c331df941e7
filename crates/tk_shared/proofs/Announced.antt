-- The commands in the notice, and the history.
use Rattle.std.proofs.Common.{◌≡◌, ℕ, zero, suc, List, [], ◌∷◌, ◌++◌, length, refl, sym, ap, ◌∙◌, arith, ⊎_elim, subst}
use Rattle.std.specs.Prelude.{Option, None, Some, slice_get}
use Rattle.std.proofs.lemmas.List.{length_push}
use Rattle.std.proofs.lemmas.Option.{same_Some, slice_get_within}
use Rattle.atomic_table.specs.Seated.{TableId}
use Rattle.tk_clock.specs.declared.command.Entry.{Entry}
use Rattle.tk_clock.specs.Journal.{Journal, followed_by, at_place}
use Rattle.tk_clock.proofs.Append.{at_place-within, at_place-last}
use Rattle.tk_now.specs.declared.rule.Taken.{Taken}
use Rattle.tk_now.specs.declared.rule.Answer.{Answer}
use Rattle.tk_now.specs.Life.{AreReadings}
use Rattle.tk_now.specs.Moments.{AreInOrder, IsAcceptedAt}
use Rattle.tk_now.specs.Views.{Announcing, opened_notice_writer, taken}
use Rattle.tk_now.proofs.Lists.{get_push}
use Rattle.tk_shared.specs.Locked.{IsAtRest}

-- one more command, which is the entry
pub readings_followed_by : (history : Journal) (commands : List Taken) (entry : Entry) (t : Taken) →
    t.reading ≡ entry.reading → AreReadings history commands →
    AreReadings (followed_by history entry) (commands ++ t ∷ [])
readings_followed_by history commands entry t same are =
    let longer = length_push history.entries entry in
    let more = length_push commands t in
    let count = are.count in
    record {
      count = omega (arith, longer, more, count);
      each = λ place u at. ⊎_elim
          (λ (old : slice_get commands place ≡ Some u).
          let within = slice_get_within commands place u old in
          are.each place u old
          ∙ sym (at_place-within history.opening.reading (λ (e : Entry). e.reading)
          history.entries entry place (omega (arith, within, count))))
          (λ (new : (place ≡ length commands) × (t ≡ u)).
          let here = new.0 in
          ap (λ (x : Taken). x.reading) (sym new.1) ∙ same
          ∙ sym (at_place-last history.opening.reading (λ (e : Entry). e.reading)
          history.entries entry place (omega (arith, here, count))))
          (get_push commands t place u at);
    }

-- one command
only : (t u : Taken) (place : ℕ) → slice_get (t ∷ []) place ≡ Some u → (place ≡ 0) × (t ≡ u)
only t u zero at = (refl, same_Some t u at)
only t u (suc place) at = absurd (cc (at))

-- the notice of a keeper that was just opened
pub opened_at_rest : (notice : TableId) (history : Journal) (notice_writer : Announcing) →
    history.entries ≡ [] → notice_writer ≡ opened_notice_writer notice history.opening.reading →
    IsAtRest notice history notice_writer
opened_at_rest notice history notice_writer empty is =
    let reading = history.opening.reading in
    let none = ap length empty in
    subst (IsAtRest notice history) (sym is)
    (record {
      notice = refl;
      idle = refl;
      readings = record {
        count = omega (arith, none);
        each = λ place t at.
            let one = only (taken 0 0 reading) t place at in
            ap (λ (x : Taken). x.reading) (sym one.1)
            ∙ ap (λ (n : ℕ). at_place reading (λ (e : Entry). e.reading) history.entries n)
            (sym one.0);
      };
      order = λ i j t u less at_i at_j.
          let last = (only (taken 0 0 reading) u j at_j).0 in
          absurd (omega (arith, less, last));
    })

-- the announced command was accepted, and its entry made
pub accepted_at_rest : (notice : TableId) (history : Journal) (notice_writer now : Announcing)
    (entry : Entry) (since : Option ℕ) (reading : ℕ) → IsAtRest notice history notice_writer →
    now.notice ≡ notice_writer.notice → now.since ≡ None → reading ≡ entry.reading →
    IsAcceptedAt since notice_writer.commands reading now.commands → AreInOrder now.commands →
    IsAtRest notice (followed_by history entry) now
accepted_at_rest notice history notice_writer now entry since reading rest same idle read accepted order =
    record {
      notice = same ∙ rest.notice;
      idle = idle;
      readings = subst (AreReadings (followed_by history entry)) (sym accepted.4)
          (readings_followed_by history notice_writer.commands entry
          (taken accepted.0 accepted.1 reading) read rest.readings);
      order = order;
    }

-- the announced command was refused
pub refused_at_rest : (notice : TableId) (history : Journal) (before announced now : Announcing) →
    IsAtRest notice history before → announced.notice ≡ before.notice →
    announced.commands ≡ before.commands → now ≡ record announced { since = None } →
    IsAtRest notice history now
refused_at_rest notice history before announced now rest same commands is =
    subst (IsAtRest notice history) (sym is)
    (record {
      notice = same ∙ rest.notice;
      idle = refl;
      readings = subst (AreReadings history) (sym commands) rest.readings;
      order = subst AreInOrder (sym commands) rest.order;
    })

-- the notice's writer learnt more answers
pub informed_at_rest : (notice : TableId) (history : Journal) (before now : Announcing)
    (log : List Answer) → now ≡ record before { log = log } → IsAtRest notice history before →
    IsAtRest notice history now
informed_at_rest notice history before now log is rest =
    subst (IsAtRest notice history) (sym is)
    (record {
      notice = rest.notice;
      idle = rest.idle;
      readings = rest.readings;
      order = rest.order;
    })
