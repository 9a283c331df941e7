-- What a caller knows of the reading of its command.
use Rattle.std.proofs.Common.{◌≡◌, ◌∙◌, refl, sym, ap, subst, ℕ, ◌+◌, ◌<◌, ◌≤◌, List, [], ◌∷◌, length, inl, inr, arith}
use Rattle.std.specs.Prelude.{None}
use Rattle.std.proofs.lemmas.List.{length_push, take_at}
use Rattle.tk_clock.specs.declared.command.Command.{Command}
use Rattle.tk_clock.specs.declared.command.Entry.{Entry}
use Rattle.tk_clock.specs.declared.refusal.Refusal.{Refusal}
use Rattle.tk_clock.specs.Journal.{Journal, Opening, followed_by, last_reading, prefix}
use Rattle.tk_clock.specs.Legal.{IsWhole}
use Rattle.tk_clock.specs.Refusal.{clock_refusal}
use Rattle.tk_clock.specs.Snapshot.{Snapshot}
use Rattle.tk_clock.proofs.Append.{slice_get-push}
use mathlib.Core.List.{IsPrefix}
use Rattle.tk_clock.proofs.Lists.{prefix_length, prefix_self, prefix_whole}
use Rattle.tk_clock.proofs.Stretches.{last_reading-followed_by}
use Rattle.tk_latch.specs.Latch.{Learnt}
use Rattle.tk_now.specs.Views.{Noticed}
use Rattle.tk_page.specs.History.{Begins}
use Rattle.tk_shared.specs.Callers.{HasRead, IsAccepted, IsInformed, IsKnownBy, IsRefused, IsSameCaller, Known, entry_of}
use Rattle.tk_shared.proofs.Informed.{known_by_trans, knows_as_much}
use Rattle.tk_shared_steered.specs.Given.{IsGiven, IsOvertaken}

-- the last entry of a whole history was accepted
pub accepted_last : (journal : Journal) (entry : Entry) → IsWhole (followed_by journal entry) →
    clock_refusal journal entry ≡ None
accepted_last journal entry whole =
    let same : prefix (length journal.entries) (followed_by journal entry) ≡ journal =
    ap (λ (es : List Entry). record journal { entries = es })
    (take_at journal.entries (entry ∷ []) (length journal.entries) refl) in
    ap (λ (j : Journal). clock_refusal j entry) (sym same)
    ∙ whole.accepted (length journal.entries) entry (slice_get-push journal.entries entry)

-- a history that is no longer than the one that it extends is that one
pub same_seen : (one other : Journal) → Begins one other →
    length other.entries ≤ length one.entries → other ≡ one
same_seen one other begins low =
    let entries = sym (prefix_whole one.entries other.entries begins.1 low) in
    let with : Opening → List Entry → Journal = λ o es. record { opening = o; entries = es } in
    ap (λ (o : Opening). with o other.entries) begins.0 ∙ ap (with one.opening) entries

informed_same : (one other : Known) → other.seen ≡ one.seen → other.learnt ≡ one.learnt →
    other.noticed ≡ one.noticed → IsInformed one → IsInformed other
informed_same one other seen learnt noticed h =
    let at : Journal → Learnt → Noticed → Type 0 = λ j l n.
    IsInformed (record other { seen = j; learnt = l; noticed = n }) in
    let there : at one.seen one.learnt one.noticed = record {
      whole = h.whole;
      mark = h.mark;
      snapshots = h.snapshots;
      readings = h.readings;
      order = h.order;
      life = h.life;
      turn = h.turn;
    } in
    subst (λ (j : Journal). at j other.learnt other.noticed) (sym seen)
    (subst (λ (l : Learnt). at one.seen l other.noticed) (sym learnt)
    (subst (λ (n : Noticed). at one.seen one.learnt n) (sym noticed) there))

same_count : (one other : ℕ) → other ≡ one → one ≤ other
same_count one other is = omega (arith, is)

same_log : (one other : Noticed) → other ≡ one → IsPrefix one.log other.log
same_log one other is = subst (λ (n : Noticed). IsPrefix one.log n.log) (sym is) (prefix_self one.log)

-- a read of the page that shows nothing new leaves what a caller knows
shown_known : (old middle new : Known) (snapshot : Snapshot) → IsKnownBy old middle →
    HasRead middle new snapshot → new.seen ≡ middle.seen → IsKnownBy old new
shown_known old middle new snapshot known r seen =
    known_by_trans old middle new known
    (knows_as_much middle new seen r.learnt (ap (λ (n : Noticed). n.commands) r.noticed)
    (same_log middle.noticed new.noticed r.noticed) (same_count middle.folded new.folded r.folded))

-- the command was the next entry, and it was the last one when the page was read
pub given : (old middle new : Known) (cmd : Command) (number : ℕ) (snapshot : Snapshot) →
    IsAccepted old middle cmd number → IsSameCaller old middle → HasRead middle new snapshot →
    number ≡ length old.seen.entries + 1 → length new.seen.entries ≡ number →
    IsGiven cmd snapshot.base.last old new
given old middle new cmd number snapshot a same r next all =
    let entry = entry_of old a.reading cmd in
    let longer = length_push a.before.entries entry in
    let count : length middle.seen.entries ≡ length (followed_by a.before entry).entries =
    ap (λ (j : Journal). length j.entries) a.last in
    let number = a.number in
    let before : a.before ≡ old.seen =
    same_seen old.seen a.before a.extends (omega (arith, count, longer, next, number)) in
    let seen : new.seen ≡ middle.seen =
    same_seen middle.seen new.seen r.extends (omega (arith, all, number)) in
    let is : new.seen ≡ followed_by old.seen entry =
    seen ∙ a.last ∙ ap (λ (j : Journal). followed_by j entry) before in
    let reading : snapshot.base.last ≡ a.reading =
    ap (λ (s : Snapshot). s.base.last) r.answer
    ∙ ap last_reading is
    ∙ last_reading-followed_by old.seen entry in
    record {
      seen = is ∙ ap (λ (at : ℕ). followed_by old.seen (entry_of old at cmd)) (sym reading);
      counted = r.accepted ∙ a.counted;
      informed = informed_same middle new seen r.learnt r.noticed a.informed;
      known = shown_known old middle new snapshot a.known r seen;
      id = r.id ∙ same.0;
    }

-- more than the caller's own entry was accepted
pub overtaken : (old middle new : Known) (cmd : Command) (number : ℕ) (snapshot : Snapshot) →
    IsAccepted old middle cmd number → HasRead middle new snapshot →
    length old.seen.entries + 1 < length new.seen.entries → IsOvertaken cmd old new
overtaken old middle new cmd number snapshot a r more =
    let counted = a.counted in
    let accepted = r.accepted in
    record {
      tried = inr (middle, number, snapshot, a, r);
      more = omega (arith, more);
      others = omega (arith, more, counted, accepted);
    }

-- the caller has seen at least the entries up to its own one
pub seen_all : (old middle new : Known) (cmd : Command) (number : ℕ) (snapshot : Snapshot) →
    IsAccepted old middle cmd number → HasRead middle new snapshot →
    number ≤ length new.seen.entries
seen_all old middle new cmd number snapshot a r =
    let longer = prefix_length middle.seen.entries new.seen.entries r.extends.1 in
    let all = a.number in
    omega (arith, longer, all)

-- the command was refused, and the caller has seen an entry meanwhile
pub overtaken_refused : (old new : Known) (cmd : Command) (refusal : Refusal) →
    IsRefused old new cmd refusal →
    (length new.seen.entries ≡ length old.seen.entries → ⊥) → IsOvertaken cmd old new
overtaken_refused old new cmd refusal h other =
    let longer = prefix_length old.seen.entries new.seen.entries h.extends.1 in
    let counted = h.counted in
    let more : length old.seen.entries < length new.seen.entries = grind (arith, longer, other) in
    record {
      tried = inl (refusal, h);
      more = more;
      others = omega (arith, more, counted);
    }

-- or it has seen none
pub refused_same : (old new : Known) (cmd : Command) (refusal : Refusal) →
    IsRefused old new cmd refusal → length new.seen.entries ≡ length old.seen.entries →
    new.seen ≡ old.seen
refused_same old new cmd refusal h same =
    same_seen old.seen new.seen h.extends (omega (arith, same))
