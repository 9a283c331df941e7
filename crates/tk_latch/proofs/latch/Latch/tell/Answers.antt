use Rattle.std.proofs.Common.{◌*◌, length, rules, sym, ap, ◌∙◌, subst, List}
use mathlib.Core.List.{IsPrefix}
use Rattle.atomic_table.specs.Seated.{TableId}
use Rattle.tk_clock.specs.Snapshot.{Snapshot}
use Rattle.tk_latch.specs.declared.rule.History.{History}
use Rattle.tk_latch.specs.Latch.{Published}
use Rattle.tk_latch.specs.Views.{copying}
use Rattle.tk_latch.proofs.Seats.{hands, notes, compares}
use Rattle.tk_latch.proofs.latch.Latch.tell.Goals as goal

pub split_seat-given-requires : goal.split_seat-given-requires
split_seat-given-requires g c = (search rules, search rules, hands _ _ _ c.writer.invariant.0)

pub join_seat-requires : goal.join_seat-requires
join_seat-requires g c =
    let kept = ap (λ m. m.0) c.split_seat-given.ensures.2 in
    let seen = ap (λ s. s.me.0) c.replace-former.ensures.value in
    let none = ap (λ s. s.me.1) c.replace-former.ensures.value in (
      search rules,
      search rules,
      none ∙ c.reader.invariant.1,
      search rules,
      notes _ _ _ _ _ _ _ (kept ∙ c.writer.invariant.0) (seen ∙ c.reader.invariant.0),
    )

pub load-requires : goal.load-requires
load-requires g c =
    let both = ap (λ m. m.0) c.join_seat.ensures.2 in
    (search rules, search rules, compares _ _ _ _ _ both)

pub invariant_of-writer : goal.invariant_of-writer
invariant_of-writer g c =
    let both = ap (λ m. m.0) c.join_seat.ensures.2 in
    let kept = ap (λ m. m.0) c.split_seat-given.ensures.2 in
    let now = (c.load.ensures.2 _ _ both).0 in
    let same = ap (λ v. v.history) now ∙ ap (λ v. v.history) kept in (
      now ∙ ap (λ h. copying h 10) (sym (ap (λ v. v.history) now)),
      c.writer.invariant.1 ∙ ap (λ (h : History). 2 * length h.list) (sym same),
    )

pub returns-clause-writer : goal.returns-clause-writer
returns-clause-writer g c =
    let both = ap (λ m. m.0) c.join_seat.ensures.2 in
    let kept = ap (λ m. m.0) c.split_seat-given.ensures.2 in
    let same = ap (λ v. v.history) (c.load.ensures.2 _ _ both).0 ∙ ap (λ v. v.history) kept in
    let table = c.load.ensures.0 ∙ c.join_seat.ensures.0 ∙ c.split_seat-given.ensures.0 in
    let P : TableId × History → Published =
    λ t. record {
      latch = record { table = t.0; counter = t.1.counter };
      publications =
          t.1.list;
    } in
    ap P (λ i. (table i, same i)) ∙ c.writer.view_is

pub returns-clause-extends : goal.returns-clause-extends
returns-clause-extends g c =
    let both = ap (λ m. m.0) c.join_seat.ensures.2 in
    let kept = ap (λ v. v.history.list) (ap (λ m. m.0) c.split_seat-given.ensures.2)
    ∙ ap (λ p. p.publications) c.writer.view_is in
    let seen = ap (λ s. s.me.0.history.list) c.replace-former.ensures.value
    ∙ ap (λ p. p.publications) c.reader.view_is in
    subst (λ (t : List Snapshot × List Snapshot). IsPrefix t.0 t.1) (λ i. (seen i, kept i))
    (c.load.ensures.2 _ _ both).1.1
