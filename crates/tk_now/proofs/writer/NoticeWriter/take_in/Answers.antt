use Rattle.std.proofs.Common.{List, rules, refl, sym, ap, ◌∙◌, subst}
use Rattle.tk_now.specs.declared.rule.Taken.{Taken}
use Rattle.tk_now.specs.declared.rule.Answer.{Answer}
use Rattle.tk_now.specs.declared.rule.View.{View}
use Rattle.tk_now.specs.Moments.{AreInLife, AreInOrder}
use Rattle.tk_now.specs.Views.{IsNoting, noted_commands, noted_log}
use mathlib.Core.List.{IsPrefix}
use Rattle.tk_now.proofs.Announcing.{idle_of}
use Rattle.tk_now.proofs.Noting.{notes, compares}
use Rattle.tk_now.proofs.writer.NoticeWriter.take_in.Goals as goal

pub join_seat-requires : goal.join_seat-requires
join_seat-requires g c =
    let idle = idle_of _ c.self.invariant.0 (ap (λ p. p.since) c.self.view_is ∙ c.requires.idle) in (
      search rules,
      search rules,
      c.reader.invariant.1,
      search rules,
      notes _ _ _ _ idle c.reader.invariant.0,
    )

pub load-requires : goal.load-requires
load-requires g c =
    let both = ap (λ m. m.0) c.join_seat.ensures.2 in
    (search rules, search rules, compares _ _ _ (subst IsNoting (sym both) refl))

pub returns-clause-begins : goal.returns-clause-begins
returns-clause-begins g c =
    let both = ap (λ m. m.0) c.join_seat.ensures.2 in
    let e = subst (λ (v : View). IsPrefix (noted_commands v.role) v.commands) both
    c.load.ensures.2.2 in
    subst (λ (t : List Taken × List Taken). IsPrefix t.0 t.1)
    (λ i. (ap (λ p. p.commands) c.reader.view_is i, ap (λ p. p.commands) c.self.view_is i)) e

pub returns-clause-order : goal.returns-clause-order
returns-clause-order g c =
    let both = ap (λ m. m.0) c.join_seat.ensures.2 in
    let e = subst (λ (v : View). AreInOrder v.commands) both c.load.ensures.2.3 in
    subst AreInOrder (ap (λ p. p.commands) c.self.view_is) e

pub returns-clause-log : goal.returns-clause-log
returns-clause-log g c =
    let both = ap (λ m. m.0) c.join_seat.ensures.2 in
    let log = c.load.new.seat.me.0.log in
    let mine = subst (λ (v : View). IsPrefix v.log log) both c.load.ensures.2.4 in
    let noted = subst (λ (v : View). IsPrefix (noted_log v.role) log) both c.load.ensures.2.5 in (
      subst (λ (l : List Answer). IsPrefix l log) (ap (λ p. p.log) c.self.view_is) mine,
      subst (λ (l : List Answer). IsPrefix l log) (ap (λ p. p.log) c.reader.view_is) noted,
    )

pub returns-clause-life : goal.returns-clause-life
returns-clause-life g c =
    let both = ap (λ m. m.0) c.join_seat.ensures.2 in
    let log = c.load.new.seat.me.0.log in
    let e = subst (λ (v : View). AreInLife v.commands log) both c.load.ensures.2.6 in
    subst (λ (l : List Taken). AreInLife l log) (ap (λ p. p.commands) c.self.view_is) e
