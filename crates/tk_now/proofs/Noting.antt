-- The writer may take in a reader's knowledge, and compare it with all commands: both keep the
-- rule.
use Rattle.std.proofs.Common.{ℕ, List, [], refl, sym, ◌∙◌, subst}
use mathlib.Core.List.{IsPrefix}
use mathlib.Core.Option.{none}
use Rattle.atomic_table.specs.Table.{step, keeps, Allows, Joins, Splits}
use Rattle.atomic_table.proofs.Lists.{set_else}
use Rattle.tk_clock.proofs.Lists.{prefix_self}
use Rattle.tk_now.specs.declared.rule.Taken.{Taken}
use Rattle.tk_now.specs.declared.rule.View.{View}
use Rattle.tk_now.specs.declared.rule.Role.TheVariants.{Resting, Idle, Noting}
use Rattle.tk_now.specs.Moments.{AreInOrder, AreInLife}
use Rattle.tk_now.specs.Rule.{Kept}
use Rattle.tk_now.specs.Steps.{Seated, compared, recounted}
use Rattle.tk_now.specs.Views.{view_of, noting, spent, found_by, noted_commands, noted_log, IsIdle, IsResting, IsNoting}
use Rattle.tk_now.proofs.Keeping.{known_of, reseated, parted, loads_as}

-- the writer takes in a reader's knowledge
pub notes : (id : ℕ) (view : View) (other : ℕ) (reader : View) → IsIdle view →
    IsResting reader → Joins Kept id view other reader (noting view reader) spent
notes id view other reader is there s r at apart from =
    let known = known_of s r id view Idle at is in
    let w = noting view reader in
    let here = sym (set_else s.views id other w apart) ∙ from in
    let begins = known_of s r other reader (Resting (found_by reader.role)) here there in
    let noted = reseated s r id w (known.0, known.1, known.2, begins.0, begins.1, known.3) in
    reseated _ noted other spent tt

-- the writer compares its note with all commands and answers
pub compares : (slots id : ℕ) (me : Seated) → IsNoting me.0 →
    Allows Kept slots id me 0 (λ n. n) (compared (step slots 0 0 0 none) me)
compares slots id me is s r _ at _ =
    let noted = noted_commands me.0.role in
    let answers = noted_log me.0.role in
    let known = known_of s r id me.0 (Noting noted answers) at is in
    let v = view_of me.0.commands r.log Idle in (
      v,
      keeps,
      tt,
      loads_as s r id me.1 v (known.0, known.1, known.2, prefix_self r.log),
      (
        refl,
        refl,
        subst (IsPrefix noted) (sym known.1) known.3,
        subst (AreInOrder) (sym known.1) r.ordered,
        known.5,
        known.4,
        subst (λ (l : List Taken). AreInLife l r.log) (sym known.1) r.alive,
        r.turn,
      ),
    )

-- the writer compares its note, and then notes all commands and answers
pub recounts : (slots id : ℕ) (me : Seated) → IsNoting me.0 →
    Allows Kept slots id me 0 (λ n. n) (recounted (step slots 0 0 0 none) me)
recounts slots id me is s r _ at _ =
    let noted = noted_commands me.0.role in
    let answers = noted_log me.0.role in
    let known = known_of s r id me.0 (Noting noted answers) at is in
    let mine = me.0.commands in
    let v = view_of mine r.log (Noting mine r.log) in (
      v,
      keeps,
      tt,
      loads_as s r id me.1 v (
        known.0,
        known.1,
        known.2,
        subst (IsPrefix mine) known.1 (prefix_self mine),
        prefix_self r.log,
        prefix_self r.log,
      ),
      (
        refl,
        refl,
        refl,
        subst (IsPrefix noted) (sym known.1) known.3,
        known.4,
        subst (AreInOrder) (sym known.1) r.ordered,
        subst (λ (l : List Taken). AreInLife l r.log) (sym known.1) r.alive,
        known.5,
        r.turn,
      ),
    )

-- the writer gives its note to a reader
pub returns : (id : ℕ) (view : View) → IsNoting view →
    Splits Kept id view (view_of view.commands view.log Idle)
    (view_of view.commands (noted_log view.role) (Resting []))
returns id view is s r at =
    let known = known_of s r id view (Noting (noted_commands view.role) (noted_log view.role)) at is
    in
    let left = view_of view.commands view.log Idle in
    let right = view_of view.commands (noted_log view.role) (Resting []) in
    parted s r id left right (known.0, known.1, known.2, known.5)
    (λ seat. (subst (IsPrefix view.commands) known.1 (prefix_self view.commands), known.4))
