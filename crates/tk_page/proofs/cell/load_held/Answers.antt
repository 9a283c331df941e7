use Rattle.std.proofs.Common.{rules, arith, ◌≡◌, List, ℕ, length, refl, sym, ap, ◌∙◌, subst}
use lib.Seq.{ext_get_or}
use Rattle.crossbeam_utils.proofs.SeqKeeps.{releases}
use Rattle.crossbeam_utils.specs.Seq.{Gathered}
use Rattle.crossbeam_utils.specs.declared.atomic.seq_cell.Stage.{Stage}
use Rattle.crossbeam_utils.specs.declared.atomic.seq_cell.Stage.TheVariants.{Writing}
use Rattle.tk_page.specs.declared.view.View.{View}
use Rattle.tk_page.proofs.Kept.{still_turns_at}
use Rattle.tk_page.proofs.cell.load_held.Goals as goal

-- the words that were loaded are those that the holder knows
held_words : (version : ℕ) (former words : List ℕ) (before after : Stage (List ℕ))
    → length former ≡ 8 → length words ≡ 8 → before ≡ Writing version former former 0
    → Gathered (λ (x : List ℕ). x) 8 words before after → after ≡ Writing version words words 0
held_words version former words before after long_former long is gathered =
    let found = subst (λ (z : Stage (List ℕ)). Gathered (λ (x : List ℕ). x) 8 words z after) is
    gathered in
    let same : words ≡ former = ext_get_or 0 words former (long ∙ sym long_former)
    (λ i l. found.1 refl i (omega arith)) in
    found.0 ∙ ap (λ (x : List ℕ). Writing version x x 0) (sym same)

pub store-requires : goal.store-requires
store-requires g c =
    let held = c.hold-version.ensures.held in
    let words = c.gather-words.result in
    let long : length words ≡ 8 = search rules in
    let stage = held_words c.hold-version.result held.0 words _ _ held.1 long held.2
    c.gather-words.ensures.1 in (
      search rules,
      search rules,
      releases _ _ _ g.M.Outcome.then _ _ _ _ words words _ stage (search rules)
          (still_turns_at g.M.Outcome.then _ _ _ _ (search rules) (search rules) (λ x. x) words
          c.requires.rule),
    )

pub returns-clause-rule : goal.returns-clause-rule
returns-clause-rule g c =
    let held = c.hold-version.ensures.held in
    let words = c.gather-words.result in
    let long : length words ≡ 8 = search rules in
    let stage = held_words c.hold-version.result held.0 words _ _ held.1 long held.2
    c.gather-words.ensures.1 in
    subst (λ (v : View). g.M.Outcome.then v words words c.store.new.seat.me.0.client)
    (search rules) (c.store.ensures.2 _ _ _ _ stage)
