use Rattle.std.proofs.Common.{rules, refl, sym, ap, ◌∙◌, take, ◌++◌, ◌∷◌, [], ℕ}
use Rattle.std.proofs.lemmas.List.{take_more}
use Rattle.tk_latch.specs.Views.{making}
use Rattle.tk_latch.proofs.Writing.{opens, finds_word, replaces_word}
use Rattle.tk_latch.proofs.writer.make.Goals as goal
use Rattle.tk_latch.proofs.writer.make.Goals.{then-found-words, else-found-words}

pub store-requires : goal.store-requires
store-requires g c = (search rules, search rules, opens _ _ _ _ _ c.requires.writer c.requires.odd)

pub loop-i-init : goal.loop-i-init
loop-i-init g c =
    let first = take_more c.args.words.now 0 0 (search rules) in record {
      latch = refl;
      writer = c.store.ensures.2 c.args.seat.now.me.0.history c.requires.writer
          ∙ ap (λ (n : ℕ). making c.args.seat.now.me.0.history (n ∷ [])) (sym c.requires.number)
          ∙ ap (making c.args.seat.now.me.0.history) (sym first);
    }

pub load-found-requires : goal.load-found-requires
load-found-requires g c = (
  search rules,
  search rules,
  finds_word _ _ _ _ _ _ c.loop-i.invariant.writer (search rules)
      (search rules) (search rules),
)

pub store-requires-then-found-words : goal.store-requires-then-found-words
store-requires-then-found-words g c = (
  search rules,
  search rules,
  replaces_word _ _ _ _ _ _ _ _ (c.load-found.ensures.2 _ _ c.loop-i.invariant.writer)
      (search rules) (search rules) (search rules),
)

pub loop-i-preserved : goal.loop-i-preserved
loop-i-preserved g c =
    let history = c.args.seat.now.me.0.history in
    let found = c.load-found.ensures.2 _ _ c.loop-i.invariant.writer in
    let more = sym (take_more c.args.words.now c.loop-i.i 0 (search rules)) in
    elim c.if-found-words.branch [
      | then-found-words w ↦ rw w.seat-is (record {
        latch = w.store-then-found-words.ensures.0 ∙ c.load-found.ensures.0 ∙ c.loop-i.invariant.latch;
        writer = w.store-then-found-words.ensures.2 _ _ _ found ∙ ap (making history) more;
      })
      | else-found-words w ↦ rw w.seat-is (record {
        latch = c.load-found.ensures.0 ∙ c.loop-i.invariant.latch;
        writer = found ∙ ap (making history) (ap (λ x. take c.loop-i.i c.args.words.now ++ x ∷ []) w.if-found-words.false ∙ more);
      })
    ]
