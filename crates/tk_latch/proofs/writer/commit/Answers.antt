use Rattle.std.proofs.Common.{rules, sym, ap, ◌∙◌, get_or, List, ℕ}
use Rattle.tk_clock.specs.Words.{snapshot_of_words}
use Rattle.tk_latch.proofs.Publications.{latest_words-push}
use Rattle.tk_latch.proofs.Writing.{commits, checks_word, copies_word}
use Rattle.tk_latch.proofs.writer.commit.Goals as goal
use Rattle.tk_latch.proofs.writer.commit.Goals.{then-found-words, else-found-words}

pub store-requires : goal.store-requires
store-requires g c = (
  search rules,
  search rules,
  commits _ _ _ _ _ _ c.requires.writer c.requires.next c.requires.even,
)

pub load-found-requires : goal.load-found-requires
load-found-requires g c = (
  search rules,
  search rules,
  checks_word _ _ _ _ _ _ c.loop-i.invariant.writer (search rules) (search rules) (search rules),
)

pub store-requires-then-found-words : goal.store-requires-then-found-words
store-requires-then-found-words g c =
    let history = c.args.seat.now.me.0.history in
    let snapshot = snapshot_of_words history.counter c.args.words.now in
    let shown = latest_words-push history.list snapshot ∙ c.requires.next.words_again in
    let same = ap (λ (p : List ℕ). get_or p c.loop-i.i 0) (sym shown) in (
      search rules,
      search rules,
      copies_word _ _ _ _ _ _ _
          ((c.load-found.ensures.2 _ _ c.loop-i.invariant.writer).1 (λ e. c.if-found-words.true (e ∙ sym same)))
          (search rules) (search rules) (search rules) same,
    )

pub loop-i-preserved : goal.loop-i-preserved
loop-i-preserved g c =
    let history = c.args.seat.now.me.0.history in
    let snapshot = snapshot_of_words history.counter c.args.words.now in
    let shown = latest_words-push history.list snapshot ∙ c.requires.next.words_again in
    let same = ap (λ (p : List ℕ). get_or p c.loop-i.i 0) (sym shown) in
    let found = c.load-found.ensures.2 _ _ c.loop-i.invariant.writer in
    elim c.if-found-words.branch [
      | then-found-words w ↦ rw w.seat-is (record {
        latch = w.store-then-found-words.ensures.0 ∙ c.load-found.ensures.0 ∙ c.loop-i.invariant.latch;
        writer = w.store-then-found-words.ensures.2 _ _ (found.1 (λ e. w.if-found-words.true (e ∙ sym same)));
      })
      | else-found-words w ↦ rw w.seat-is (record {
        latch = c.load-found.ensures.0 ∙ c.loop-i.invariant.latch;
        writer = found.0 (w.if-found-words.false ∙ same);
      })
    ]
