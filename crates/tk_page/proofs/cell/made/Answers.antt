use Rattle.std.proofs.Common.{rules, refl, ◌≡◌, List, ℕ, ◌+◌, ◌∷◌, get_or, ap, ◌∙◌}
use native.Mathlib.Numerals.{unary_clauses}
use Rattle.tk_page.proofs.cell.made.Goals as goal

pub of_words-requires : goal.of_words-requires
of_words-requires c = let all : c.as_slice.result.now ≡ 0 ∷ c.args.words.now = search rules in record {
  value = c.args.words.now;
  next = c.args.words.now;
  done = 0;
  writer = 0;
  era = 0;
  wide = search rules;
  long = search rules;
  at_rest = λ _. refl;
  clean = λ _. search rules;
  dirty = λ l. search rules;
  written = λ i l. search rules;
  unwritten = λ i _ l. let later : get_or (0 ∷ c.args.words.now) (i + 1) 0 ≡ get_or c.args.words.now i 0 = simp unary_clauses refl in ap (λ (z : List ℕ). get_or z (i + 1) 0) all ∙ later;
  each_seat = λ j d e. search rules;
  kept = c.requires;
}
