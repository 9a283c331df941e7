-- With an honest counter, the order of moments is the order of true counts.
use Rattle.std.proofs.Common.{ℕ, ◌≤◌, arith}
use Rattle.tk_now.specs.declared.rule.Taken.{Taken}
use Rattle.tk_now.specs.Honest.{IsTrueCount, CountsAreInOrder, masked}

rises : (at : ℕ → ℕ) (bits : ℕ) (t u : Taken) (c d : ℕ) → ((m n : ℕ) → m ≤ n → at m ≤ at n) →
    IsTrueCount at bits t c → IsTrueCount at bits u d → t.to ≤ u.from → c ≤ d
rises at bits t u c d grows a b le =
    let low = a.to in let mid = grows t.to u.from le in let high = b.from in omega arith

pub in_order : CountsAreInOrder
in_order at command answer bits commands log ordered alive h = record {
  commands_rise = λ i j t u less at_i at_j. rises at bits t u (command i) (command j) h.grows
      (h.commands_read i t at_i) (h.commands_read j u at_j) (ordered i j t u less at_i at_j);
  after = λ i place a t at_a at_t le. rises at bits t (masked bits a.taken) (command place) (answer i) h.grows
      (h.commands_read place t at_t) (h.answers_read i a at_a) ((alive i place a t at_a at_t).1 le);
  before = λ i place a t at_a at_t less. rises at bits (masked bits a.taken) t (answer i) (command place) h.grows
      (h.answers_read i a at_a) (h.commands_read place t at_t)
      ((alive i place a t at_a at_t).0 less);
  answers_rise = λ i j a b at_a at_b le. rises at bits (masked bits a.taken) (masked bits b.taken) (answer i) (answer j)
      h.grows (h.answers_read i a at_a) (h.answers_read j b at_b) le;
}
