use Rattle.std.proofs.Common.{◌≡◌, ◌∙◌, ◌++◌, List, ℕ, [], ap, append_assoc, pos, rules}
use Rattle.std.proofs.lemmas.List.{append-nil}
use Rattle.tk_script.specs.AdjLine.{number_field}
use Rattle.tk_script.proofs.adj_line.middle_of.Goals as goal

-- fields that were prepended, from the last to the first
in_order : (a b c d : List ℕ) → a ++ (b ++ (c ++ (d ++ []))) ≡ a ++ b ++ c ++ d
in_order a b c d = simp (append_assoc, append-nil)

prepended : (a b c d l0 l1 l2 l3 l4 : List ℕ) → l0 ≡ [] → l1 ≡ d ++ l0 → l2 ≡ c ++ l1 →
    l3 ≡ b ++ l2 → l4 ≡ a ++ l3 → l4 ≡ a ++ b ++ c ++ d
prepended a b c d l0 l1 l2 l3 l4 e0 e1 e2 e3 e4 =
    e4
    ∙ ap (λ (l : List ℕ). a ++ l) (e3 ∙ ap (λ (l : List ℕ). b ++ l)
    (e2 ∙ ap (λ (l : List ℕ). c ++ l) (e1 ∙ ap (λ (l : List ℕ). d ++ l) e0)))
    ∙ in_order a b c d

pub returns : goal.returns
returns c =
    let timex = c.args.timex.now in
    let status : c.put_field-2.new.self ≡ number_field (pos timex.status) ++ c.put_field.new.self =
    search rules in
    prepended (number_field timex.maxerror) (number_field timex.esterror)
    (number_field (pos timex.status)) (number_field timex.constant) c.empty-line.result
    c.put_field.new.self c.put_field-2.new.self c.put_field-3.new.self c.put_field-4.new.self
    c.empty-line.ensures c.put_field.ensures.text status c.put_field-3.ensures.text
    c.put_field-4.ensures.text
