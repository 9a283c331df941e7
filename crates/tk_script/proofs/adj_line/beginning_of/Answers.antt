use Rattle.std.proofs.Common.{◌≡◌, ◌∙◌, ◌++◌, List, ℕ, [], ap, append_assoc, codes, unsigned_abs}
use Rattle.std.specs.Fmt.{signed_decimal}
use Rattle.std.proofs.lemmas.List.{append-nil}
use Rattle.tk_ntp.specs.Bits.{has, sta_nano}
use Rattle.tk_script.specs.AdjLine.{number_field, sub_digits}
use Rattle.tk_script.proofs.adj_line.beginning_of.Goals as goal

-- parts that were prepended, from the last to the first
in_order : (a b c d e f g h : List ℕ) →
    a ++ (b ++ (c ++ (d ++ (e ++ (f ++ (g ++ (h ++ [])))))))
    ≡ a ++ b ++ c ++ (d ++ e ++ f) ++ g ++ h
in_order a b c d e f g h = simp (append_assoc, append-nil)

prepended : (a b c d e f g h l0 l1 l2 l3 l4 l5 l6 l7 l8 : List ℕ) → l0 ≡ [] → l1 ≡ h ++ l0 →
    l2 ≡ g ++ l1 → l3 ≡ f ++ l2 → l4 ≡ e ++ l3 → l5 ≡ d ++ l4 → l6 ≡ c ++ l5 → l7 ≡ b ++ l6 →
    l8 ≡ a ++ l7 → l8 ≡ a ++ b ++ c ++ (d ++ e ++ f) ++ g ++ h
prepended a b c d e f g h l0 l1 l2 l3 l4 l5 l6 l7 l8 e0 e1 e2 e3 e4 e5 e6 e7 e8 =
    e8
    ∙ ap (λ (l : List ℕ). a ++ l) (e7 ∙ ap (λ (l : List ℕ). b ++ l)
    (e6 ∙ ap (λ (l : List ℕ). c ++ l) (e5 ∙ ap (λ (l : List ℕ). d ++ l)
    (e4 ∙ ap (λ (l : List ℕ). e ++ l) (e3 ∙ ap (λ (l : List ℕ). f ++ l)
    (e2 ∙ ap (λ (l : List ℕ). g ++ l) (e1 ∙ ap (λ (l : List ℕ). h ++ l) e0)))))))
    ∙ in_order a b c d e f g h

pub returns : goal.returns
returns c =
    let reply = c.args.reply.now in
    let timex = reply.timex in
    let state = c.word_of_state.result.now in
    let sub = sub_digits (has timex.status sta_nano) (unsigned_abs timex.sub) in
    let sec = signed_decimal timex.sec in
    let offset = number_field timex.offset in
    let freq = number_field timex.freq in
    prepended (codes "adj,") state (codes ",") sec (codes ".") sub offset freq
    c.empty-line.result c.put_field.new.self c.put_field-2.new.self c.put_sub.new.line
    c.put.new.self c.put_signed.new.self c.put-2.new.self c.put-3.new.self c.put-4.new.self
    c.empty-line.ensures c.put_field.ensures.text c.put_field-2.ensures.text
    c.put_sub.ensures.text c.put.ensures.text c.put_signed.ensures.text c.put-2.ensures.text
    c.put-3.ensures.text c.put-4.ensures.text
    ∙ ap (λ (word : List ℕ). codes "adj," ++ word ++ codes "," ++ (sec ++ codes "." ++ sub)
    ++ offset ++ freq) c.word_of_state.ensures.name
