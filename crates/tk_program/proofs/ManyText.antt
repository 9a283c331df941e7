-- The text of many reports, file by file.
use Rattle.std.proofs.Common.{◌≡◌, ℕ, ◌+◌, ◌<◌, List, [], ◌∷◌, ◌++◌, length, get_or, take, sym, ap, ◌∙◌, append_assoc, arith}
use Rattle.std.proofs.lemmas.List.{append-nil, take_more, length-take-le}
use Rattle.tk_replay.specs.Many.{Outcome}
use Rattle.tk_program.specs.ManyText.{heading, outcome_text, text_from}

-- one more file at the end
text_from-push : (index : ℕ) (outcomes : List Outcome)
    (outcome : Outcome) (count : ℕ) → count ≡ index + length outcomes →
    text_from index (outcomes ++ outcome ∷ [])
    ≡ text_from index outcomes ++ (heading count ++ outcome_text outcome)
text_from-push index [] outcome count counted =
    ap (λ (l : List ℕ). heading index ++ l) (append-nil (outcome_text outcome))
    ∙ ap (λ (n : ℕ). heading n ++ outcome_text outcome) same
  where
    same : index ≡ count
    same = omega (arith, counted)
text_from-push index (first ∷ outcomes) outcome count counted =
    let own = heading index in
    let rest = text_from (index + 1) outcomes in
    let last = heading count ++ outcome_text outcome in
    let next : count ≡ index + 1 + length outcomes = omega (arith, counted) in
    let more = text_from-push (index + 1) outcomes outcome count next in
    ap (λ (l : List ℕ). own ++ (outcome_text first ++ l)) more
    ∙ ap (λ (l : List ℕ). own ++ l) (sym (append_assoc (outcome_text first) rest last))
    ∙ sym (append_assoc own (outcome_text first ++ rest) last)

-- the text of one file more
pub text_more : (outcomes : List Outcome) (index : ℕ)
    (outcome : Outcome) → index < length outcomes →
    outcome ≡ get_or outcomes index outcome →
    text_from 0 (take (index + 1) outcomes)
    ≡ text_from 0 (take index outcomes) ++ (heading index ++ outcome_text outcome)
text_more outcomes index outcome below here =
    let counted : index ≡ 0 + length (take index outcomes) =
    omega (arith, length-take-le index outcomes (omega (arith, below))) in
    ap (text_from 0) (take_more outcomes index outcome below)
    ∙ ap (λ (o : Outcome). text_from 0 (take index outcomes ++ o ∷ [])) (sym here)
    ∙ text_from-push 0 (take index outcomes) outcome index counted
