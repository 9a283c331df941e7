use Rattle.std.proofs.Common.{◌≡◌, ◌∙◌, ◌-◌, ap, drop, take}
use Rattle.tk_c.proofs.saved_ntp.tkc_ntp_load.Goals as goal

pub returns : goal.returns
returns c =
    let words = c.args.words.now in
    let first : c.in-Some.first.now ≡ take 15 words = c.in-Some.ensures.cases.same in
    let rest : c.in-Some-last_chunk.rest.now ≡ drop 15 words =
    c.in-Some-last_chunk.ensures.cases.1.same ∙ ap (λ n. drop (n - 18) words) c.told-words in
    rw (first, rest) at c.restore.ensures
