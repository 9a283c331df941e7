use Rattle.std.proofs.Common.{◌≡◌, ◌∙◌, ◌++◌, List, ℕ, [], ap, append_assoc, codes, decimal, pos}
use Rattle.std.proofs.lemmas.List.{append-nil}
use Rattle.tk_script.specs.AdjLine.{number_field, reply_time}
use Rattle.tk_script.specs.Word.{state_name}
use Rattle.tk_script.proofs.adj_line.AdjLine.new.Goals as goal

-- the parts of the line, in three groups
grouped : (adj state comma time a b c d e f g h number feed : List ℕ) →
    (adj ++ state ++ comma ++ time ++ a ++ b)
    ++ ((c ++ d ++ e ++ f) ++ (g ++ h ++ comma ++ number ++ feed))
    ≡ adj ++ state ++ comma ++ time
    ++ (a ++ (b ++ (c ++ (d ++ (e ++ (f ++ (g ++ (h ++ []))))))))
    ++ comma ++ number ++ feed
grouped adj state comma time a b c d e f g h number feed = simp (append_assoc, append-nil)

pub returns : goal.returns
returns c =
    let reply = c.args.reply.now in
    let timex = reply.timex in
    let first = codes "adj," ++ state_name reply.state ++ codes "," ++ reply_time reply
    ++ number_field timex.offset ++ number_field timex.freq in
    let second = number_field timex.maxerror ++ number_field timex.esterror
    ++ number_field (pos timex.status) ++ number_field timex.constant in
    ap (λ (l : List ℕ). l ++ (c.middle_of.result ++ c.end_of.result)) c.beginning_of.ensures
    ∙ ap (λ (l : List ℕ). first ++ (l ++ c.end_of.result)) c.middle_of.ensures
    ∙ ap (λ (l : List ℕ). first ++ (second ++ l)) c.end_of.ensures
    ∙ grouped (codes "adj,") (state_name reply.state) (codes ",") (reply_time reply)
    (number_field timex.offset) (number_field timex.freq) (number_field timex.maxerror)
    (number_field timex.esterror) (number_field (pos timex.status)) (number_field timex.constant)
    (number_field timex.tick) (number_field (pos reply.tai)) (decimal c.args.number) (codes "\n")
