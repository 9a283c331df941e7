use Rattle.std.proofs.Common.{◌≡◌, ℕ, List, ◌++◌, subst, string_bytes}
use Rattle.std.specs.Prelude.{IfOk, codes, decimal}
use Rattle.tk_program.proofs.RaceLines.{parts}
use Rattle.tk_program.proofs.race_lines.line_of.Goals as goal

pub returns : goal.returns
returns g c =
    let counted = c.count_orders-accepted.ensures in
    let comma = codes "," in
    let end = codes "\n" in
    let id = decimal c.args.id in
    let written =
    subst
    (λ (t : ℕ × ℕ). IfOk c.format.result (λ line. string_bytes line
    ≡ codes "actor," ++ (id ++ (comma ++ (decimal t.0 ++ (comma ++ (decimal t.1 ++ end)))))))
    (λ i. (counted.accepted i, counted.refused i)) c.format.ensures.ok in
    subst (λ (l : List ℕ). IfOk c.format.result (λ line. string_bytes line ≡ l))
    (parts (codes "actor,") id comma _ comma _ end) written
