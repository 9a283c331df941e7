-- A line's parts, put together from the right or from the left.
use Rattle.std.proofs.Common.{◌≡◌, ℕ, List, ◌++◌, append_assoc, sym, ◌∙◌}

pub parts : (a b d e f g h : List ℕ) →
    a ++ (b ++ (d ++ (e ++ (f ++ (g ++ h))))) ≡ a ++ b ++ d ++ e ++ f ++ g ++ h
parts a b d e f g h =
    sym (append_assoc (a ++ b ++ d ++ e ++ f) g h
    ∙ append_assoc (a ++ b ++ d ++ e) f (g ++ h)
    ∙ append_assoc (a ++ b ++ d) e (f ++ (g ++ h))
    ∙ append_assoc (a ++ b) d (e ++ (f ++ (g ++ h)))
    ∙ append_assoc a b (d ++ (e ++ (f ++ (g ++ h)))))
