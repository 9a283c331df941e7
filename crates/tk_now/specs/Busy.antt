-- The text of the error that no reading was taken.
use Rattle.std.specs.Prelude.{ℕ, ◌++◌, List, codes, decimal}

-- the two words of the notice that the loads found
abbrev pub busy_text : ℕ → ℕ → List ℕ
busy_text first last =
    codes "a command was in progress: the notice was " ++ decimal first ++ codes ", then "
    ++ decimal last
