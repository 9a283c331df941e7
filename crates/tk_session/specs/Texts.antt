-- The text of a script, from its lines.
use Rattle.std.specs.Prelude.{◌≡◌, ℕ, List, [], ◌∷◌, ◌++◌, true}
use Rattle.tk_script.specs.Plain.{is_plain_line}

-- lines, each with its line feed, and then a last line without one, which may be empty
abbrev pub text_of : List (List ℕ) → List ℕ → List ℕ
text_of [] last = last
text_of (line ∷ lines) last = line ++ 10 ∷ text_of lines last

-- the same lines as a list
abbrev pub lines_of : List (List ℕ) → List ℕ → List (List ℕ)
lines_of [] last = last ∷ []
lines_of (line ∷ lines) last = line ∷ lines_of lines last

-- no line has a quote, a carriage return or a line feed
abbrev pub ArePlain : List (List ℕ) → List ℕ → Type 0
ArePlain [] last = is_plain_line last ≡ true
ArePlain (line ∷ lines) last = (is_plain_line line ≡ true) × ArePlain lines last
