-- Plain texts: their records are lines that are cut at commas.
use Rattle.std.specs.Prelude.{◌≡◌, ◌<◌, ◌⊎◌, ℕ, List, [], ◌∷◌, ◌++◌, ◌==◌, get_or, length, Bool, false, not, Option, None, Some, Result, Ok, if◌then◌else◌}
use Rattle.std.specs.Borrow.{Bor}
use Rattle.std.specs.List.{list_any}
use Rattle.csv.specs.Records.{field_at}
use Rattle.memchr.specs.Find.{is_byte, is_byte2, is_byte3}
use Rattle.tk_script.specs.Number.{number_of}
use Rattle.tk_script.specs.declared.plain.Fields.{Fields}
use Rattle.tk_script.specs.declared.script_error.ScriptError.{ScriptError}

-- no byte of a text passes a test
abbrev pub Lacks : (ℕ → Bool) → List ℕ → Type 0
Lacks test text = list_any test text ≡ false

-- a text without quotes and carriage returns
abbrev pub IsPlain : List ℕ → Type 0
IsPlain text = Lacks (is_byte2 34 13) text

-- whether a line has no quote, no carriage return and no line feed
abbrev pub is_plain_line : List ℕ → Bool
is_plain_line line = not (list_any (is_byte3 34 13 10) line)

-- the remaining fields, after these bytes of the current field
unfoldable pub cut_after : List ℕ → List ℕ → List (List ℕ)
cut_after field [] = field ∷ []
cut_after field (byte ∷ rest) =
    if byte == 44 then field ∷ cut_after [] rest else cut_after (field ++ byte ∷ []) rest

-- a line, cut at its commas
abbrev pub cut_at_commas : List ℕ → List (List ℕ)
cut_at_commas line = cut_after [] line

-- the number of these fields, and the first sixteen of them, as many as the longest record has,
-- except `openwords` with a discipline
pub record HasFields (fields : List (List ℕ)) (found : Fields) : Type 0 where
  pub count : found.count ≡ length fields
  pub places : length found.first ≡ 16
  pub first : (i : ℕ) (field : Bor (List ℕ)) → i < found.count → i < 16 →
      field ≡ get_or found.first i field → field_at fields i ≡ Some field.now

-- a line ends at `end`, by a line feed or with the text, and the bytes `rest` follow
abbrev pub EndsLine : List ℕ → List ℕ → Type 0
EndsLine end rest = (end ≡ 10 ∷ rest) ⊎ ((end ≡ []) × (rest ≡ []))

-- `line` is the first line of a text and is not empty, and the bytes `rest` follow it
abbrev pub IsFirstLine : List ℕ → List ℕ → List ℕ → Type 0
IsFirstLine text line rest = (0 < length line) × Lacks (is_byte 10) line
    × ((end : List ℕ) × (text ≡ line ++ end) × EndsLine end rest)

-- the first line of a text is a record which `parse` parses to this value, whatever the
-- record's number
abbrev pub FirstLineGives : {A : Type 0} → (ℕ → List (List ℕ) → Result A ScriptError) → List ℕ → A →
    List ℕ → Type 0
FirstLineGives parse text value rest = (line : List ℕ) × IsFirstLine text line rest
    × ((n : ℕ) → parse n (cut_at_commas line) ≡ Ok value)

-- a text begins with the comma and the digits of an expected value, or with none of them if no value is
-- expected, and the bytes `rest` follow
abbrev pub IsExpected : List ℕ → Option ℕ → List ℕ → Type 0
IsExpected text None rest = text ≡ rest
IsExpected text (Some value) rest =
    (digits : List ℕ) × (text ≡ 44 ∷ (digits ++ rest)) × (number_of digits ≡ Some value)
