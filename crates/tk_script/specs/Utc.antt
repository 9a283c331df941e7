-- A time as UTC text, in digits.
use Rattle.std.specs.Prelude.{◌≡◌, ℕ, ◌+◌, ◌/◌, ◌%◌, List, [], ◌∷◌, ◌++◌, codes, pos}
use Rattle.jiff.specs.Types.{Date}
use Rattle.jiff.specs.Words.{date_text, epoch_day}

-- a number below 100 in two digits
abbrev pub two_digits : ℕ → List ℕ
two_digits n = (48 + n / 10) ∷ (48 + n % 10) ∷ []

-- a number below 10^4 in four digits
abbrev pub four_digits : ℕ → List ℕ
four_digits n = two_digits (n / 100) ++ two_digits (n % 100)

-- a number below 10^9 in nine digits
abbrev pub nine_digits : ℕ → List ℕ
nine_digits n = (48 + n / 100000000) ∷ four_digits (n / 10000 % 10000) ++ four_digits (n % 10000)

-- `Thh:mm:ss.nnnnnnnnnZ`: the text of a second of a day and of nanoseconds
abbrev pub time_part : ℕ → ℕ → List ℕ
time_part second nsec =
    codes "T" ++ two_digits (second / 3600) ++ codes ":" ++ two_digits
    (second / 60 % 60) ++ codes ":"
    ++ two_digits (second % 60) ++ codes "." ++ nine_digits nsec ++ codes "Z"

-- `YYYY-MM-DD`: the text is the date of this day, counted from 1970-01-01
abbrev pub IsDateText : ℕ → List ℕ → Type 0
IsDateText day text = (date : Date) × (epoch_day date ≡ pos day) × (text ≡ date_text date)

-- `YYYY-MM-DDThh:mm:ss.nnnnnnnnnZ`: the text represents a time in seconds since 1970-01-01 and
-- nanoseconds
abbrev pub IsUtcText : ℕ → ℕ → List ℕ → Type 0
IsUtcText sec nsec text = (date : Date) × (epoch_day date ≡ pos (sec / 86400))
    × (text ≡ date_text date ++ time_part (sec % 86400) nsec)
