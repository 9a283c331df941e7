-- The digits of a time are ASCII, and a date is short.
use Rattle.std.proofs.Common.{◌≡◌, ℕ, ◌≤◌, length, ℤ, pos, negsuc, ◌+◌, ◌/◌, ◌%◌, ◌<◌, List, [], ◌∷◌, ◌++◌, codes, arith, Result, Ok, Err, IsOk, MatchResult, rules}
use Rattle.std.specs.Str.{IsAscii, IsUtf8}
use Rattle.std.proofs.lemmas.Str.{IsAscii-append, IsUtf8-from_ascii}
use Rattle.std.proofs.lemmas.Str.Ascii.{IsAscii-nil, IsAscii-cons}
use Rattle.jiff.specs.Types.{Date}
use Rattle.jiff.specs.Words.{date_text}
use Rattle.tk_script.specs.Utc.{two_digits, four_digits, nine_digits, time_part}

IsAscii-two_digits : (n : ℕ) → n < 100 → IsAscii (two_digits n)
IsAscii-two_digits n h =
    IsAscii-cons (48 + n / 10) ((48 + n % 10)
    ∷ []) (omega arith) (IsAscii-cons (48 + n % 10) [] (omega arith) IsAscii-nil)

IsAscii-four_digits : (n : ℕ) → n < 10000 → IsAscii (four_digits n)
IsAscii-four_digits n h =
    IsAscii-append (two_digits (n / 100)) (two_digits (n % 100))
    (IsAscii-two_digits (n / 100) (omega arith)) (IsAscii-two_digits (n % 100) (omega arith))

IsAscii-nine_digits : (n : ℕ) → n < 1000000000 → IsAscii (nine_digits n)
IsAscii-nine_digits n h =
    let high = IsAscii-four_digits (n / 10000 % 10000) (omega arith) in
    let low = IsAscii-four_digits (n % 10000) (omega arith) in
    IsAscii-append ((48 + n / 100000000) ∷ four_digits (n / 10000 % 10000))
    (four_digits (n % 10000))
    (IsAscii-cons (48 + n / 100000000) (four_digits (n / 10000 % 10000)) (omega arith) high) low

-- a byte, two digits, and the rest are ASCII
IsAscii-part : (b n : ℕ) (rest : List ℕ) → b < 128 → n < 100 → IsAscii rest →
    IsAscii (b ∷ two_digits n ++ rest)
IsAscii-part b n rest h k a =
    IsAscii-cons b (two_digits n ++ rest) h
    (IsAscii-append (two_digits n) rest (IsAscii-two_digits n k) a)

-- the text of a time of day is ASCII, and therefore UTF-8
pub IsUtf8-time_part : (second nsec : ℕ) → second < 86400 → nsec < 1000000000 →
    IsUtf8 (time_part second nsec)
IsUtf8-time_part second nsec h k =
    let last = IsAscii-cons 90 [] (omega arith) IsAscii-nil in
    let fraction = IsAscii-cons 46 (nine_digits nsec ++ codes "Z") (omega arith)
    (IsAscii-append (nine_digits nsec) (codes "Z") (IsAscii-nine_digits nsec k) last) in
    let seconds = IsAscii-part 58 (second % 60) (codes "." ++ nine_digits nsec ++ codes "Z")
    (omega arith) (omega arith) fraction in
    let minutes = IsAscii-part 58 (second / 60 % 60)
    (codes ":" ++ two_digits (second % 60) ++ codes "." ++ nine_digits nsec ++ codes "Z")
    (omega arith) (omega arith) seconds in
    IsUtf8-from_ascii (time_part second nsec)
    (IsAscii-part 84 (second / 3600)
    (codes ":" ++ two_digits (second / 60 % 60) ++ codes ":" ++ two_digits
    (second % 60) ++ codes "." ++ nine_digits nsec ++ codes "Z")
    (omega arith) (omega arith) minutes)

-- a result whose failure is impossible is a value
pub IsOk-from_match : {T E : Type 0} (r : Result T E) (P : T → Type 0) (Q : E → Type 0) →
    ((e : E) → Q e → ⊥) → MatchResult r P Q → IsOk r
IsOk-from_match (Ok x) P Q n m = search rules
IsOk-from_match (Err e) P Q n m = absurd (n e m)

-- a date has ten bytes, or thirteen before the year 0
pub length-date_text : (d : Date) (year : ℤ) → d.year ≡ year → length (date_text d) ≤ 13
length-date_text d (pos n) e = rw e (omega arith)
length-date_text d (negsuc n) e = rw e (omega arith)
