-- The text of a date and of a time of day in a line.
use Rattle.std.proofs.Common.{◌≡◌, ◌∙◌, ◌++◌, ℕ, ℤ, List, refl, ap, sym, pos, negsuc, unsigned_abs, ◌/◌, ◌%◌, ◌≤ℤ◌, inl, inr, codes, decimal, append_assoc, arith}
use Rattle.std.specs.Fmt.{signed_decimal}
use Rattle.std.specs.Prelude.{◌⊎◌, ◌<ℤ◌}
use Rattle.std.proofs.lemmas.Int.{ints}
use Rattle.jiff.specs.Types.{Date}
use Rattle.jiff.specs.Words.{date_text}
use Rattle.tk_clock.specs.declared.clock_id.ClockId.{ClockId}
use Rattle.tk_clock.specs.declared.clock_id.ClockId.TheVariants.{Realtime, RealtimeCoarse}
use Rattle.tk_clock.specs.declared.timespec.Timespec.{Timespec}
use Rattle.tk_script.specs.Lines.{IsAtLine, at_text}
use Rattle.tk_script.specs.Utc.{IsDateText, IsUtcText, time_part, two_digits}

-- the text of a date and the text of a time of day make the UTC text
pub joined : (sec nsec seconds day second : ℕ) (date bytes time : List ℕ) → IsDateText day date →
    bytes ≡ date
    → time ≡ time_part second nsec → seconds ≡ sec → day ≡ seconds / 86400 →
    second ≡ seconds % 86400
    → IsUtcText sec nsec (bytes ++ time)
joined sec nsec seconds day second date bytes time dated same part n e f =
    (dated.0, dated.1 ∙ ap pos (rw n at e), rw (same, dated.2, part, f, n) refl)

-- a line with UTC text, by the order in which its parts were prepended
pub grouped : (clock bytes time line : List ℕ)
    → line ≡ clock ++ (codes "," ++ (bytes ++ (time ++ codes "\n")))
    → line ≡ clock ++ codes "," ++ (bytes ++ time) ++ codes "\n"
grouped clock bytes time line e =
    e ∙ ap (λ (l : List ℕ). clock ++ (codes "," ++ l)) (sym (append_assoc bytes time (codes "\n")))
    ∙ sym (append_assoc clock (codes ",") ((bytes ++ time) ++ codes "\n"))
    ∙ sym (append_assoc (clock ++ codes ",") (bytes ++ time) (codes "\n"))

-- the clocks that count from 1970 have a line with UTC text
pub utc-line : (clock : ClockId) (time : Timespec) (line utc : List ℕ)
    → (clock ≡ RealtimeCoarse) ⊎ (clock ≡ Realtime)
    → IsUtcText (unsigned_abs time.sec) time.nsec utc
    → line ≡ at_text clock time ++ codes "," ++ utc ++ codes "\n"
    → IsAtLine clock time line
utc-line clock time line utc (inl e) dated whole = rw e (utc, dated, rw e at whole)
utc-line clock time line utc (inr e) dated whole = rw e (utc, dated, rw e at whole)

-- a date from the year 0 on: its digits, from its year to its day
pub date-since : (d : Date) (year : ℤ) (before : List ℕ) → d.year ≡ year → pos 0 ≤ℤ year →
    two_digits (unsigned_abs year / 100) ++ (two_digits (unsigned_abs year % 100) ++ (codes "-"
    ++ (two_digits d.month ++ (codes "-" ++ (two_digits d.day ++ before)))))
    ≡ date_text d ++ before
date-since d (pos n) before e since = rw e refl
date-since d (negsuc n) before e since = absurd (omega (arith, ints))

-- an earlier date has a sign and two more digits
pub date-before : (d : Date) (year : ℤ) (before : List ℕ) → d.year ≡ year → year <ℤ pos 0 →
    codes "-00" ++ (two_digits (unsigned_abs year / 100)
    ++ (two_digits (unsigned_abs year % 100) ++ (codes "-"
    ++ (two_digits d.month ++ (codes "-" ++ (two_digits d.day ++ before))))))
    ≡ date_text d ++ before
date-before d (pos n) before e early = absurd (omega (arith, ints))
date-before d (negsuc n) before e early = rw e refl

-- a number in decimal, with its sign
pub signed-since : (n : ℤ) (before : List ℕ) → pos 0 ≤ℤ n →
    decimal (unsigned_abs n) ++ before ≡ signed_decimal n ++ before
signed-since (pos n) before since = refl
signed-since (negsuc n) before since = absurd (omega (arith, ints))

pub signed-before : (n : ℤ) (before : List ℕ) → n <ℤ pos 0 →
    codes "-" ++ (decimal (unsigned_abs n) ++ before) ≡ signed_decimal n ++ before
signed-before (pos n) before early = absurd (omega (arith, ints))
signed-before (negsuc n) before early = refl
