-- The rows of the frequent forms of a record.
use Rattle.std.proofs.Common.{◌≡◌, ◌∙◌, ◌++◌, ℕ, List, [], ◌∷◌, length, Bool, true, false, Option, Some, None, Ok, codes, refl, sym, ap, cond, arith, append_assoc, length-append}
use Rattle.std.specs.Prelude.{◌==◌, ◌||◌, ◌&&◌, ◌^◌, ◌-◌, nat_le, not}
use Rattle.std.specs.Char.{is_ascii_digit}
use Rattle.std.specs.List.{list_any, list_all}
use Rattle.std.specs.Str.Parse.{digits_value}
use Rattle.std.proofs.lemmas.Bool.{eqb-true}
use Rattle.std.proofs.lemmas.List.Folds.{list_any-append}
use Rattle.csv.specs.Records.{field_at}
use Rattle.memchr.specs.Find.{is_byte, is_byte2}
use Rattle.tk_clock.specs.declared.clock_id.ClockId.{ClockId}
use Rattle.tk_clock.specs.declared.command.Command.TheVariants.{Update}
use Rattle.tk_script.specs.Number.{number_of}
use Rattle.tk_script.specs.Plain.{EndsLine, FirstLineGives, IsExpected, Lacks, cut_at_commas, cut_after}
use Rattle.tk_script.specs.Field.{reading_of}
use Rattle.tk_script.specs.Rows.{look_of, row_of}
use Rattle.tk_script.specs.Stamps.{stamp_of}
use Rattle.tk_script.specs.Word.{clock_of}
use Rattle.tk_script.specs.declared.row.Row.TheVariants.{Act, Look}
use Rattle.tk_script.proofs.PlainLemmas.{cut-first, cut-whole, not-true, or-none}

and-both : (a b : Bool) → (a && b) ≡ true → (a ≡ true) × (b ≡ true)
and-both true b e = (refl, e)
and-both false b e = cc e

-- digits don't contain a byte that isn't a digit
digits-lack : (byte : ℕ) (digits : List ℕ) → is_ascii_digit byte ≡ false →
    list_all is_ascii_digit digits ≡ true → Lacks (is_byte byte) digits
digits-lack byte [] other all = refl
digits-lack byte (digit ∷ digits) other all =
    let parts = and-both (is_ascii_digit digit) (list_all is_ascii_digit digits) all in
    let first : (digit == byte) ≡ false = not-true (digit == byte)
    (λ same. let e = eqb-true digit byte same in cc (parts.0, other, ap is_ascii_digit e)) in
    rw first (digits-lack byte digits other parts.1)

-- a field that is a number consists of digits
picks : (some digits small : Bool) (value number : ℕ)
    → cond ((some && digits) && small) (Some value) None ≡ Some number → digits ≡ true
picks true true small value number e = refl
picks true false small value number e = cc e
picks false digits small value number e = cc e

-- a field that is a number doesn't contain a byte that isn't a digit
number-lacks : (byte : ℕ) (digits : List ℕ) (number : ℕ) → is_ascii_digit byte ≡ false →
    number_of digits ≡ Some number → Lacks (is_byte byte) digits
number-lacks byte digits number other e =
    digits-lack byte digits other (picks (not (length digits == 0)) (list_all is_ascii_digit digits)
    (nat_le (digits_value 10 digits) (2 ^ 64 - 1)) (digits_value 10 digits) number e)

-- a text without either of two bytes contains neither of them
lacks-either : (a b : ℕ) (xs : List ℕ) → Lacks (is_byte2 a b) xs →
    Lacks (is_byte a) xs × Lacks (is_byte b) xs
lacks-either a b [] e = (refl, refl)
lacks-either a b (x ∷ xs) e =
    let parts = or-none (x == a || x == b) (list_any (is_byte2 a b) xs) e in
    let first = or-none (x == a) (x == b) parts.0 in
    let later = lacks-either a b xs parts.1 in
    (rw first.0 later.0, rw first.1 later.1)

-- the row of an update
update-row : (n reading : ℕ) (digits : List ℕ) → number_of digits ≡ Some reading →
    row_of n (codes "update" ∷ digits ∷ []) ≡ Ok (Act reading Update)
unfolding row_of reading_of field_at
update-row n reading digits e = rw e refl

update-cut : (digits : List ℕ) → Lacks (is_byte 44) digits →
    cut_at_commas (codes "update," ++ digits) ≡ codes "update" ∷ digits ∷ []
unfolding cut_after
update-cut digits whole = ap (λ (fs : List (List ℕ)). codes "update" ∷ fs)
    (cut-whole [] digits whole)

pub first-update : (text rest end digits : List ℕ) (reading : ℕ)
    → text ≡ codes "update," ++ (digits ++ end) → number_of digits ≡ Some reading →
    EndsLine end rest → FirstLineGives row_of text (Act reading Update) rest
first-update text rest end digits reading split number ends = (
  codes "update," ++ digits,
  (omega arith, number-lacks 10 digits reading refl number, (end, split, ends)),
  λ n. ap (row_of n) (update-cut digits (number-lacks 44 digits reading refl number))
      ∙ update-row n reading digits number,
)

-- the row of a read that expects no value
look-row : (n reading : ℕ) (digits word : List ℕ) (clock : ClockId) →
    number_of digits ≡ Some reading → clock_of word ≡ Some clock →
    row_of n (codes "get" ∷ digits ∷ word ∷ []) ≡ Ok (Look reading clock None)
unfolding row_of look_of field_at
look-row n reading digits word clock e f = rw (e, f) refl

look-cut : (digits word : List ℕ) → Lacks (is_byte 44) digits → Lacks (is_byte 44) word →
    cut_at_commas (codes "get," ++ (digits ++ 44 ∷ word)) ≡ codes "get" ∷ digits ∷ word ∷ []
unfolding cut_after
look-cut digits word whole whole' =
    ap (λ (fs : List (List ℕ)). codes "get" ∷ fs)
    (cut-first [] digits word whole
    ∙ ap (λ (fs : List (List ℕ)). digits ∷ fs) (cut-whole [] word whole'))

first-plain_look : (text rest end digits word : List ℕ) (reading : ℕ) (clock : ClockId)
    → text ≡ codes "get," ++ (digits ++ (codes "," ++ (word ++ end))) →
    number_of digits ≡ Some reading → clock_of word ≡ Some clock →
    Lacks (is_byte2 44 10) word → EndsLine end rest →
    FirstLineGives row_of text (Look reading clock None) rest
first-plain_look text rest end digits word reading clock split number named whole ends =
    let lacks = lacks-either 44 10 word whole in
    let feeds : Lacks (is_byte 10) (digits ++ 44 ∷ word) =
    list_any-append (is_byte 10) digits (44 ∷ word)
    ∙ rw (number-lacks 10 digits reading refl number, lacks.1) refl in (
      codes "get," ++ (digits ++ 44 ∷ word),
      (
        omega arith,
        feeds,
        (
          end,
          split ∙ ap (λ (t : List ℕ). codes "get," ++ t)
              (sym (append_assoc digits (44 ∷ word) end)),
          ends,
        ),
      ),
      λ n. ap (row_of n)
          (look-cut digits word (number-lacks 44 digits reading refl number) lacks.0)
          ∙ look-row n reading digits word clock number named,
    )

-- the row of a read that expects a value
expected-row : (n reading value : ℕ) (digits word more : List ℕ) (clock : ClockId) →
    number_of digits ≡ Some reading → clock_of word ≡ Some clock → number_of more ≡ Some value →
    row_of n (codes "get" ∷ digits ∷ word ∷ more ∷ []) ≡ Ok (Look reading clock (Some value))
unfolding row_of look_of field_at
expected-row n reading value digits word more clock e f h = rw (e, f, h) refl

expected-cut : (digits word more : List ℕ) → Lacks (is_byte 44) digits →
    Lacks (is_byte 44) word → Lacks (is_byte 44) more →
    cut_at_commas (codes "get," ++ (digits ++ 44 ∷ (word ++ 44 ∷ more)))
    ≡ codes "get" ∷ digits ∷ word ∷ more ∷ []
unfolding cut_after
expected-cut digits word more whole whole' last =
    ap (λ (fs : List (List ℕ)). codes "get" ∷ fs)
    (cut-first [] digits (word ++ 44 ∷ more) whole
    ∙ ap (λ (fs : List (List ℕ)). digits ∷ fs)
    (cut-first [] word more whole' ∙ ap (λ (fs : List (List ℕ)). word ∷ fs) (cut-whole [] more last)))

first-expected : (text rest end digits word more : List ℕ) (reading value : ℕ) (clock : ClockId)
    → text ≡ codes "get," ++ (digits ++ (codes "," ++ (word ++ 44 ∷ (more ++ end)))) →
    number_of digits ≡ Some reading → clock_of word ≡ Some clock → number_of more ≡ Some value →
    Lacks (is_byte2 44 10) word → EndsLine end rest →
    FirstLineGives row_of text (Look reading clock (Some value)) rest
first-expected text rest end digits word more reading value clock split number named number' whole
    ends =
    let lacks = lacks-either 44 10 word whole in
    let later : Lacks (is_byte 10) (word ++ 44 ∷ more) =
    list_any-append (is_byte 10) word (44 ∷ more)
    ∙ rw (lacks.1, number-lacks 10 more value refl number') refl in
    let feeds : Lacks (is_byte 10) (digits ++ 44 ∷ (word ++ 44 ∷ more)) =
    list_any-append (is_byte 10) digits (44 ∷ (word ++ 44 ∷ more))
    ∙ rw (number-lacks 10 digits reading refl number, later) refl in (
      codes "get," ++ (digits ++ 44 ∷ (word ++ 44 ∷ more)),
      (
        omega arith,
        feeds,
        (
          end,
          split ∙ ap (λ (t : List ℕ). codes "get," ++ t)
              (ap (λ (t : List ℕ). digits ++ 44 ∷ t) (sym (append_assoc word (44 ∷ more) end))
              ∙ sym (append_assoc digits (44 ∷ (word ++ 44 ∷ more)) end)),
          ends,
        ),
      ),
      λ n. ap (row_of n)
          (expected-cut digits word more (number-lacks 44 digits reading refl number) lacks.0
          (number-lacks 44 more value refl number'))
          ∙ expected-row n reading value digits word more clock number named number',
    )

-- the row of a read, with the expected value after the clock, if there is one
pub first-look : (text rest end tail digits word : List ℕ) (reading : ℕ) (clock : ClockId)
    (expected : Option ℕ)
    → text ≡ codes "get," ++ (digits ++ (codes "," ++ (word ++ tail))) →
    number_of digits ≡ Some reading → clock_of word ≡ Some clock →
    Lacks (is_byte2 44 10) word → IsExpected tail expected end → EndsLine end rest →
    FirstLineGives row_of text (Look reading clock expected) rest
first-look text rest end tail digits word reading clock None split number named whole same ends =
    first-plain_look text rest end digits word reading clock
    (split ∙ ap (λ (t : List ℕ). codes "get," ++ (digits ++ (codes "," ++ (word ++ t)))) same)
    number named whole ends
first-look text rest end tail digits word reading clock (Some value) split number named whole
    (more, same, number') ends =
    first-expected text rest end digits word more reading value clock
    (split ∙ ap (λ (t : List ℕ). codes "get," ++ (digits ++ (codes "," ++ (word ++ t)))) same)
    number named number' whole ends

-- the item in a record of a stamp file
stamp-row : (n front stamp : ℕ) (digits more : List ℕ) →
    number_of digits ≡ Some front → number_of more ≡ Some stamp →
    stamp_of n (digits ∷ more ∷ []) ≡ Ok (front, stamp)
unfolding stamp_of field_at
stamp-row n front stamp digits more e f = rw (e, f) refl

pub first-stamp : (text rest end digits more : List ℕ) (front stamp : ℕ)
    → text ≡ digits ++ (codes "," ++ (more ++ end)) →
    number_of digits ≡ Some front → number_of more ≡ Some stamp → EndsLine end rest →
    FirstLineGives stamp_of text (front, stamp) rest
first-stamp text rest end digits more front stamp split number number' ends =
    let feeds : Lacks (is_byte 10) (digits ++ 44 ∷ more) =
    list_any-append (is_byte 10) digits (44 ∷ more)
    ∙ rw (number-lacks 10 digits front refl number, number-lacks 10 more stamp refl number') refl in
    let cut : cut_at_commas (digits ++ 44 ∷ more) ≡ digits ∷ more ∷ [] =
    cut-first [] digits more (number-lacks 44 digits front refl number)
    ∙ ap (λ (fs : List (List ℕ)). digits ∷ fs)
    (cut-whole [] more (number-lacks 44 more stamp refl number')) in (
      digits ++ 44 ∷ more,
      (
        omega (arith, length-append digits (44 ∷ more)),
        feeds,
        (end, split ∙ sym (append_assoc digits (44 ∷ more) end), ends),
      ),
      λ n. ap (stamp_of n) cut ∙ stamp-row n front stamp digits more number number',
    )
