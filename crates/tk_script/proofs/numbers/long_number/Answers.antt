use Rattle.std.proofs.Common.{◌≡◌, ◌∙◌, ℕ, ◌+◌, ◌*◌, ◌%◌, ◌<◌, length, take, Bool, true, false, List, get_or, refl, ap, arith, sym, ◌&&◌, nat_le}
use Rattle.std.proofs.lemmas.Grind.{common_steps}
use Rattle.std.proofs.lemmas.Int.Digits.{digits_value_more}
use Rattle.std.proofs.lemmas.Str.Parse.{digits_value-take-le}
use Rattle.std.proofs.lemmas.List.Folds.{list_all_at}
use Rattle.std.specs.List.{list_all}
use Rattle.std.specs.Char.{is_ascii_digit, digit_value}
use Rattle.std.specs.Str.Parse.{digits_value}
use Rattle.tk_script.specs.Number.{is_numeral}
use Rattle.tk_script.proofs.numbers.long_number.Goals as goal

-- the second part of a test that passed
second : (a b : Bool) → (a && b) ≡ true → b ≡ true
second true b e = e
second false b e = cc e

at_index : (p : ℕ → Bool) (xs : List ℕ) (i : ℕ) → i < length xs → list_all p xs ≡ true →
    p (get_or xs i 0) ≡ true
at_index p xs i h e = by (p (get_or xs i 0)) refl
  where
    by : (b : Bool) → p (get_or xs i 0) ≡ b → b ≡ true
    by true q = refl
    by false q = cc (list_all_at p xs i 0 h q)

wrapped : (c : ℕ) → is_ascii_digit c ≡ true → digit_value c ≡ (c + 208) % 256
wrapped c h = grind (arith, common_steps)

-- the next byte of a numeral is a digit
next_digit : (field : List ℕ) (i : ℕ) → i < length field → is_numeral field ≡ true →
    digits_value 10 (take (i + 1) field)
    ≡ digits_value 10 (take i field) * 10 + (get_or field i 0 + 208) % 256
next_digit field i within numeral =
    digits_value_more 10 field i within
    ∙ ap (λ (digit : ℕ). digits_value 10 (take i field) * 10 + digit)
    (wrapped (get_or field i 0) (at_index is_ascii_digit field i within (second _ _ numeral)))

pub returns-then-longer-from : goal.returns-then-longer-from
returns-then-longer-from c =
    let numeral = sym c.if-not-has_digits_only.ensures in
    let more =
    next_digit c.args.field.now c.loop-digit.digit-index c.loop-digit-test.true numeral in
    let less = digits_value-take-le 10 c.args.field.now (c.loop-digit.digit-index + 1) (omega arith)
    in
    let big : c.args.most < digits_value 10 c.args.field.now = omega arith in
    let not_le : nat_le (digits_value 10 c.args.field.now) c.args.most ≡ false =
    grind (arith, common_steps) in
    rw (numeral, not_le) refl

pub loop-digit-preserved : goal.loop-digit-preserved
loop-digit-preserved c =
    let more =
    next_digit c.args.field.now c.loop-digit.digit-index c.loop-digit-test.true
    (sym c.if-not-has_digits_only.ensures) in
    (omega arith, omega arith)
