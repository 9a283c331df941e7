use Rattle.std.proofs.Common.{◌≡◌, ◌∙◌, ℕ, ◌+◌, ◌*◌, ◌%◌, ◌<◌, ◌≤◌, ◌^◌, Bool, true, get_or, refl, arith, ◌&&◌}
use Rattle.std.proofs.Math.Nat.{pow-le-pow_right}
use Rattle.std.proofs.lemmas.Nat.{pow-add}
use Rattle.std.proofs.lemmas.Grind.{common_steps}
use Rattle.std.proofs.lemmas.Int.Digits.{digits_value_more}
use Rattle.std.proofs.lemmas.List.Folds.{list_all_more}
use Rattle.std.specs.Char.{is_ascii_digit, digit_value}
use Rattle.tk_script.proofs.numbers.leading_digits.Goals as goal

-- a byte at most nine above `0` is a digit, and the difference is its value
is_digit : (byte : ℕ) → byte < 256 → (byte + 18446744073709551568) % 18446744073709551616 ≤ 9 → is_ascii_digit byte ≡ true
is_digit byte h k = grind (arith, common_steps)

value_of : (byte : ℕ) → byte < 256 → (byte + 18446744073709551568) % 18446744073709551616 ≤ 9 →
    digit_value byte ≡ (byte + 18446744073709551568) % 18446744073709551616
value_of byte h k = grind (arith, common_steps)

both : (a b : Bool) → a ≡ true → b ≡ true → (a && b) ≡ true
both a b e f = rw (e, f) refl

-- a number with fewer than nineteen digits is below 10^18
short : (value i : ℕ) → value < 10 ^ i → i < 19 → value < 10 ^ 18
short value i h k =
    let most = pow-le-pow_right {n = 10} (omega arith) {i = i} {j = 18} (omega arith) in
    omega arith

one_more : (i : ℕ) → 10 ^ (i + 1) ≡ 10 ^ i * 10
one_more i = pow-add 10 i 1

pub overflow_mul-value : goal.overflow_mul-value
overflow_mul-value c =
    let below = short c.loop-i.value c.loop-i.i c.loop-i.invariant.2 (omega arith) in
    omega arith

pub overflow_add-value : goal.overflow_add-value
overflow_add-value c =
    let below = short c.loop-i.value c.loop-i.i c.loop-i.invariant.2 (omega arith) in
    omega arith

pub loop-i-preserved : goal.loop-i-preserved
loop-i-preserved c =
    let byte = get_or c.args.text.now c.loop-i.i 0 in
    let more = digits_value_more 10 c.args.text.now c.loop-i.i c.loop-i-test.true in
    let all = list_all_more is_ascii_digit c.args.text.now c.loop-i.i 0
    c.loop-i-test.true in
    let digit = is_digit byte (omega arith) (omega arith) in
    let value = value_of byte (omega arith) (omega arith) in
    let next = one_more c.loop-i.i in
    let value_below = c.loop-i.invariant.2 in
    let both_digits = both _ _ c.loop-i.invariant.1 digit in
    (omega arith, all ∙ both_digits, omega (arith, next, value_below))
