-- The number at the beginning of a text.
use Rattle.std.proofs.Common.{◌≡◌, ◌∙◌, ◌++◌, ◌<◌, ◌≤◌, ◌^◌, ◌-◌, ℕ, List, length, take, drop, true, false, Some, refl, sym, ap, arith}
use Rattle.std.specs.Prelude.{◌==◌, nat_le}
use Rattle.std.specs.Char.{is_ascii_digit}
use Rattle.std.specs.List.{list_all}
use Rattle.std.specs.Str.Parse.{digits_value}
use Rattle.std.proofs.lemmas.Grind.{common_steps}
use Rattle.std.proofs.lemmas.List.{length-take, take-append-drop, take-append-le}
use Rattle.tk_script.specs.Number.{number_of}
use Rattle.tk_script.proofs.PlainLemmas.{range-to_end}

-- digits represent their value
number-digits : (digits : List ℕ) (value : ℕ) → 0 < length digits →
    list_all is_ascii_digit digits ≡ true → value ≡ digits_value 10 digits → value < 2 ^ 64 →
    number_of digits ≡ Some value
number-digits digits value some all same small =
    let long : (length digits == 0) ≡ false = grind (arith, common_steps) in
    let fits : nat_le (digits_value 10 digits) (2 ^ 64 - 1) ≡ true = grind (arith, common_steps) in
    rw (long, all, fits, same) refl

-- the digits among the first bytes of a text
pub number-leading : (text : List ℕ) (most k value : ℕ) → k ≤ length (take most text) →
    (k ≡ 0 → ⊥) → value ≡ digits_value 10 (take k (take most text)) →
    list_all is_ascii_digit (take k (take most text)) ≡ true → value < 2 ^ 64
    → (digits : List ℕ) × (text ≡ digits ++ take (length text - k) (drop k text))
    × (number_of digits ≡ Some value)
number-leading text most k value inside some same all small =
    let head : take k text ≡ take k (take most text) =
    ap (take k) (sym (take-append-drop most text))
    ∙ take-append-le k (take most text) (drop most text) inside in
    let digits = take k (take most text) in
    let long : 0 < length digits = omega (arith, length-take k (take most text)) in (
      digits,
      rw (range-to_end k text, ← head) (sym (take-append-drop k text)),
      number-digits digits value long all same small,
    )
