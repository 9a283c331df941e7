-- Numbers in the fields of a script: one or more ASCII digits, in decimal.
use Rattle.std.specs.Prelude.{ℕ, ℤ, pos, neg_ℤ, List, length, drop, Option, Some, None, nat_le, not, ◌&&◌, ◌==◌, ◌^◌, ◌-◌, if◌then◌else◌, slice_index, option_map, Bool}
use Rattle.std.specs.List.{list_all}
use Rattle.std.specs.Char.{is_ascii_digit}
use Rattle.std.specs.Str.Parse.{digits_value}

-- the field consists of one or more digits
abbrev pub is_numeral : List ℕ → Bool
is_numeral field = not (length field == 0) && list_all is_ascii_digit field

-- the number in a field, if it is at most `most`
abbrev pub number_up_to : ℕ → List ℕ → Option ℕ
number_up_to most field =
    if is_numeral field && nat_le (digits_value 10 field) most
    then Some (digits_value 10 field) else None

-- the unsigned 64-bit number in a field
abbrev pub number_of : List ℕ → Option ℕ
number_of field = number_up_to (2 ^ 64 - 1) field

-- the unsigned 8-bit number in a field
abbrev pub number8_of : List ℕ → Option ℕ
number8_of field = number_up_to (2 ^ 8 - 1) field

-- the unsigned 32-bit number in a field
abbrev pub number32_of : List ℕ → Option ℕ
number32_of field = number_up_to (2 ^ 32 - 1) field

-- the signed 64-bit number in a field, with one leading `-` if it is negative
abbrev pub signed_of : List ℕ → Option ℤ
signed_of field =
    if slice_index field 0 == 45
    then option_map (λ n. neg_ℤ (pos n)) (number_up_to (2 ^ 63) (drop 1 field))
    else option_map pos (number_up_to (2 ^ 63 - 1) field)
