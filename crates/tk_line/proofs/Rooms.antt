-- Units that fit in 64 bits and stay within a number of nanoseconds.
use Rattle.std.proofs.Common.{◌≡◌, ℕ, ◌+◌, ◌-◌, ◌*◌, ◌/◌, ◌%◌, ◌^◌, ◌<◌, ◌≤◌, sym, arith}
use Rattle.std.proofs.lemmas.Nat.{pow_pos, div_below, div-add-mod'}
use Rattle.std.proofs.Math.Nat.{mod-eq_of_lt, div-mul-le_self, mul-le-mul_right, div-lt_iff_lt-mul, mod-lt}

-- nanoseconds that fit in 64 bits as units
pub kept_whole : (left shift : ℕ) → left ≤ 18446744073709551615 / 2 ^ shift →
    left * 2 ^ shift % 18446744073709551616 ≡ left * 2 ^ shift
kept_whole left shift few =
    let grown : left * 2 ^ shift ≤ 18446744073709551615 / 2 ^ shift * 2 ^ shift =
    mul-le-mul_right (2 ^ shift) few in
    let whole : 18446744073709551615 / 2 ^ shift * 2 ^ shift ≤ 18446744073709551615 =
    div-mul-le_self 18446744073709551615 (2 ^ shift) in
    mod-eq_of_lt (omega (arith, grown, whole))

module _ (frac left shift : ℕ) where
  abbrev scale : ℕ
  scale = 2 ^ shift

  parts : frac ≡ frac / scale * scale + frac % scale
  parts = sym (div-add-mod' frac scale)

  rest : frac % scale < scale
  rest = mod-lt frac (pow_pos shift)

  -- units within the room leave the time within its limit
  pub enough : (units : ℕ) → 0 < left → units ≤ left * scale - 1 - frac % scale →
      (frac + units) / scale < frac / scale + left
  enough units some within =
      let one : 1 * scale ≤ left * scale = mul-le-mul_right scale some in
      div_below (frac + units) scale (frac / scale + left) (pow_pos shift)
      (omega (arith, parts, rest, some, within, one))

  -- units beyond the room don't
  pub needed : (units : ℕ) → (frac + units) / scale < frac / scale + left →
      units ≤ left * scale - 1 - frac % scale
  needed units below =
      let low : frac + units < (frac / scale + left) * scale =
      (div-lt_iff_lt-mul (pow_pos shift)).0 below in
      omega (arith, parts, rest, low)
