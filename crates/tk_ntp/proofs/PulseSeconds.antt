-- Seconds that begin without a pulse, one after the other.
use Rattle.std.proofs.Common.{◌≡◌, refl, ap, sym, ◌∙◌, ℕ, zero, suc, ◌-◌, ◌<◌, ◌≤◌, true, false, ◌||◌, arith}
use Rattle.std.proofs.Math.Dec.{eqb-suc-zero}
use Rattle.tk_ntp.specs.Pps.{Pps, is_lost_in, pps_cleared, pps_second, pps_seconds}

-- the state with another number of seconds that may begin
abbrev with_valid : ℕ → Pps → Pps
with_valid valid pps = record pps { valid = valid }

fewer : (valid : ℕ) (pps : Pps) → pps_second (with_valid (suc valid) pps) ≡ with_valid valid pps
fewer valid pps =
    let less : suc valid - 1 ≡ valid = omega arith in
    rw (eqb-suc-zero valid) (ap (λ k. with_valid k pps) less)

-- a cleared state remains
cleared_stays : (count : ℕ) (pps : Pps) →
    pps_seconds count (pps_cleared (with_valid 0 pps)) ≡ pps_cleared (with_valid 0 pps)
unfolding pps_seconds
cleared_stays zero pps = refl
cleared_stays (suc count) pps = cleared_stays count pps

-- more seconds than may begin: the signal is lost
lost_from : (count valid : ℕ) (pps : Pps) → valid < count →
    pps_seconds count (with_valid valid pps) ≡ pps_cleared (with_valid 0 pps)
unfolding pps_seconds
lost_from zero valid pps h = absurd (omega (arith, h))
lost_from (suc count) zero pps h = cleared_stays count pps
lost_from (suc count) (suc valid) pps h =
    ap (λ k. pps_seconds count k) (fewer valid pps) ∙ lost_from count valid pps (omega (arith, h))

lost_in_from : (count valid : ℕ) (pps : Pps) → valid < count →
    is_lost_in count (with_valid valid pps) ≡ true
unfolding is_lost_in
lost_in_from zero valid pps h = absurd (omega (arith, h))
lost_in_from (suc count) zero pps h = refl
lost_in_from (suc count) (suc valid) pps h =
    ap (λ b. b || is_lost_in count (pps_second (with_valid (suc valid) pps))) (eqb-suc-zero valid)
    ∙ ap (λ k. is_lost_in count k) (fewer valid pps)
    ∙ lost_in_from count valid pps (omega (arith, h))

-- no more than may begin: they are counted
kept_from : (count valid : ℕ) (pps : Pps) → count ≤ valid →
    pps_seconds count (with_valid valid pps) ≡ with_valid (valid - count) pps
unfolding pps_seconds
kept_from zero valid pps h = ap (λ k. with_valid k pps) (sym (omega arith))
kept_from (suc count) zero pps h = absurd (omega (arith, h))
kept_from (suc count) (suc valid) pps h =
    ap (λ k. pps_seconds count k) (fewer valid pps)
    ∙ kept_from count valid pps (omega (arith, h))
    ∙ ap (λ k. with_valid k pps) (omega (arith, h))

kept_in_from : (count valid : ℕ) (pps : Pps) → count ≤ valid →
    is_lost_in count (with_valid valid pps) ≡ false
unfolding is_lost_in
kept_in_from zero valid pps h = refl
kept_in_from (suc count) zero pps h = absurd (omega (arith, h))
kept_in_from (suc count) (suc valid) pps h =
    ap (λ b. b || is_lost_in count (pps_second (with_valid (suc valid) pps))) (eqb-suc-zero valid)
    ∙ ap (λ k. is_lost_in count k) (fewer valid pps)
    ∙ kept_in_from count valid pps (omega (arith, h))

pub lost : (count : ℕ) (pps : Pps) → pps.valid < count →
    pps_seconds count pps ≡ pps_cleared (record pps { valid = 0 })
lost count pps h = lost_from count pps.valid pps h

pub is_lost : (count : ℕ) (pps : Pps) → pps.valid < count → is_lost_in count pps ≡ true
is_lost count pps h = lost_in_from count pps.valid pps h

pub kept : (count : ℕ) (pps : Pps) → count ≤ pps.valid →
    pps_seconds count pps ≡ record pps { valid = pps.valid - count }
kept count pps h = kept_from count pps.valid pps h

pub is_kept : (count : ℕ) (pps : Pps) → count ≤ pps.valid → is_lost_in count pps ≡ false
is_kept count pps h = kept_in_from count pps.valid pps h
