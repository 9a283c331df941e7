-- The words of a page give back the words that were packed.
use Rattle.std.proofs.Common.{◌≡◌, ℕ, ◌+◌, ◌*◌, ◌/◌, ◌%◌, ◌^◌, ◌<◌, List, [], ◌∷◌, arith}
use Rattle.std.proofs.Common.{sym, refl, subst}
use Rattle.std.specs.Prelude.{slice_index, IsSome, Some}
use Rattle.tk_clock.specs.Snapshot.{Snapshot}
use Rattle.tk_clock.specs.Words.{words_of, restored}
use Rattle.tk_clock.proofs.Words.{in_range, stated-restored}
use Rattle.tk_page.specs.Packing.{packed, unpacked}

-- the words of a snapshot that are packed, except for the multiplier, are far below 2^32
pub record AreSmall (words : List ℕ) : Type 0 where
  pub sec : slice_index words 4 < 2 ^ 30
  pub tai : slice_index words 7 < 2 ^ 30
  pub raw_sec : slice_index words 9 < 2 ^ 30

pub are_small : (words : List ℕ) (snapshot : Snapshot) → words ≡ words_of snapshot →
    restored snapshot.base.counter (words_of snapshot) ≡ Some snapshot → AreSmall words
are_small words snapshot value back =
    let counter = snapshot.base.counter in
    let range = in_range counter (words_of snapshot)
    (stated-restored counter (words_of snapshot) (subst IsSome (sym back) refl)).range in
    subst AreSmall (sym value) (record {
      sec = let low = range.sec_low in omega arith;
      tai = let low = range.tai_low in omega arith;
      raw_sec = let low = range.raw_sec_low in omega arith;
    })

-- two numbers in one word, the lower of which has 32 bits
lower : (high low : ℕ) → low < 2 ^ 32 → (high * 2 ^ 32 + low) % 2 ^ 32 ≡ low
lower high low small = omega arith

upper : (high low : ℕ) → low < 2 ^ 32 → (high * 2 ^ 32 + low) / 2 ^ 32 ≡ high
upper high low small = omega arith

packs : (front last mult frac sec real boot tai raw_frac raw_sec : ℕ) →
    mult < 2 ^ 32 → sec < 2 ^ 32 →
    (let words : List ℕ =
    front ∷ last ∷ mult ∷ frac ∷ sec ∷ real ∷ boot ∷ tai ∷ raw_frac ∷ raw_sec ∷ [] in
    unpacked (packed words) ≡ words)
packs front last mult frac sec real boot tai raw_frac raw_sec mult_low sec_low =
    λ i. front ∷ last ∷ lower tai mult mult_low i ∷ frac ∷ lower raw_sec sec sec_low i
    ∷ real ∷ boot ∷ upper tai mult mult_low i ∷ raw_frac ∷ upper raw_sec sec sec_low i ∷ []

-- the packed words of a snapshot give its words back
pub unpacks : (snapshot : Snapshot) →
    (let words = words_of snapshot in
    slice_index words 2 < 2 ^ 32 → slice_index words 4 < 2 ^ 32 →
    unpacked (packed words) ≡ words)
unpacks snapshot mult_low sec_low = packs _ _ _ _ _ _ _ _ _ _ mult_low sec_low
