use Rattle.std.proofs.Common.{rules, ◌≡◌, ◌<◌, ◌^◌, true, w64}
use Rattle.std.proofs.lemmas.Int.{to_z-of_z}
use Rattle.std.specs.Prelude.{slice_index}
use Rattle.tk_c.specs.SavedNtp.{are_narrow}
use Rattle.tk_c.proofs.Narrow.{all_narrow}
use Rattle.tk_c.proofs.number_words.numbers_of_words.Goals as goal

pub returns : goal.returns
returns c =
    let words = c.args.words.now in
    let hz : slice_index words 0 < 2 ^ 32 = search rules in
    let status : slice_index words 1 < 2 ^ 32 = search rules in
    let state : slice_index words 2 < 2 ^ 32 = search rules in
    let is_due : slice_index words 3 < 2 ^ 8 = search rules in
    let constant : slice_index words 6 < 2 ^ 32 = search rules in
    let maxerror : slice_index words 7 < 2 ^ 32 = search rules in
    let esterror : slice_index words 8 < 2 ^ 32 = search rules in
    let tick : slice_index words 9 < 2 ^ 32 = search rules in
    let narrow : are_narrow words ≡ true =
    all_narrow words hz status state is_due constant maxerror esterror tick in
    rw (
      narrow,
      to_z-of_z w64 c.cast_signed.result (search rules),
      to_z-of_z w64 c.cast_signed-2.result (search rules),
      to_z-of_z w64 c.cast_signed-3.result (search rules),
      to_z-of_z w64 c.cast_signed-4.result (search rules),
    ) (search rules)
