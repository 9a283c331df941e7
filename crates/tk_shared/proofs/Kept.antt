-- The part of a whole history that a timekeeper keeps.
use Rattle.std.proofs.Common.{◌≡◌, ℕ, ◌≤◌, [], ◌∷◌, length, ap, ◌∙◌, arith, length-drop, length-append}
use Rattle.tk_clock.specs.declared.command.Entry.{Entry}
use Rattle.tk_clock.specs.Folding.{folded_by}
use Rattle.tk_clock.specs.Journal.{Opening, Journal, followed_by, accepted_count}
use Rattle.tk_clock.specs.Legal.{IsWhole}
use Rattle.tk_clock.specs.Monotonic.{monotonic}
use Rattle.tk_clock.specs.Refusal.{clock_refusal}
use Rattle.tk_clock.specs.Snapshot.{snapshot_of}
use Rattle.tk_clock.proofs.Alike.{monotonic-alike}
use Rattle.tk_clock.proofs.Folding.{folded_by-folded, followed_by-folded, snapshot_of-folded, clock_refusal-folded, state_of-whole}
use Rattle.tk_shared.specs.History.{IsKeptOf}

-- before the first entry of a whole history nothing was accepted
pub whole_count : (history : Journal) → IsWhole history → history.opening.count ≡ 0
whole_count history whole = ap (λ (o : Opening). o.count) whole.opens.3

-- one more entry
pub kept_followed_by : (history kept : Journal) (entry : Entry) → IsKeptOf history kept →
    IsKeptOf (followed_by history entry) (followed_by kept entry)
kept_followed_by history kept entry is = record {
  within = let more = length-append history.entries (entry ∷ []) in let low = is.within in
      omega (arith, more, low);
  folded = ap (λ (j : Journal). followed_by j entry) is.folded
      ∙ followed_by-folded history kept.opening.count is.within entry;
}

-- a whole journal and the journal that was kept of it count the same number of accepted commands
pub kept_count : (history kept : Journal) → IsWhole history → IsKeptOf history kept →
    accepted_count kept ≡ length history.entries
kept_count history kept whole is =
    let left = ap (λ (j : Journal). length j.entries) is.folded in
    let fewer = length-drop kept.opening.count history.entries in
    let low = is.within in
    omega (arith, left, fewer, low)

-- folding more of them
pub kept_folded : (history kept : Journal) (more : ℕ) → IsWhole history → IsKeptOf history kept →
    more ≤ length kept.entries → IsKeptOf history (folded_by more kept)
kept_folded history kept more whole is few =
    let all = kept_count history kept whole is in
    record {
      within = omega (arith, all, few);
      folded = ap (folded_by more) is.folded
          ∙ folded_by-folded history kept.opening.count more whole.accepted;
    }

-- the clocks are the whole history's
pub kept_snapshot : (history kept : Journal) → IsWhole history → IsKeptOf history kept →
    snapshot_of kept ≡ snapshot_of history
kept_snapshot history kept whole is =
    ap snapshot_of is.folded
    ∙ snapshot_of-folded history kept.opening.count is.within whole.accepted

-- and an entry is refused as after the whole history, except for a full journal
pub kept_refusal : (history kept : Journal) → IsWhole history → IsKeptOf history kept →
    (entry : Entry) → clock_refusal kept entry ≡ clock_refusal history entry
kept_refusal history kept whole is entry =
    ap (λ (j : Journal). clock_refusal j entry) is.folded
    ∙ clock_refusal-folded history kept.opening.count is.within whole.accepted entry

-- MONOTONIC is the same
pub kept_monotonic : (history kept : Journal) → IsWhole history → IsKeptOf history kept →
    (reading : ℕ) → monotonic kept reading ≡ monotonic history reading
kept_monotonic history kept whole is reading =
    ap (λ (j : Journal). monotonic j reading) is.folded
    ∙ monotonic-alike (folded_by kept.opening.count history) history
    (state_of-whole history kept.opening.count is.within whole.accepted) reading
