-- A folded journal agrees at later fronts with the journal before the fold.
use Rattle.std.proofs.Common.{◌≡◌, ℕ, ◌+◌, ◌-◌, ◌≤◌, length, drop, sym, ◌∙◌, ap, arith, length-drop, min}
use Rattle.std.proofs.lemmas.List.{length-take}
use Rattle.tk_clock.specs.Folding.{folded_by}
use Rattle.tk_clock.specs.Journal.{Journal, prefix}
use Rattle.tk_clock.specs.Legal.{IsAccepted}
use Rattle.tk_clock.specs.State.{state_of}
use Rattle.tk_clock.proofs.Alike.{clock_value-alike, snapshot_of-alike}
use Rattle.tk_clock.proofs.Folding.{state_of-folded}
use Rattle.tk_keeper.specs.Past.{at_front, IsFolded}

-- the places of the folded journal, by their fronts
places_of : (front count n : ℕ) → count + n ≤ front → n + (front - (count + n)) ≡ front - count
places_of front count n later = omega arith

state_of-front : (journal : Journal) (n front : ℕ) → IsAccepted journal →
    journal.opening.count + n ≤ front →
    state_of (at_front front (folded_by n journal)) ≡ state_of (at_front front journal)
state_of-front journal n front all later =
    state_of-folded journal n (front - (journal.opening.count + n)) all
    ∙ ap (λ k. state_of (prefix k journal)) (places_of front journal.opening.count n later)

count-front : (count n listed front a b c : ℕ) → n ≤ listed → count + n ≤ front → a ≡ listed - n →
    b ≡ min (front - (count + n)) a →
    c ≡ min (front - count) listed → count + n + b ≡ count + c
count-front count n listed front a b c within later p q r = omega arith

pub IsFolded-folded : (journal : Journal) (n : ℕ) → n ≤ length journal.entries →
    IsAccepted journal → IsFolded journal (folded_by n journal)
IsFolded-folded journal n within all =
    let count = journal.opening.count in
    let fewer = length-drop n journal.entries in
    let same : count + n - count ≡ n = omega arith in
    record {
      all = omega (arith, fewer);
      entries = ap (λ k. drop k journal.entries) (sym same);
      states = λ front later. state_of-front journal n front all later;
      snapshots = λ front later. snapshot_of-alike (at_front front (folded_by n journal))
          (at_front front journal)
          (record {
            state = state_of-front journal n front all later;
            count = count-front count n (length journal.entries) front
                (length (drop n journal.entries)) _ _ within later fewer
                (length-take (front - (count + n)) (drop n journal.entries))
                (length-take (front - count) journal.entries);
          });
      clocks = λ front clock reading later.
          clock_value-alike (at_front front (folded_by n journal)) (at_front front journal)
          (state_of-front journal n front all later) clock reading;
    }
