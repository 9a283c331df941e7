use Rattle.std.proofs.Common.{rules, arith, ◌≡◌, ◌∙◌, ℕ, ◌≤◌, List, ◌++◌, ap, append-nil, drop, false, length, nat_eq, refl, sym, take, true}
use Rattle.std.proofs.lemmas.List.{drop-drop, drop_all, drop_at, take_at}
use Rattle.tk_ntp.specs.Numbers.{course_numbers}
use Rattle.tk_session.specs.Session.{Session}
use Rattle.tk_session_c.specs.Saved.{clock_words, number_words, saved}
use Rattle.tk_session_c.proofs.saved.tkc_session_save.Goals as goal

-- the words of clocks and of numbers in the place of 33 others
joined : (words first rest : List ℕ) → length words ≡ 33 → length first ≡ 15 →
    take 15 (first ++ drop 15 words) ++ (rest ++ drop 18 (drop 15 (first ++ drop 15 words)))
    ≡ (first ++ rest) ++ drop 33 words
joined words first rest all some =
    let short : length words ≤ 33 = omega arith in
    rw (
      take_at first (drop 15 words) 15 some,
      drop_at first (drop 15 words) 15 some,
      drop-drop 18 15 words,
      drop_all 33 words short,
      append-nil rest,
      append-nil (first ++ rest),
    ) refl

saved-steered : (session : Session) (first rest : List ℕ) → nat_eq session.records 0 ≡ false →
    session.is_steered ≡ true → first ≡ clock_words session →
    rest ≡ number_words (course_numbers session.course) → first ++ rest ≡ saved session
saved-steered session first rest opened steered is is' = rw (opened, steered, is, is') refl

all : (session : Session) → nat_eq session.records 0 ≡ false → session.is_steered ≡ true →
    33 ≡ length (saved session)
all session opened steered = rw (opened, steered) refl

pub returns : goal.returns
returns c =
    let session = c.args.session.now in
    let words = c.args.words.now in
    let first = c.copy_from_slice.new.self in
    let rest = c.copy_from_slice-2.new.self in
    let opened : nat_eq session.records 0 ≡ false = search rules in
    let steered = sym c.is_steered.ensures ∙ c.if-not-is_steered.false in
    let first-is : first ≡ clock_words session =
    c.copy_from_slice.ensures.after ∙ c.clock_words.ensures in
    let rest-is : rest ≡ number_words (course_numbers session.course) =
    c.copy_from_slice-2.ensures.after ∙ c.number_words.ensures
    ∙ ap number_words (c.numbers.ensures.value ∙ ap course_numbers c.course.ensures) in
    let long : length first ≡ 15 = rw first-is refl in record {
      words = joined words first rest c.told-words long
          ∙ ap (λ (l : List ℕ). l ++ drop 33 words)
          (saved-steered session first rest opened steered first-is rest-is);
      count_is = all session opened steered;
    }
