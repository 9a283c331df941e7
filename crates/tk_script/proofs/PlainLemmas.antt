-- The first record of a plain text is its first line that is not empty, cut at its commas.
use Rattle.std.proofs.Common.{◌≡◌, ◌∙◌, ◌++◌, ◌+◌, ◌<◌, ◌≤◌, ℕ, zero, suc, List, [], ◌∷◌, length, take, drop, Bool, true, false, Option, Some, None, refl, sym, ap, inl, inr, arith, append_assoc, drop-cons, length-drop, add-one}
use Rattle.std.specs.Prelude.{◌==◌, ◌||◌, ◌-◌, get_or, set, slice_index, is_some, not}
use Rattle.std.specs.Borrow.{Bor}
use Rattle.std.specs.List.{list_any}
use Rattle.std.proofs.lemmas.Bool.{cases_Bool, cases_eq, eqb-true}
use Rattle.std.proofs.lemmas.List.{append-nil, get_or-set_other, get_or-set_same, length-set, length-take, length_push, take-append-drop, take_all}
use Rattle.std.proofs.Math.Seq.{take-length}
use Rattle.std.proofs.lemmas.List.Folds.{list_any-append, list_any_at, list_any_more}
use Rattle.csv.proofs.RoundTrip.{record-same, start-same}
use Rattle.csv.specs.Machine.{Read, next_record}
use Rattle.csv.specs.Reading.{default_config, strip_bom}
use Rattle.csv.specs.Records.{field_at}
use Rattle.csv.specs.declared.parser.State.TheVariants as st
use Rattle.memchr.specs.Find.{IsFirstByte, is_byte, is_byte2, is_byte3}
use Rattle.tk_script.specs.Plain.{HasFields, IsFirstLine, IsPlain, Lacks, cut_at_commas, cut_after, is_plain_line}
use Rattle.tk_script.specs.declared.plain.Fields.{Fields}

-- the record of a line, and the text after it
abbrev pub record_of_line : List ℕ → List ℕ → Read
record_of_line line rest = (cut_at_commas line, st.StartRecord, rest)

pub or-none : (a b : Bool) → (a || b) ≡ false → (a ≡ false) × (b ≡ false)
or-none true b e = cc e
or-none false b e = (refl, e)

pub not-true : (b : Bool) → (b ≡ true → ⊥) → b ≡ false
not-true true wrong = absurd (wrong refl)
not-true false wrong = refl

-- one more byte, which is neither of the two
pub lacks-more : (a b : ℕ) (text : List ℕ) (i : ℕ) → i < length text
    → Lacks (is_byte2 a b) (take i text) → (slice_index text i ≡ a → ⊥) →
    (slice_index text i ≡ b → ⊥) → Lacks (is_byte2 a b) (take (i + 1) text)
lacks-more a b text i inside head other other' =
    let byte = slice_index text i in
    let first : (byte == a) ≡ false = not-true (byte == a) (λ same. other (eqb-true byte a same)) in
    let second : (byte == b) ≡ false =
    not-true (byte == b) (λ same. other' (eqb-true byte b same)) in
    list_any_more (is_byte2 a b) text i 0 inside ∙ rw (head, first, second) refl

-- the first byte of a plain text, and the others
plain-byte : (c : ℕ) (rest : List ℕ) → IsPlain (c ∷ rest) →
    (((c == 34) ≡ false) × ((c == 13) ≡ false)) × IsPlain rest
plain-byte c rest plain =
    let parts = or-none (c == 34 || c == 13) (list_any (is_byte2 34 13) rest) plain in
    (or-none (c == 34) (c == 13) parts.0, parts.1)

-- the first byte of a text that lacks a byte, and the others
whole-byte : (byte c : ℕ) (rest : List ℕ) → Lacks (is_byte byte) (c ∷ rest) →
    ((c == byte) ≡ false) × Lacks (is_byte byte) rest
whole-byte byte c rest whole = or-none (c == byte) (list_any (is_byte byte) rest) whole

-- a text that has no such byte has none in its parts
pub lacks-parts : (test : ℕ → Bool) (xs ys : List ℕ) → Lacks test (xs ++ ys) →
    Lacks test xs × Lacks test ys
lacks-parts test xs ys e =
    or-none (list_any test xs) (list_any test ys) (sym (list_any-append test xs ys) ∙ e)

-- no byte of the first n passes the test
pub lacks-take : (test : ℕ → Bool) (xs : List ℕ) (n : ℕ) → n ≤ length xs →
    ((k : ℕ) → k < n → test (slice_index xs k) ≡ true → ⊥) → Lacks test (take n xs)
lacks-take test xs zero h none = refl
lacks-take test xs (suc n) h none =
    let head : Lacks test (take n xs) = lacks-take test xs n (omega arith)
    (λ k less. none k (omega arith)) in
    let last = not-true (test (slice_index xs n)) (none n (omega arith)) in
    let one : suc n ≡ n + 1 = omega arith in
    rw one (list_any_more test xs n 0 (omega arith) ∙ rw (head, last) refl)

-- at the start of a field, a plain text is read as within the field
start-field : (fields : List (List ℕ)) (field text : List ℕ) → IsPlain text
    → next_record default_config st.StartField fields field text
    ≡ next_record default_config st.InField fields field text
unfolding next_record
start-field fields field [] plain = refl
start-field fields field (c ∷ rest) plain =
    start-same fields field c rest (plain-byte c rest plain).0.0

-- the rest of a line, from within a field
rest-of-line : (fields : List (List ℕ)) (field line end rest : List ℕ)
    → IsPlain (line ++ end) → Lacks (is_byte 10) line
    → ((fs : List (List ℕ)) (f : List ℕ) → next_record default_config st.InField fs f end
    ≡ Some (fs ++ f ∷ [], st.StartRecord, rest))
    → next_record default_config st.InField fields field (line ++ end)
    ≡ Some (fields ++ cut_after field line, st.StartRecord, rest)
unfolding next_record cut_after
rest-of-line fields field [] end rest plain whole ends = ends fields field
rest-of-line fields field (c ∷ line) end rest plain whole ends =
    let marks = plain-byte c (line ++ end) plain in
    let feed = whole-byte 10 c line whole in
    elim (cases_Bool (c == 44)) [
      | inl comma ↦
          rw comma (
          start-field (fields ++ field ∷ []) [] (line ++ end) marks.1
          ∙ rest-of-line (fields ++ field ∷ []) [] line end rest marks.1 feed.1 ends
          ∙ ap (λ (fs : List (List ℕ)). Some (fs, st.StartRecord, rest))
          (append_assoc fields (field ∷ []) (cut_after [] line)))
      | inr other ↦
          rw (other, marks.0.1, feed.0)
          (rest-of-line fields (field ++ c ∷ []) line end rest marks.1 feed.1 ends)
    ]

-- the record of a line that ends at `end`
ends-feed : (rest : List ℕ) (fs : List (List ℕ)) (f : List ℕ)
    → next_record default_config st.InField fs f (10 ∷ rest)
    ≡ Some (fs ++ f ∷ [], st.StartRecord, rest)
unfolding next_record
ends-feed rest fs f = refl

ends-text : (fs : List (List ℕ)) (f : List ℕ)
    → next_record default_config st.InField fs f [] ≡ Some (fs ++ f ∷ [], st.StartRecord, [])
unfolding next_record
ends-text fs f = refl

-- the first line of a plain text is its first record
at-start : (line end rest : List ℕ) → 0 < length line → IsPlain (line ++ end) →
    Lacks (is_byte 10) line
    → ((fs : List (List ℕ)) (f : List ℕ) → next_record default_config st.InField fs f end
    ≡ Some (fs ++ f ∷ [], st.StartRecord, rest))
    → next_record default_config st.StartRecord [] [] (line ++ end)
    ≡ Some (record_of_line line rest)
at-start [] end rest some plain whole ends = absurd (omega arith)
at-start (c ∷ line) end rest some plain whole ends =
    record-same [] [] c (line ++ end) (plain-byte c (line ++ end) plain).0.1
    (whole-byte 10 c line whole).0
    ∙ start-field [] [] (c ∷ line ++ end) plain
    ∙ rest-of-line [] [] (c ∷ line) end rest plain whole ends

pub first-record : (text line rest : List ℕ) → IsPlain text → IsFirstLine text line rest
    → (next_record default_config st.StartRecord [] [] text ≡ Some (record_of_line line rest))
    × IsPlain rest
first-record text line rest plain (some, whole, (end, split, inl feed)) =
    let all : text ≡ line ++ 10 ∷ rest = split ∙ ap (λ (e : List ℕ). line ++ e) feed in
    let plain' : IsPlain (line ++ 10 ∷ rest) = rw all at plain in
    let tail = (lacks-parts (is_byte2 34 13) line (10 ∷ rest) plain').1 in
    (rw all (at-start line (10 ∷ rest) rest some plain' whole (ends-feed rest)), tail)
first-record text line rest plain (some, whole, (end, split, inr (last, none))) =
    let all : text ≡ line ++ [] = split ∙ ap (λ (e : List ℕ). line ++ e) last in
    let plain' : IsPlain (line ++ []) = rw all at plain in
    (rw (all, none) (at-start line [] [] some plain' whole ends-text), rw none refl)

-- an empty line isn't a record
pub empty-line : (rest : List ℕ)
    → next_record default_config st.StartRecord [] [] (10 ∷ rest)
    ≡ next_record default_config st.StartRecord [] [] rest
unfolding next_record
empty-line rest = refl

-- a line without commas is a single field
pub cut-whole : (field line : List ℕ) → Lacks (is_byte 44) line →
    cut_after field line ≡ (field ++ line) ∷ []
unfolding cut_after
cut-whole field [] whole = rw (append-nil field) refl
cut-whole field (c ∷ line) whole =
    let parts = whole-byte 44 c line whole in
    rw parts.0 (cut-whole (field ++ c ∷ []) line parts.1
    ∙ ap (λ (f : List ℕ). f ∷ []) (append_assoc field (c ∷ []) line))

-- the first comma ends the first field
pub cut-first : (field line rest : List ℕ) → Lacks (is_byte 44) line →
    cut_after field (line ++ 44 ∷ rest) ≡ (field ++ line) ∷ cut_at_commas rest
unfolding cut_after
cut-first field [] rest whole = rw (append-nil field) refl
cut-first field (c ∷ line) rest whole =
    let parts = whole-byte 44 c line whole in
    rw parts.0 (cut-first (field ++ c ∷ []) line rest parts.1
    ∙ ap (λ (f : List ℕ). f ∷ cut_at_commas rest) (append_assoc field (c ∷ []) line))

-- the fields of a line, if the first one is taken to the fields before it
pub cut-more : (before : List (List ℕ)) (line head rest : List ℕ) → line ≡ head ++ 44 ∷ rest →
    Lacks (is_byte 44) head →
    before ++ head ∷ [] ++ cut_at_commas rest ≡ before ++ cut_at_commas line
cut-more before line head rest split whole =
    append_assoc before (head ∷ []) (cut_at_commas rest)
    ∙ ap (λ (fs : List (List ℕ)). before ++ fs) (sym (cut-first [] head rest whole))
    ∙ ap (λ (text : List ℕ). before ++ cut_at_commas text) (sym split)

-- a field of some fields is at the same place of more fields
pub field_at-more : (fields later : List (List ℕ)) (i : ℕ) (field : List ℕ) →
    field_at fields i ≡ Some field → field_at (fields ++ later) i ≡ Some field
unfolding field_at
field_at-more [] later i field found = cc found
field_at-more (first ∷ fields) later zero field found = found
field_at-more (first ∷ fields) later (suc i) field found = field_at-more fields later i field found

field_at-last : (fields : List (List ℕ)) (field : List ℕ) (i : ℕ) → i ≡ length fields →
    field_at (fields ++ field ∷ []) i ≡ Some field
unfolding field_at
field_at-last [] field zero same = refl
field_at-last [] field (suc i) same = absurd (omega (arith, same))
field_at-last (first ∷ fields) field zero same = absurd (omega (arith, same))
field_at-last (first ∷ fields) field (suc i) same =
    field_at-last fields field i (omega (arith, same))

-- one more field, which is kept if it is one of the first sixteen
pub HasFields-kept : (fields : List (List ℕ)) (old new : Fields) (field : Bor (List ℕ)) →
    HasFields fields old → new.count ≡ old.count + 1 → old.count < 16 →
    new.first ≡ set old.first old.count field → HasFields (fields ++ field.now ∷ []) new
HasFields-kept fields old new field has count few written = record {
  count = omega (arith, count, has.count, length_push fields field.now);
  places = ap length written ∙ length-set old.first old.count field ∙ has.places;
  first = λ i other inside early here. elim (cases_eq i old.count) [
    | inl last ↦
        let same : other ≡ field = here ∙ ap (λ (fs : List (Bor (List ℕ))). get_or fs i other) written
        ∙ rw last (get_or-set_same old.first old.count field other (omega (arith, few, has.places))) in
        field_at-last fields field.now i (last ∙ has.count)
        ∙ ap (λ (f : Bor (List ℕ)). Some f.now) (sym same)
    | inr before ↦
        let same : other ≡ get_or old.first i other = here
        ∙ ap (λ (fs : List (Bor (List ℕ))). get_or fs i other) written
        ∙ get_or-set_other old.first old.count i field other before in
        field_at-more fields (field.now ∷ []) i other.now
        (has.first i other (omega (arith, inside, count, before)) early same)
  ];
}

pub HasFields-counted : (fields : List (List ℕ)) (old new : Fields) (field : List ℕ) →
    HasFields fields old → new.count ≡ old.count + 1 → 16 ≤ old.count →
    new.first ≡ old.first → HasFields (fields ++ field ∷ []) new
HasFields-counted fields old new field has count many same = record {
  count = omega (arith, count, has.count, length_push fields field);
  places = ap length same ∙ has.places;
  first = λ i other inside early here.
      field_at-more fields (field ∷ []) i other.now
      (has.first i other (omega (arith, early, many)) early
      (here ∙ ap (λ (fs : List (Bor (List ℕ))). get_or fs i other) same));
}

-- a text that does not begin with 0xEF has no byte order mark
pub no-mark : (text : List ℕ) → (0 < length text → slice_index text 0 ≡ 0xEF → ⊥) →
    strip_bom text ≡ text
unfolding strip_bom
no-mark [] other = refl
no-mark (a ∷ []) other = refl
no-mark (a ∷ b ∷ []) other = refl
no-mark (a ∷ b ∷ c ∷ rest) other =
    let no_mark : (a == 0xEF) ≡ false = not-true (a == 0xEF)
    (λ same. other (omega arith) (eqb-true a 0xEF same)) in
    rw no_mark refl

-- the bytes starting at an index begin with the byte at this index
pub byte-first : (text : List ℕ) (i byte : ℕ) → i < length text → slice_index text i ≡ byte →
    drop i text ≡ byte ∷ drop (i + 1) text
byte-first text i byte inside same =
    rw add-one (drop-cons text i 0 inside ∙ ap (λ b. b ∷ drop (suc i) text) same)

-- the first byte of this kind splits a text
pub found-at : (byte : ℕ) (text : List ℕ) (end : ℕ) → IsFirstByte (is_byte byte) text (Some end)
    → (end < length text) × (text ≡ take end text ++ byte ∷ drop (end + 1) text)
    × Lacks (is_byte byte) (take end text)
found-at byte text end (before, at) =
    let inside : end < length text = before.high in
    let same = eqb-true (slice_index text end) byte at in
    let rest = byte-first text end byte inside same in (
      inside,
      sym (take-append-drop end text) ∙ ap (λ (t : List ℕ). take end text ++ t) rest,
      lacks-take (is_byte byte) text end (omega arith)
          (λ k less passes. before.before k (omega arith) less passes),
    )

-- if there is none, no byte passes the test
pub found-none : (test : ℕ → Bool) (text : List ℕ) → IsFirstByte test text None → Lacks test text
found-none test text none =
    let all : take (length text) text ≡ text = take-length text in
    rw all at (lacks-take test text (length text) (omega arith)
    (λ k less passes. none k (omega arith) less passes))

-- one more empty line
pub empty-more : (text : List ℕ) (i : ℕ) → i < length text → slice_index text i ≡ 10 →
    IsPlain (drop i text)
    → (next_record default_config st.StartRecord [] [] (drop (i + 1) text)
    ≡ next_record default_config st.StartRecord [] [] (drop i text)) × IsPlain (drop (i + 1) text)
empty-more text i inside feed plain =
    let rest = byte-first text i 10 inside feed in
    let parts = plain-byte 10 (drop (i + 1) text) (rw rest at plain) in (
      sym (ap (λ (t : List ℕ). next_record default_config st.StartRecord [] [] t) rest
          ∙ empty-line (drop (i + 1) text)),
      parts.1,
    )

-- a range up to the end of a text
pub range-to_end : (k : ℕ) (text : List ℕ) → take (length text - k) (drop k text) ≡ drop k text
range-to_end k text = take_all (length text - k) (drop k text) (omega (arith, length-drop k text))

-- the text lacks such a byte, if a search finds none
pub lacks-none : (test : ℕ → Bool) (text : List ℕ) (found : Option ℕ) (none : Bool)
    → IsFirstByte test text found → is_some found ≡ not none → none ≡ true → Lacks test text
lacks-none test text None none first e is_none = found-none test text first
lacks-none test text (Some end) none first e is_none = cc (e, ap not is_none)

none-of : (none : Bool) → false ≡ not none → none ≡ true
none-of true e = refl
none-of false e = cc e

some-of : (none : Bool) → true ≡ not none → none ≡ false
some-of true e = cc e
some-of false e = refl

-- a line is plain if a search finds none of the three bytes
pub plain-found : (line : List ℕ) (found : Option ℕ) (none : Bool) →
    IsFirstByte (is_byte3 34 13 10) line found → is_some found ≡ not none →
    none ≡ is_plain_line line
plain-found line None none first e =
    let lacks : list_any (is_byte3 34 13 10) line ≡ false =
    found-none (is_byte3 34 13 10) line first in
    none-of none e ∙ ap not (sym lacks)
plain-found line (Some at) none (before, passes) e =
    let some : list_any (is_byte3 34 13 10) line ≡ true =
    list_any_at (is_byte3 34 13 10) line at 0 before.high passes in
    some-of none e ∙ ap not (sym some)

-- no line remains
pub first-none : (text rest : List ℕ)
    → next_record default_config st.StartRecord [] [] rest
    ≡ next_record default_config st.StartRecord [] [] text
    → length rest ≡ 0 → next_record default_config st.StartRecord [] [] text ≡ None
unfolding next_record
first-none text [] same empty = sym same
first-none text (c ∷ rest) same empty = absurd (omega arith)

-- the first line ends with a line feed
pub first-ended : (text rest : List ℕ) (end : ℕ)
    → next_record default_config st.StartRecord [] [] rest
    ≡ next_record default_config st.StartRecord [] [] text
    → IsPlain rest → (0 < length rest → slice_index rest 0 ≡ 10 → ⊥)
    → IsFirstByte (is_byte 10) rest (Some end)
    → (next_record default_config st.StartRecord [] [] text
    ≡ Some (record_of_line (take end rest) (take (length rest - (end + 1)) (drop (end + 1) rest))))
    × IsPlain (take (length rest - (end + 1)) (drop (end + 1) rest))
first-ended text rest end same plain other first =
    let found = found-at 10 rest end first in
    let inside = found.0 in
    let feed : slice_index rest end ≡ 10 = eqb-true (slice_index rest end) 10 first.1 in
    let some : 0 < end = not-first rest end feed (other (omega arith)) in
    let long : 0 < length (take end rest) = omega (arith, length-take end rest) in
    let head = first-record rest (take end rest) (drop (end + 1) rest) plain
    (long, found.2, (10 ∷ drop (end + 1) rest, found.1, inl refl)) in
    rw (range-to_end (end + 1) rest) (sym same ∙ head.0, head.1)
  where
    not-first : (rest : List ℕ) (end : ℕ) → slice_index rest end ≡ 10 →
        (slice_index rest 0 ≡ 10 → ⊥) → 0 < end
    not-first rest zero feed other = absurd (other feed)
    not-first rest (suc n) feed other = omega arith

-- the first line ends with the text
pub first-last : (text rest : List ℕ)
    → next_record default_config st.StartRecord [] [] rest
    ≡ next_record default_config st.StartRecord [] [] text
    → IsPlain rest → 0 < length rest → IsFirstByte (is_byte 10) rest None
    → next_record default_config st.StartRecord [] [] text ≡ Some (record_of_line rest [])
first-last text rest same plain some none =
    sym same ∙ (first-record rest rest [] plain
    (some, found-none (is_byte 10) rest none, ([], sym (append-nil rest), inr (refl, refl)))).0
