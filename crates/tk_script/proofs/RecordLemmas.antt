-- The number of records of a text, and the records after the first one.
use Rattle.std.proofs.Common.{◌≡◌, ◌≤◌, ◌+◌, ◌∙◌, ℕ, zero, suc, List, [], ◌∷◌, ◌++◌, length, Option, Some, None, Bool, true, false, refl, sym, ap, arith, cond, zero-add, add-one, ◌-◌}
use Rattle.std.specs.Prelude.{◌==◌, ◌&&◌}
use Rattle.csv.specs.Machine.{Read, next_record, step, is_end, ends_at_end, fields_after, field_after, in_field, start_field, start_record, ends_with, after_end, is_byte}
use Rattle.csv.specs.Reading.{default_config, records_from, records_next}
use Rattle.csv.specs.declared.parser.Config.{Config}
use Rattle.csv.specs.declared.parser.State.{State}
use Rattle.csv.specs.declared.parser.State.TheVariants as st
use Rattle.csv.specs.declared.parser.Action.{Action}
use Rattle.csv.specs.declared.parser.Terminator.{Terminator}
use Rattle.csv.specs.declared.parser.Terminator.TheVariants as term
use Rattle.tk_script.specs.Records.{records_after}

-- 1 if the end of the text would end a record, 0 otherwise
abbrev pub owed : State → ℕ
owed s = cond (ends_at_end s) 1 0

-- a step that ends a record leaves no record open
abbrev Closes : State × Action → Type 0
Closes p = is_end p.1 ≡ true → ends_at_end p.0 ≡ false

closes-cond : (b : Bool) (x y : State × Action) → Closes x → Closes y → Closes (cond b x y)
closes-cond true x y h k = h
closes-cond false x y h k = k

after_end-closed : (t : Terminator) (c : ℕ) → ends_at_end (after_end t c) ≡ false
after_end-closed term.CRLF c = by (c == 13)
  where
    by : (b : Bool) → ends_at_end (cond b st.AfterCr st.StartRecord) ≡ false
    by true = refl
    by false = refl
after_end-closed (term.Any t) c = refl

in_field-closes : (cfg : Config) (c : ℕ) → Closes (in_field cfg c)
in_field-closes cfg c =
    closes-cond (c == cfg.delimiter) _ _ (λ e. cc e)
    (closes-cond (ends_with cfg.terminator c) _ _ (λ e. after_end-closed cfg.terminator c) (λ e. cc e))

start_field-closes : (cfg : Config) (c : ℕ) → Closes (start_field cfg c)
start_field-closes cfg c = closes-cond (cfg.quoting && (c == cfg.quote)) _ _ (λ e. cc e) (in_field-closes cfg c)

start_record-closes : (cfg : Config) (c : ℕ) → Closes (start_record cfg c)
start_record-closes cfg c =
    closes-cond (ends_with cfg.terminator c) _ _ (λ e. cc e)
    (closes-cond (is_byte cfg.comment c) _ _ (λ e. cc e) (start_field-closes cfg c))

step-closes : (cfg : Config) (s : State) (c : ℕ) → Closes (step cfg s c)
step-closes cfg st.StartRecord c = start_record-closes cfg c
step-closes cfg st.StartField c = start_field-closes cfg c
step-closes cfg st.InField c = in_field-closes cfg c
step-closes cfg st.InQuoted c =
    closes-cond (cfg.quoting && (c == cfg.quote)) _ _ (λ e. cc e)
    (closes-cond (cfg.quoting && is_byte cfg.escape c) _ _ (λ e. cc e) (λ e. cc e))
step-closes cfg st.InEscape c = λ e. cc e
step-closes cfg st.AfterQuote c =
    closes-cond (cfg.quoting && cfg.double_quote && (c == cfg.quote)) _ _ (λ e. cc e) (in_field-closes cfg c)
step-closes cfg st.InComment c = closes-cond (c == 10) _ _ (λ e. cc e) (λ e. cc e)
step-closes cfg st.AfterCr c = closes-cond (c == 10) _ _ (λ e. cc e) (start_record-closes cfg c)

owed-le : (s : State) → owed s ≤ 1
owed-le s = by (ends_at_end s)
  where
    by : (b : Bool) → cond b 1 0 ≤ 1
    by true = omega arith
    by false = omega arith

-- a record takes at least one byte, or the end of the text
pub next_record-takes : (cfg : Config) (s : State) (fields : List (List ℕ)) (field xs : List ℕ) (p : Read)
    → next_record cfg s fields field xs ≡ Some p → length p.2 + owed p.1 + 1 ≤ length xs + owed s
unfolding next_record
next_record-takes cfg s fields field [] p e = by (ends_at_end s) e
  where
    by : (b : Bool) → cond b (Some (fields ++ (field ∷ []), st.StartRecord, [])) None ≡ Some p → length p.2 + owed p.1 + 1 ≤ 0 + cond b 1 0
    by true q = let same : (fields ++ (field ∷ []), st.StartRecord, []) ≡ p = cc q in rw (← same) (omega arith)
    by false q = cc q
next_record-takes cfg s fields field (c ∷ rest) p e = by (is_end (step cfg s c).1) refl e (next_record-takes cfg (step cfg s c).0 _ _ rest p)
  where
    by : (b : Bool) → is_end (step cfg s c).1 ≡ b
        → cond b (Some (fields_after (step cfg s c).1 fields field, (step cfg s c).0, rest)) (next_record cfg (step cfg s c).0 (fields_after (step cfg s c).1 fields field) (field_after (step cfg s c).1 c field) rest) ≡ Some p
        → (next_record cfg (step cfg s c).0 (fields_after (step cfg s c).1 fields field) (field_after (step cfg s c).1 c field) rest ≡ Some p → length p.2 + owed p.1 + 1 ≤ length rest + owed (step cfg s c).0)
        → length p.2 + owed p.1 + 1 ≤ length (c ∷ rest) + owed s
    by true q h more =
        let closed : ends_at_end (step cfg s c).0 ≡ false = step-closes cfg s c q in
        let same : (fields_after (step cfg s c).1 fields field, (step cfg s c).0, rest) ≡ p = cc h in
        rw (← same, closed) (omega arith)
    by false q h more =
        let less : length p.2 + owed p.1 + 1 ≤ length rest + owed (step cfg s c).0 = more h in
        let one : owed (step cfg s c).0 ≤ 1 = owed-le (step cfg s c).0 in
        omega arith

-- one more step changes nothing if the number of steps suffices
turn-more : (cfg : Config) (n : ℕ) (s : State) (xs : List ℕ) → length xs + owed s ≤ n → records_from cfg n s xs ≡ records_from cfg (suc n) s xs
unfolding records_from
turn-more cfg zero s xs h = by (next_record cfg s [] [] xs) refl
  where
    by : (o : Option Read) → next_record cfg s [] [] xs ≡ o → [] ≡ records_next (records_from cfg zero) o
    by None e = refl
    by (Some p) e = let less = next_record-takes cfg s [] [] xs p e in absurd (omega (arith, less))
turn-more cfg (suc n) s xs h = by (next_record cfg s [] [] xs) refl (turn-more cfg n)
  where
    by : (o : Option Read) → next_record cfg s [] [] xs ≡ o
        → ((t : State) (ys : List ℕ) → length ys + owed t ≤ n → records_from cfg n t ys ≡ records_from cfg (suc n) t ys)
        → records_next (records_from cfg n) o ≡ records_next (records_from cfg (suc n)) o
    by None e more = refl
    by (Some p) e more =
        let less = next_record-takes cfg s [] [] xs p e in
        ap (λ (rs : List (List (List ℕ))). p.0 ∷ rs) (more p.1 p.2 (omega (arith, less)))

turns-more : (cfg : Config) (k n : ℕ) (s : State) (xs : List ℕ) → length xs + owed s ≤ n → records_from cfg n s xs ≡ records_from cfg (k + n) s xs
turns-more cfg zero n s xs h = rw zero-add refl
turns-more cfg (suc k) n s xs h = turns-more cfg k n s xs h ∙ turn-more cfg (k + n) s xs (omega arith) ∙ ap (λ m. records_from cfg m s xs) (omega arith)

turns : (cfg : Config) (m n : ℕ) (s : State) (xs : List ℕ) → length xs + owed s ≤ n → n ≤ m → records_from cfg m s xs ≡ records_from cfg n s xs
turns cfg m n s xs h k = sym (turns-more cfg (m - n) n s xs h ∙ ap (λ j. records_from cfg j s xs) (omega arith))

-- no record remains
pub records_after-none : (s : State) (xs : List ℕ) → next_record default_config s [] [] xs ≡ None → records_after s xs ≡ []
unfolding records_from
records_after-none s xs e = rw (add-one, e) refl

-- a record, and the records after it
pub records_after-some : (s : State) (xs : List ℕ) (p : Read) → next_record default_config s [] [] xs ≡ Some p → records_after s xs ≡ p.0 ∷ records_after p.1 p.2
unfolding records_from
records_after-some s xs p e =
    let less : length p.2 + owed p.1 + 1 ≤ length xs + owed s = next_record-takes default_config s [] [] xs p e in
    let one : owed s ≤ 1 = owed-le s in
    let one' : owed p.1 ≤ 1 = owed-le p.1 in
    rw (add-one, e) (ap (λ (rs : List (List (List ℕ))). p.0 ∷ rs) (
    turns-more default_config 1 (length xs) p.1 p.2 (omega arith) ∙ turns default_config (1 + length xs) (length p.2 + 1) p.1 p.2 (omega arith) (omega arith)))
