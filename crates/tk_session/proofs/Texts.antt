-- The records of a text without quotes are its lines, and a session over them makes its report.
use Rattle.std.proofs.Common.{◌≡◌, ◌∙◌, refl, sym, ap, ℕ, ◌≤◌, List, [], ◌∷◌, ◌++◌, length, Bool, true, false, inl, inr, arith}
use Rattle.std.specs.Prelude.{◌||◌, ◌&&◌, ◌==◌, ◌+◌, nat_eq, not, Option, Some, None, Err}
use Rattle.std.specs.List.{list_any}
use Rattle.std.proofs.lemmas.List.{append-nil}
use Rattle.std.proofs.lemmas.List.Folds.{list_any-append}
use Rattle.csv.specs.Machine.{Read, next_record}
use Rattle.csv.specs.Reading.{default_config, strip_bom}
use Rattle.csv.specs.declared.parser.State.TheVariants.{StartRecord}
use Rattle.memchr.specs.Find.{is_byte, is_byte2, is_byte3}
use Rattle.tk_clock.specs.Refusal.{first_refusal}
use Rattle.tk_report.specs.Reports.{IsReportBy}
use Rattle.tk_script.specs.Grammar.{parse_of, parse_records}
use Rattle.tk_script.specs.Plain.{IsFirstLine, IsPlain, Lacks, cut_at_commas, is_plain_line}
use Rattle.tk_script.specs.Records.{most_bytes, records_after, records_of}
use Rattle.tk_script.specs.declared.script_error.ScriptError.{ScriptError}
use Rattle.tk_script.proofs.GrammarLemmas.{parse-small, parse-start_fault}
use Rattle.tk_script.proofs.PlainLemmas.{empty-line, first-record, no-mark, or-none}
use Rattle.tk_script.proofs.RecordLemmas.{records_after-none, records_after-some}
use Rattle.tk_session.specs.Run.{IsRun, records_in}
use Rattle.tk_session.specs.Session.{IsNoOpening, IsOpenedBy, IsRefused, Session, Takes, is_plain_first}
use Rattle.tk_session.specs.Texts.{ArePlain, lines_of, text_of}
use Rattle.tk_session.specs.declared.fault.Fault.TheVariants.{Script}
use Rattle.tk_session.proofs.Faulty.{faulty}
use Rattle.tk_session.proofs.Reported.{reported}

and-both : (a b : Bool) → (a && b) ≡ true → (a ≡ true) × (b ≡ true)
and-both true b e = (refl, e)
and-both false b e = cc e

-- such a byte begins no byte order mark
unmarked : (byte : ℕ) → not (nat_eq byte 239) ≡ true → (byte ≡ 0xEF → ⊥)
unmarked byte other same =
    let mark : not (nat_eq byte 239) ≡ false = ap (λ n. not (nat_eq n 239)) same in
    cc (other, mark)

not-false : (b : Bool) → not b ≡ true → b ≡ false
not-false true e = cc e
not-false false e = refl

-- a plain line lacks each of the three bytes
lacks-three : (line : List ℕ) → list_any (is_byte3 34 13 10) line ≡ false →
    Lacks (is_byte2 34 13) line × Lacks (is_byte 10) line
lacks-three [] e = (refl, refl)
lacks-three (byte ∷ bytes) e =
    let parts = or-none (is_byte3 34 13 10 byte) (list_any (is_byte3 34 13 10) bytes) e in
    let later = lacks-three bytes parts.1 in
    let two = or-none (byte == 34 || byte == 13) (byte == 10) parts.0 in
    (rw (two.0, later.0) refl, rw (two.1, later.1) refl)

lacks-line : (line : List ℕ) → is_plain_line line ≡ true →
    Lacks (is_byte2 34 13) line × Lacks (is_byte 10) line
lacks-line line e = lacks-three line (not-false (list_any (is_byte3 34 13 10) line) e)

plain-text : (lines : List (List ℕ)) (last : List ℕ) → ArePlain lines last →
    IsPlain (text_of lines last)
plain-text [] last plain = (lacks-line last plain).0
plain-text (line ∷ lines) last (plain, later) =
    let here : list_any (is_byte2 34 13) line ≡ false = (lacks-line line plain).0 in
    let rest : list_any (is_byte2 34 13) (text_of lines last) ≡ false =
    plain-text lines last later in
    list_any-append (is_byte2 34 13) line (10 ∷ text_of lines last) ∙ rw (here, rest) refl

-- equal first records leave equal records
same-by : (a b : List ℕ) (found : Option Read) →
    next_record default_config StartRecord [] [] b ≡ found →
    next_record default_config StartRecord [] [] a ≡ found →
    records_after StartRecord a ≡ records_after StartRecord b
same-by a b None eb ea = records_after-none StartRecord a ea ∙ sym (records_after-none StartRecord b eb)
same-by a b (Some p) eb ea =
    records_after-some StartRecord a p ea ∙ sym (records_after-some StartRecord b p eb)

nothing-left : next_record default_config StartRecord [] [] [] ≡ None
unfolding next_record
nothing-left = refl

last-records : (last : List ℕ) → is_plain_line last ≡ true →
    records_after StartRecord last ≡ records_in (last ∷ [])
last-records [] plain = records_after-none StartRecord [] nothing-left
last-records (byte ∷ bytes) plain =
    let line = byte ∷ bytes in
    let lacks = lacks-line line plain in
    let first : IsFirstLine line line [] =
    (omega arith, lacks.1, ([], sym (append-nil line), inr (refl, refl))) in
    let record_is = (first-record line line [] lacks.0 first).0 in
    records_after-some StartRecord line (cut_at_commas line, StartRecord, []) record_is
    ∙ ap (λ (rs : List (List (List ℕ))). cut_at_commas line ∷ rs)
    (records_after-none StartRecord [] nothing-left)

pub records-lines : (lines : List (List ℕ)) (last : List ℕ) → ArePlain lines last →
    records_after StartRecord (text_of lines last) ≡ records_in (lines_of lines last)
records-lines [] last plain = last-records last plain
records-lines ([] ∷ lines) last (plain, later) =
    let rest = text_of lines last in
    same-by (10 ∷ rest) rest (next_record default_config StartRecord [] [] rest) refl (empty-line rest)
    ∙ records-lines lines last later
records-lines ((byte ∷ bytes) ∷ lines) last (plain, later) =
    let line = byte ∷ bytes in
    let rest = text_of lines last in
    let text = text_of (line ∷ lines) last in
    let first : IsFirstLine text line rest =
    (omega arith, (lacks-line line plain).1, (10 ∷ rest, refl, inl refl)) in
    let record_is = (first-record text line rest (plain-text (line ∷ lines) last (plain, later))
    first).0 in
    records_after-some StartRecord text (cut_at_commas line, StartRecord, rest) record_is
    ∙ ap (λ (rs : List (List (List ℕ))). cut_at_commas line ∷ rs)
    (records-lines lines last later)

-- the records of a script are its lines' records: its first line is not empty, and no byte order mark
-- begins it
pub records-script : (byte : ℕ) (bytes : List ℕ) (lines : List (List ℕ)) (last : List ℕ) →
    is_plain_first (byte ∷ bytes) ≡ true → ArePlain lines last →
    records_of (text_of ((byte ∷ bytes) ∷ lines) last)
    ≡ cut_at_commas (byte ∷ bytes) ∷ records_in (lines_of lines last)
records-script byte bytes lines last first plain =
    let line = byte ∷ bytes in
    let parts = and-both (is_plain_line line) (not (nat_eq byte 239)) first in
    let bare : strip_bom (text_of (line ∷ lines) last) ≡ text_of (line ∷ lines) last =
    no-mark (text_of (line ∷ lines) last) (λ some same. unmarked byte parts.1 same) in
    ap (λ (t : List ℕ). records_after StartRecord t) bare
    ∙ records-lines (line ∷ lines) last (parts.0, plain)

-- a line that a session took is plain
line-plain : (before : Session) (line text : List ℕ) (next : Session) →
    Takes before line text next → is_plain_line line ≡ true
line-plain before [] text next taken = refl
line-plain before (byte ∷ bytes) text next (row, known, plain, carried) = plain

-- so all of its lines are
pub run-plain : (lines : List (List ℕ)) (last : List ℕ) (before : Session) (text : List ℕ)
    (next : Session) → IsRun before (lines_of lines last) text next → ArePlain lines last
run-plain [] last before text next (first, rest, middle, taken, later, joined) =
    line-plain before last first middle taken
run-plain (line ∷ lines) last before text next (first, rest, middle, taken, later, joined) =
    (line-plain before line first middle taken, run-plain lines last middle rest next later)

-- the lines of a session are the report of the script whose text consists of its lines. `line` is the
-- first of them
pub script-reported : (byte : ℕ) (bytes made : List ℕ) (opened : Session)
    (lines : List (List ℕ)) (last text : List ℕ) (next : Session) →
    IsOpenedBy (byte ∷ bytes) made opened → IsRun opened (lines_of lines last) text next →
    length (text_of ((byte ∷ bytes) ∷ lines) last) ≤ most_bytes →
    IsReportBy first_refusal (text_of ((byte ∷ bytes) ∷ lines) last) (made ++ text)
    next.differences
script-reported byte bytes made opened lines last text next begins run few =
    let line = byte ∷ bytes in
    let (parse, known, report) = reported line made opened (lines_of lines last) text next begins run in
    let records = records-script byte bytes lines last begins.plain
    (run-plain lines last opened text next run) in
    (parse, parse-small (text_of (line ∷ lines) last) few ∙ rw records known, report)

-- if a session took the lines before one, and refuses that one by its fault, then the script has that
-- fault, and no report. `line` is the first line
pub script-faulty : (byte : ℕ) (bytes made : List ℕ) (opened : Session) (taken : List (List ℕ))
    (text : List ℕ) (next : Session) (bad : List ℕ) (error : ScriptError) (later : List (List ℕ))
    (lines : List (List ℕ)) (last : List ℕ) →
    IsOpenedBy (byte ∷ bytes) made opened → IsRun opened taken text next →
    IsRefused (next.records + 1) bad (Script error) → lines_of lines last ≡ taken ++ bad ∷ later →
    ArePlain lines last → length (text_of ((byte ∷ bytes) ∷ lines) last) ≤ most_bytes →
    parse_of (text_of ((byte ∷ bytes) ∷ lines) last) ≡ Err error
script-faulty byte bytes made opened taken text next bad error later lines last begins run refused
    all plain few =
    let line = byte ∷ bytes in
    parse-small (text_of (line ∷ lines) last) few
    ∙ ap parse_records (records-script byte bytes lines last begins.plain plain
    ∙ ap (λ (ls : List (List ℕ)). cut_at_commas line ∷ records_in ls) all)
    ∙ faulty line made opened taken text next bad error later begins run refused

-- if no session begins with the first line of a script, by its fault, then the script has that fault
pub script-unopened : (byte : ℕ) (bytes : List ℕ) (error : ScriptError) (lines : List (List ℕ))
    (last : List ℕ) → IsNoOpening (byte ∷ bytes) (Script error) → ArePlain lines last →
    length (text_of ((byte ∷ bytes) ∷ lines) last) ≤ most_bytes →
    parse_of (text_of ((byte ∷ bytes) ∷ lines) last) ≡ Err error
script-unopened byte bytes error lines last refused plain few =
    let line = byte ∷ bytes in
    parse-small (text_of (line ∷ lines) last) few
    ∙ ap parse_records (records-script byte bytes lines last refused.0 plain)
    ∙ parse-start_fault (cut_at_commas line ∷ records_in (lines_of lines last))
    (records_in (lines_of lines last)) (cut_at_commas line) error refl refused.1
