-- The effect of a read on the remaining records.
use Rattle.std.proofs.Common.{◌≡◌, ℕ, List, [], Option, Some, None, Bool, Bor, refl}
use Rattle.std.specs.Prelude.{option_map}
use Rattle.csv.specs.Machine.{Read, next_record}
use Rattle.csv.specs.Reading.{NextIs, ReadsNext, ReadRecord, default_config, pending_of, source_of, strip_bom}
use Rattle.csv.specs.declared.parser.State.{State}
use Rattle.csv.specs.declared.parser.State.TheVariants as st
use Rattle.tk_script.specs.Records.{records_after, records_of}
use Rattle.tk_script.specs.Reading.{IsReading, SliceReader, Takes, left_of}
use Rattle.tk_script.proofs.RecordLemmas.{records_after-none, records_after-some}

-- by the next record of csv's state machine, if there is one
takes-next : (old new : State) (xs ys : List ℕ) (found : Bool) (fields : List (List ℕ))
    (next : Option Read)
    → next_record default_config old [] [] xs ≡ next → NextIs next found fields new ys
    → Takes found fields (records_after old xs) (Some (records_after new ys))
takes-next old new xs ys found fields None q n = rw n (records_after-none old xs q)
takes-next old new xs ys found fields (Some p) q n =
    rw (n.0, n.1, n.2, n.3) (records_after p.1 p.2, records_after-some old xs p q, refl)

-- by the remaining bytes of the source, as far as they are known
takes-known : (old new : State) (before after : Option (List ℕ)) (found : Bool)
    (fields : List (List ℕ)) (records : List (List (List ℕ)))
    → ReadsNext default_config old before after found fields new →
    option_map (records_after old) before ≡ Some records
    → Takes found fields records (option_map (records_after new) after)
takes-known old new None after found fields records h e = cc e
takes-known old new (Some xs) None found fields records h e = absurd h
takes-known old new (Some xs) (Some ys) found fields records h e =
    let same : records ≡ records_after old xs = cc e in
    rw same (takes-next old new xs ys found fields (next_record default_config old [] [] xs) refl h)

-- a read of a record takes the first of the remaining ones
pub takes-read : (old new : SliceReader) (found : Bool) (fields : List (List ℕ))
    (records : List (List (List ℕ)))
    → IsReading old → ReadRecord (λ (bytes : Bor (List ℕ)). Some bytes.now) old new found fields →
    left_of old ≡ Some records
    → Takes found fields records (left_of new)
takes-read old new found fields records ready read e =
    rw read.1 (takes-known old.state new.state _ (pending_of (Some new.rdr.now) new) found fields
    records (rw ready.2 at read.0) e)

-- for a new reader all records remain
pub left-all : (reader : SliceReader) (bytes : List ℕ)
    → source_of (λ (b : Bor (List ℕ)). Some b.now) reader ≡ Some (strip_bom bytes) →
    reader.state ≡ st.StartRecord
    → left_of reader ≡ Some (records_of bytes)
left-all reader bytes e h = rw (e, h) refl
