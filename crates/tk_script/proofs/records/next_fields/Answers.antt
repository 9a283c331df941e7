use Rattle.csv.specs.Records.{fields_of}
use Rattle.tk_script.proofs.ReadingLemmas.{takes-read}
use Rattle.tk_script.proofs.records.next_fields.Goals as goal

pub returns-in-Ok-clause-takes : goal.returns-in-Ok-clause-takes
returns-in-Ok-clause-takes c = λ rs e.
    takes-read c.args.reader.now c.read_byte_record.new.self c.in-Ok.found
    (fields_of c.read_byte_record.new.row)
    rs c.requires (c.in-Ok.ensures.reads c.requires.0 c.requires.1) e
