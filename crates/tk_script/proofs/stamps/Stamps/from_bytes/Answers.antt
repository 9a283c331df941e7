use Rattle.std.proofs.Common.{arith, length, refl}
use Rattle.std.proofs.lemmas.Bool.{lt-ltb, le-ltb}
use Rattle.tk_script.specs.Records.{most_bytes}
use Rattle.tk_script.specs.Stamps.{stamps_of}
use Rattle.tk_script.proofs.ComingLemmas.{records_of-few}
use Rattle.tk_script.proofs.stamps.Stamps.from_bytes.Goals as goal

pub returns-then-bytes-gt-SIZE_LIMIT-clause-gives : goal.returns-then-bytes-gt-SIZE_LIMIT-clause-gives
unfolding stamps_of
returns-then-bytes-gt-SIZE_LIMIT-clause-gives c =
    rw (lt-ltb most_bytes (length c.args.bytes.now) c.if-bytes-gt-SIZE_LIMIT.true) refl

pub returns-clause-gives : goal.returns-clause-gives
unfolding stamps_of
returns-clause-gives c =
    rw (le-ltb most_bytes (length c.args.bytes.now) c.if-bytes-gt-SIZE_LIMIT.false)
    (rw c.open.ensures.left at c.read_stamps.ensures.gives)

pub read_stamps-requires-clause-left : goal.read_stamps-requires-clause-left
read_stamps-requires-clause-left c = rw c.open.ensures.left refl

pub read_stamps-requires-clause-few : goal.read_stamps-requires-clause-few
read_stamps-requires-clause-few c =
    let few = records_of-few c.args.bytes.now in
    rw c.open.ensures.left (omega (arith, few, c.if-bytes-gt-SIZE_LIMIT.false))
