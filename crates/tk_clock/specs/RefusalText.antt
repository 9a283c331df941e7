-- The texts of refusals.
use Rattle.std.specs.Prelude.{ℕ, List, codes}
use Rattle.tk_clock.specs.declared.refusal.Refusal.{Refusal}
use Rattle.tk_clock.specs.declared.refusal.Refusal.TheVariants.{Full, Asleep, Awake, Invalid, Behind, Range, Memory}
use Rattle.tk_clock.specs.declared.refusal.ReadError.{ReadError}
use Rattle.tk_clock.specs.declared.refusal.ReadError.TheVariants as reads

-- the text of a refused command
abbrev pub refusal_text : Refusal → List ℕ
refusal_text Full = codes "full journal"
refusal_text Asleep = codes "clocks asleep"
refusal_text Awake = codes "clocks awake"
refusal_text Invalid = codes "reading, number or time out of range"
refusal_text Behind = codes "reading behind the last one"
refusal_text Range = codes "value out of range"
refusal_text Memory = codes "out of memory"

-- the text of a refused read
abbrev pub read_text : ReadError → List ℕ
read_text reads.Invalid = codes "reading above the mask"
read_text reads.Range = codes "value out of range"
