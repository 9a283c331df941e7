-- The texts of the errors of a call that makes reports of many scripts.
use Rattle.std.specs.Prelude.{ℕ, List, codes}
use Rattle.tk_replay.specs.declared.many_error.ManyError.{ManyError}
use Rattle.tk_replay.specs.declared.many_error.ManyError.TheVariants.{Count, Memory, Threads}

abbrev pub many_text : ManyError → List ℕ
many_text Count = codes "count out of range"
many_text Memory = codes "out of memory"
many_text Threads = codes "cannot start a thread"
