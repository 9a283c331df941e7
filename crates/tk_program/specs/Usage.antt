-- The usage: what the program writes to standard output if its arguments are refused.
use Rattle.std.specs.Prelude.{◌≡◌, ◌⊎◌, ℕ, List, ◌++◌, Option, Bool, codes}
use Rattle.std.specs.Io.KnownBytes.{Appends}
use Rattle.tk_report.specs.Writing.{IsFlushed, IsWrittenUpTo, WriteFailed}
use Rattle.tk_program.specs.declared.ending.Ending.{Ending}
use Rattle.tk_program.specs.declared.ending.Ending.TheVariants as endings

-- its twelve lines
abbrev pub usage_text : List ℕ
usage_text =
    codes "tkcore 0.3.0 computes the clocks of Linux from readings of a counter.\n"
    ++ (codes "\n"
    ++ (codes "  tkcore < SCRIPT                    writes the report of a script of commands\n"
    ++ (codes "  tkcore replay [--keep N] < SCRIPT  folds its journal to N entries, 1 to 524288\n"
    ++ (codes "  tkcore trace CLOCK SCRIPT STAMPS   writes CLOCK in ns at each stamp of a file\n"
    ++ (codes "  tkcore many WORKERS FILE..         writes reports, made by 1 to 64 threads\n"
    ++ (codes "  tkcore race STEP FILE..            runs scripts concurrently on shared clocks\n"
    ++ (codes "\n"
    ++ (codes "CLOCK: realtime, monotonic, boottime, tai, monotonic_raw, realtime_coarse or\n"
    ++ (codes "monotonic_coarse. A name that begins with - must come after --.\n"
    ++ (codes "Status: 0 done, 1 a fault, 2 these arguments refused, 3 a read differs.\n"
    ++ codes "The manual page tkcore(1) describes scripts, reports and faults.\n"))))))))))

-- the bytes of a writer, if they are known, and the results of its calls, both before and after
module _ {W : Type 0} (contents : W → Option (List ℕ))
    (write_gives : W → List ℕ → Option ℕ → W → Type 0) (flush_gives : W → Bool → W → Type 0)
    (writer writer' : W) where
  -- the usage was written to its end and flushed; or the last write or the flush failed, after
  -- `written` bytes of it were written
  abbrev pub IsUsageWritten : Type 0
  IsUsageWritten =
      (Appends (contents writer) (contents writer') usage_text × IsFlushed flush_gives writer')
      ⊎ ((written : ℕ) × IsWrittenUpTo (contents writer) (contents writer') usage_text written
      × WriteFailed write_gives flush_gives writer')

  -- what is written after the output of an ending: the usage if the arguments were refused, and
  -- otherwise nothing
  abbrev pub IsFollowed : Ending → Type 0
  IsFollowed endings.Words = IsUsageWritten
  IsFollowed _ = writer' ≡ writer
