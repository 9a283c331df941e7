-- How the clocks of a script begin, by whether a discipline steers them.
use Rattle.std.specs.Prelude.{◌≡◌}
use Rattle.tk_report.specs.declared.beginning.Beginning.{Beginning}
use Rattle.tk_report.specs.declared.beginning.Beginning.TheVariants as beginning
use Rattle.tk_report.specs.declared.plain_start.PlainStart.{PlainStart}
use Rattle.tk_report.specs.declared.plain_start.PlainStart.TheVariants as plain
use Rattle.tk_report.specs.SteeredReport.{continued_from, steered_from}
use Rattle.tk_script.specs.declared.opening.Start.{Start}
use Rattle.tk_script.specs.declared.opening.Start.TheVariants.{Opened, Steered, Running, Continued}
use Rattle.tk_steered.specs.Kept.{SteeredKeeper}

-- clocks that no discipline steers, as a script begins them
abbrev pub start_of : PlainStart → Start
start_of (plain.Opened opening) = Opened opening
start_of (plain.Running clock front) = Running clock front

-- a discipline steers the clocks, and they begin as these ones
abbrev pub IsSteeredAs : Start → SteeredKeeper → Type 0
IsSteeredAs (Opened opening) first = ⊥
IsSteeredAs (Running clock front) first = ⊥
IsSteeredAs (Steered opening hz) first = first ≡ steered_from opening hz
IsSteeredAs (Continued clock front) first = first ≡ continued_from clock front

-- the clocks begin as the script says
abbrev pub IsBeginning : {A : Type 0} → Start → Beginning A → Type 0
IsBeginning start (beginning.Plain plain) = start ≡ start_of plain
IsBeginning start (beginning.Steered first) = IsSteeredAs start first
