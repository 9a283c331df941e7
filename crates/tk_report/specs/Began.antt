-- How the clocks of a script began.
use Rattle.tk_clock.specs.Legal as legal
use Rattle.tk_clock.specs.Legal.{Beginning}
use Rattle.tk_script.specs.declared.opening.Start.{Start}
use Rattle.tk_script.specs.declared.opening.Start.TheVariants.{Opened, Steered, Running, Continued}

-- a script opens its clocks, or continues clocks that ran already
abbrev pub began_by : Start → Beginning
began_by (Opened opening) = legal.Opened
began_by (Steered opening hz) = legal.Opened
began_by (Running clock front) = legal.Given front clock
began_by (Continued clock front) = legal.Given front clock.clock
