-- The text of a race.
use Rattle.std.specs.Prelude.{ℕ, ◌+◌, List, [], ◌∷◌, ◌++◌, codes, decimal, sum_by}
use Rattle.tk_race.specs.declared.action.RaceReply.{RaceReply}
use Rattle.tk_race.specs.declared.action.RaceReply.TheVariants.{Refused}
use Rattle.tk_race.specs.Replies.{done_in}

-- the number of refused orders among these replies
abbrev pub refused_by : RaceReply → ℕ
refused_by (Refused refusal) = 1
refused_by _ = 0

abbrev pub refused_in : List RaceReply → ℕ
refused_in replies = sum_by refused_by replies

-- an actor: `actor,ID,ACCEPTED,REFUSED`
abbrev pub actor_line : ℕ → List RaceReply → List ℕ
actor_line id replies =
    codes "actor," ++ decimal id ++ codes "," ++ decimal (done_in replies) ++ codes ","
    ++ decimal (refused_in replies)
    ++ codes "\n"

-- the actors, numbered on from this id
abbrev pub actor_lines : ℕ → List (List RaceReply) → List ℕ
actor_lines id [] = []
actor_lines id (replies ∷ others) = actor_line id replies ++ actor_lines (id + 1) others

-- a race: `entries,NUMBER`, and its actors
abbrev pub race_lines : ℕ → List (List RaceReply) → List ℕ
race_lines entries replies =
    codes "entries," ++ decimal entries ++ codes "\n" ++ actor_lines 0 replies
