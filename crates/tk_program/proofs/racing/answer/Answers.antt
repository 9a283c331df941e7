use Rattle.std.proofs.Common.{Bor, ℕ, List, sym, subst}
use Rattle.std.specs.List.{All}
use Rattle.tk_program.specs.declared.racer.Racer.{Racer}
use Rattle.tk_program.specs.Race.{IsOpenable, IsScriptFrom}
use Rattle.tk_program.proofs.Openable.{all_zip-all}
use Rattle.tk_program.proofs.racing.answer.Goals as goal

pub race_all-requires-clause-opens : goal.race_all-requires-clause-opens
race_all-requires-clause-opens g c called lives =
    subst (All IsOpenable) (sym c.as_slice-in-Ok-actors_of.ensures.value)
    (all_zip-all (λ (name : Bor (List ℕ)) (script : Racer). IsScriptFrom g.D.Folder.open_gives
    g.D.File.Read.remaining g.D.File.Source.read_gives c.args.folder.now name.now script)
    IsOpenable (λ name script read. read.1)
    c.args.files.now c.in-Ok.scripts.items c.in-Ok.ensures.ok)
