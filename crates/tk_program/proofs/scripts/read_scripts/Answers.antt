use Rattle.std.proofs.Common.{inr, ℕ, Bor, List, [], arith, map, sym, subst}
use Rattle.std.specs.Prelude.{slice_index_or}
use Rattle.std.proofs.lemmas.List.{get_or-map}
use Rattle.std.proofs.lemmas.Result.{err_from_is_err_and}
use Rattle.tk_program.specs.declared.racer.Racer.{Racer}
use Rattle.tk_program.specs.declared.ending.Ending.{Ending}
use Rattle.tk_program.specs.Race.{IsScriptFrom, StopsScript}
use Rattle.tk_program.proofs.FilesRead.{all_zip-more}
use Rattle.tk_program.proofs.scripts.read_scripts.Goals as goal

pub returns-in_err-read_script-clause-err : goal.returns-in_err-read_script-clause-err
returns-in_err-read_script-clause-err g c =
    let names = c.args.names.now in
    let place = c.files.place in
    let none : Bor (List ℕ) = record { ref_ptr = (0, 0); now = [] } in
    let own = get_or-map (λ (name : Bor (List ℕ)). name.now) names place none [] c.files-test.true in
    let exit = err_from_is_err_and c.from_residual.result c.from_residual.ensures.1 in
    let stopped =
    subst (λ (name : List ℕ). StopsScript g.D.Folder.open_gives g.D.File.Read.remaining
    g.D.File.Source.read_gives c.args.folder.now place name c.in_err-read_script.field-0.0)
    (sym own) c.in_err-read_script.ensures.err in
    rw exit.1 (inr (
      place,
      c.files.scripts.items,
      c.files-test.true,
      c.files.invariant.read,
      subst (λ (ending : Ending). StopsScript g.D.Folder.open_gives g.D.File.Read.remaining
          g.D.File.Source.read_gives c.args.folder.now place
          (slice_index_or (map (λ (name : Bor (List ℕ)). name.now) names) place []) ending)
          (sym exit.2) stopped,
    ))

pub files-preserved : goal.files-preserved
files-preserved g c =
    let none : Bor (List ℕ) = record { ref_ptr = (0, 0); now = [] } in
    record {
      room = omega (
        arith,
        c.files.invariant.room,
        c.files-test.true,
        c.push_reserved.ensures.len,
        c.push_reserved.ensures.capacity,
      );
      read = all_zip-more (λ (name : Bor (List ℕ)) (script : Racer). IsScriptFrom
          g.D.Folder.open_gives g.D.File.Read.remaining g.D.File.Source.read_gives
          c.args.folder.now name.now script)
          c.args.names.now c.files.place none c.files.scripts.items
          c.push_reserved.new.self.items c.in_ok-read_script.field-0 c.files-test.true
          c.files.invariant.read c.in_ok-read_script.ensures.ok c.push_reserved.ensures.items;
    }
