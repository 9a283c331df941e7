use Rattle.std.proofs.Common.{inr, ℕ, Bor, List, [], arith, map, sym, subst}
use Rattle.std.specs.Prelude.{slice_index_or}
use Rattle.std.specs.Global.{Vec}
use Rattle.std.proofs.lemmas.List.{get_or-map}
use Rattle.std.proofs.lemmas.Result.{err_from_is_err_and}
use Rattle.tk_report.specs.declared.fault.Fault.{Fault}
use Rattle.tk_program.specs.Files.{IsReadFrom, StopsFile}
use Rattle.tk_program.proofs.FilesRead.{all_zip-more}
use Rattle.tk_program.proofs.files.read_files.Goals as goal

pub returns-in_err-read_file-clause-err : goal.returns-in_err-read_file-clause-err
returns-in_err-read_file-clause-err g c =
    let names = c.args.names.now in
    let place = c.files.name-index in
    let none : Bor (List ℕ) = record { ref_ptr = (0, 0); now = [] } in
    let own = get_or-map (λ (name : Bor (List ℕ)). name.now) names place none [] c.files-test.true in
    let exit = err_from_is_err_and c.from_residual-in_err-read_file.result
    c.from_residual-in_err-read_file.ensures.1 in
    let stopped =
    subst (λ (name : List ℕ). StopsFile g.D.Folder.open_gives g.D.File.Read.remaining
    g.D.File.Source.read_gives c.args.folder.now name c.in_err-read_file.field-0.0)
    (sym own) c.in_err-read_file.ensures.err in
    rw exit.1 (inr (
      place,
      c.files-test.true,
      subst (λ (fault : Fault). StopsFile g.D.Folder.open_gives g.D.File.Read.remaining
          g.D.File.Source.read_gives c.args.folder.now
          (slice_index_or (map (λ (name : Bor (List ℕ)). name.now) names) place []) fault)
          (sym exit.2) stopped,
    ))

pub files-preserved : goal.files-preserved
files-preserved g c =
    let none : Bor (List ℕ) = record { ref_ptr = (0, 0); now = [] } in
    record {
      room = omega (
        arith,
        c.files.invariant.room,
        c.files-test.true,
        c.push_reserved.ensures.len,
        c.push_reserved.ensures.capacity,
      );
      read = all_zip-more (λ (name : Bor (List ℕ)) (text : Vec ℕ). IsReadFrom
          g.D.Folder.open_gives g.D.File.Read.remaining g.D.File.Source.read_gives
          c.args.folder.now name.now text.items)
          c.args.names.now c.files.name-index none c.files.texts.items
          c.push_reserved.new.self.items c.in_ok-read_file.field-0 c.files-test.true
          c.files.invariant.read c.in_ok-read_file.ensures.ok c.push_reserved.ensures.items;
    }
