use Rattle.std.proofs.Common.{IfOk, subst}
use Rattle.ncimport.specs.Importing.{ImportsCut}
use Rattle.ncimport.specs.Places.{ConfigView, config_of}
use Rattle.ncimport.proofs.Imported.{of_cut}
use Rattle.ncimport.proofs.importing.import_whole.Goals as goal

pub returns : goal.returns
returns g c =
    let imported = subst (λ (config : ConfigView). IfOk c.import_cut.result (ImportsCut (g.F.Folder.creates c.args.files.now)
    (g.F.Folder.leaves c.args.files.now) c.args.how.now config c.in_ok-cut.cut.words.items c.in_ok-cut.cut.end c.args.console.now
    c.import_cut.new.console)) c.in_ok-placed.ensures c.import_cut.ensures in
    of_cut (g.F.Folder.creates c.args.files.now) (g.F.Folder.leaves c.args.files.now) c.args.how.now (config_of c.args.whole.now) c.as_slice.result.now
    c.in_ok-cut.cut c.args.console.now c.import_cut.new.console c.import_cut.result c.as_slice.ensures.value c.in_ok-cut.ensures imported
