use Rattle.ncimport.proofs.Imported.{of_filter_result}
use Rattle.ncimport.proofs.importing.import_one.Goals as goal

pub returns : goal.returns
returns g c =
    of_filter_result (g.F.Folder.creates c.args.files.now) (g.F.Folder.leaves c.args.files.now) c.args.how.now c.args.placed.now c.args.conversion.now c.in_ok-filter_result.filter_result c.args.console.now _
    c.import_result.result c.in_ok-filter_result.ensures.filter_result c.in_ok-filter_result.ensures.noted c.import_result.ensures
