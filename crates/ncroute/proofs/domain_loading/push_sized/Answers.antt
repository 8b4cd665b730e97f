-- The line includes a filter, or it stays as it is.
use Rattle.std.proofs.Common.{Option, IfOk, refl, subst}
use Rattle.std.proofs.lemmas.Result.{IfOk-weaker}
use Rattle.domain_files.specs.Including.{Including}
use Rattle.ncroute.specs.DomainLoading.{AddsSized}
use Rattle.ncroute.proofs.domain_loading.push_sized.Goals as goal

pub returns-in-Some-clause-added : goal.returns-in-Some-clause-added
returns-in-Some-clause-added g c =
    subst (λ (i : Option Including). IfOk c.push_included.result (AddsSized (g.F.Folder.opens c.args.files.now) c.args.size c.args.by.now c.args.line.now i
    c.args.out.now.items c.push_included.new.out.items c.args.console.now c.push_included.new.console)) c.in-Some.ensures c.push_included.ensures.added

pub returns-in-None-clause-added : goal.returns-in-None-clause-added
returns-in-None-clause-added g c =
    subst (λ (i : Option Including). IfOk c.push_line.result (AddsSized (g.F.Folder.opens c.args.files.now) c.args.size c.args.by.now c.args.line.now i
    c.args.out.now.items c.push_line.new.out.items c.args.console.now c.args.console.now)) c.in-None.ensures
    (IfOk-weaker c.push_line.result _ _ (λ is_added adds. (adds, refl)) c.push_line.ensures.added)
