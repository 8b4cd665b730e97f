-- Where the folder is made nothing is read or written.
use Rattle.std.proofs.Common.{refl}
use Rattle.std.proofs.lemmas.Result.{IfErr-weaker}
use Rattle.ncroute.proofs.FolderMade.{with_streams}
use Rattle.ncroute.proofs.domain_router.make_folder.Goals as goal

pub returns-clause-finished : goal.returns-clause-finished
returns-clause-finished g c =
    rw (← c.console.view_is)
    (with_streams c.make_save.result _ _ _ _ (λ lacks. (lacks, refl, refl)) (λ folder makes. (makes.0, refl, refl, makes.1)) c.make_save.ensures.finished)

pub returns-clause-stopped : goal.returns-clause-stopped
returns-clause-stopped g c =
    rw (← c.console.view_is) (IfErr-weaker c.make_save.result _ _ (λ fault cuts. (cuts, refl, refl)) c.make_save.ensures.stopped)
