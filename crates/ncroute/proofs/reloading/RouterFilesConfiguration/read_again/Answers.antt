-- The files of the domain are those that the router was started by.
use Rattle.std.proofs.Common.{◌∙◌, Ok, ap}
use Rattle.std.proofs.lemmas.Result.{IfOk-weaker}
use Rattle.ncroute.proofs.reloading.RouterFilesConfiguration.read_again.Goals as goal

pub returns-in-Some : goal.returns-in-Some
returns-in-Some g c =
    IfOk-weaker c.take_domain.result _ _ (λ configured says. (c.in-Some.origin, c.in-Ok-Ok.is-0 ∙ ap Ok c.in-Some.is, says)) c.take_domain.ensures
