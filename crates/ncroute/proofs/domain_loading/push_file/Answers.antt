-- The source of the file is read.
use Rattle.std.proofs.Common.{inr}
use Rattle.std.proofs.lemmas.Result.{IfErr-weaker, IfOk-weaker}
use Rattle.ncroute.proofs.domain_loading.push_file.Goals as goal

pub returns-in-Ok-clause-added : goal.returns-in-Ok-clause-added
returns-in-Ok-clause-added g c =
    IfOk-weaker c.push_source.result _ _ (λ is_added adds. (c.in-Ok.source, c.in-Ok.ensures, adds)) c.push_source.ensures.added

pub returns-in-Ok-clause-stopped : goal.returns-in-Ok-clause-stopped
returns-in-Ok-clause-stopped g c =
    IfErr-weaker c.push_source.result _ _ (λ fault cuts. inr (c.in-Ok.source, c.in-Ok.ensures, cuts)) c.push_source.ensures.stopped
