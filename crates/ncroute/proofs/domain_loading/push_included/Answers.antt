-- The name of the file is UTF-8, or it is not.
use Rattle.std.proofs.Common.{inl, inr, refl}
use Rattle.std.proofs.lemmas.Result.{IfErr-weaker, IfOk-weaker}
use Rattle.ncroute.proofs.domain_loading.push_included.Goals as goal

pub returns-in-Ok-clause-added : goal.returns-in-Ok-clause-added
returns-in-Ok-clause-added g c =
    let adds = rw c.in-Ok.ensures.cases.0 at c.push_file.ensures.added in
    IfOk-weaker c.push_file.result _ _ (λ is_added it. inl (c.in-Ok.ensures.cases.1, it)) adds

pub returns-in-Ok-clause-stopped : goal.returns-in-Ok-clause-stopped
returns-in-Ok-clause-stopped g c = rw c.in-Ok.ensures.cases.0 at c.push_file.ensures.stopped

pub returns-in-Err-clause-added : goal.returns-in-Err-clause-added
returns-in-Err-clause-added g c =
    IfOk-weaker c.push_line.result _ _ (λ is_added adds. inr (c.in-Err.ensures.cases.0, adds, refl)) c.push_line.ensures.added

pub returns-in-Err-clause-stopped : goal.returns-in-Err-clause-stopped
returns-in-Err-clause-stopped g c =
    IfErr-weaker c.push_line.result _ _ (λ fault memory. inl (memory, refl)) c.push_line.ensures.stopped
