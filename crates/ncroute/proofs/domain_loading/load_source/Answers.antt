-- The whole text sets a domain up, or none; or it is not there.
use Rattle.std.proofs.Common.{inl, inr, refl}
use Rattle.std.proofs.lemmas.Result.{IfOk-weaker}
use Rattle.ncroute.proofs.domain_loading.load_source.Goals as goal

pub returns-in-Ok-Some-clause-finished : goal.returns-in-Ok-Some-clause-finished
returns-in-Ok-Some-clause-finished g c =
    let whole = rw c.in-Ok-Some.field-0-is at c.in-Ok-Some.ensures.finished in
    let sets = rw (c.name_of.ensures, c.as_slice.ensures.value) at c.set_up.ensures.finished in
    IfOk-weaker c.set_up.result _ _ (λ found it. inl (c.in-Ok-Some.text.items, c.read_whole.new.console, whole, it)) sets

pub returns-in-Ok-None-clause-finished : goal.returns-in-Ok-None-clause-finished
returns-in-Ok-None-clause-finished g c = inr (rw c.in-Ok-None.field-0-is at c.in-Ok-None.ensures.finished, refl)
