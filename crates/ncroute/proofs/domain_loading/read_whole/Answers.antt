-- The text was read, and then put together with its filters; or it is not there.
use Rattle.std.proofs.Common.{inl, inr, refl}
use Rattle.std.proofs.lemmas.Result.{IfOk-weaker}
use Rattle.ncroute.proofs.domain_loading.read_whole.Goals as goal

pub returns-in-Ok-Some-clause-finished : goal.returns-in-Ok-Some-clause-finished
returns-in-Ok-Some-clause-finished g c =
    let read = rw c.in-Ok-Some.field-0-is at c.in-Ok-Some.ensures.read in
    let includes = rw c.as_slice.ensures.value at c.include_filters.ensures.finished in
    IfOk-weaker c.include_filters.result _ _ (λ whole it. inl (c.in-Ok-Some.text.items, c.read_config.new.console, read, it)) includes

pub returns-in-Ok-None-clause-finished : goal.returns-in-Ok-None-clause-finished
returns-in-Ok-None-clause-finished g c = inr (rw c.in-Ok-None.field-0-is at c.in-Ok-None.ensures.read, refl)
