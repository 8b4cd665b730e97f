-- The text of the source was read.
use Rattle.std.proofs.Common.{inl, inr}
use Rattle.std.proofs.lemmas.Result.{IfErr-weaker, IfOk-weaker}
use Rattle.ncroute.proofs.domain_loading.push_source.Goals as goal

pub returns-in-Text-clause-added : goal.returns-in-Text-clause-added
returns-in-Text-clause-added g c =
    IfOk-weaker c.push_filter.result _ _ (λ is_added adds. inl (c.in-Text.text.items, c.read.new.self, c.in-Text.ensures.loaded, adds))
    (rw c.as_slice.ensures.value at c.push_filter.ensures.added)

pub returns-in-Text-clause-stopped : goal.returns-in-Text-clause-stopped
returns-in-Text-clause-stopped g c =
    IfErr-weaker c.push_filter.result _ _ (λ fault cuts. inr (c.in-Text.text.items, c.read.new.self, c.in-Text.ensures.loaded, cuts))
    (rw c.as_slice.ensures.value at c.push_filter.ensures.stopped)
