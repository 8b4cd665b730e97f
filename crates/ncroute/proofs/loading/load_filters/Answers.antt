-- A filter is refused, of those that were read.
use Rattle.std.proofs.Common.{List, subst, inr}
use Rattle.router_script.specs.declared.filter_naming.NamedFilter.{NamedFilter}
use Rattle.ncroute.specs.Loading.{TellsOfUnfit}
use Rattle.ncroute.proofs.loading.load_filters.Goals as goal

pub returns-in-Ok-None-clause-finished : goal.returns-in-Ok-None-clause-finished
returns-in-Ok-None-clause-finished g c =
    let stderr_before = g.E.Write.contents c.args.errors.now in
    let stderr_after = g.E.Write.contents c.verify_given.new.errors in
    let lacks = rw c.in-Ok-None.field-0-is at c.in-Ok-None.ensures.finished in
    inr (
      c.in-Ok.given.items,
      c.in-Ok.ensures.read,
      subst (λ (given : List NamedFilter). TellsOfUnfit c.args.size given stderr_before stderr_after) c.as_slice.ensures.value lacks,
    )
