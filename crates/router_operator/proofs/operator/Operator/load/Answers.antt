-- A source is answered as a script answers it.
use Rattle.router_operator.proofs.NamingFilters.{loads}
use Rattle.router_operator.proofs.operator.Operator.load.Goals as goal

pub returns-clause-ok : goal.returns-clause-ok
returns-clause-ok g c =
    let i = c.self.inside in
    loads c.args.self.now i.router.now i.pass i.filters c.name_source.new.filters i.links.now i.has_quit i.size i.limit c.self.view_is
    c.self.invariant.0 c.name_source.result c.args.source c.args.number c.args.name.now c.args.out.now.items c.name_source.new.out.items
    c.name_source.ensures.ok
