-- No filter has the name.
use Rattle.router_options.proofs.Growing.{unknown_filter}
use Rattle.router_options.proofs.plan.RouterPlan.read_use.Goals as goal

pub returns-then-not-has_filter-clause-refused : goal.returns-then-not-has_filter-clause-refused
returns-then-not-has_filter-clause-refused c =
    unknown_filter c.args.self.now _ c.args.uses.now c.args.text.now c.in_ok-used.used c.has_filter.result c.as_slice.result.now
    c.as_str.result.now c.self.view_is c.in_ok-used.ensures.read c.in_default.ensures c.as_slice.ensures.value c.as_str.ensures.value
    c.has_filter.ensures c.if-not-has_filter.true
