-- The filter of the name is the event's.
use Rattle.std.proofs.Common.{ℕ, Global, Ok, Option, Some, ap, sym, ◌∙◌}
use Rattle.std.specs.Option.{option_map}
use Rattle.std.specs.declared.sync.Arc.{Arc}
use Rattle.filter_verifier.specs.VerifiedView.{VerifiedView}
use Rattle.operator_cmds.specs.Script.{setting}
use Rattle.router_operator.specs.OperatorView.{OperatorView, filter_of}
use Rattle.router_operator.proofs.NamingFilters.{uses}
use Rattle.router_operator.proofs.operator.Operator.use_filter.Goals as goal

pub returns-then-eq-clause-ok : goal.returns-then-eq-clause-ok
returns-then-eq-clause-ok g c =
    uses {E = ℕ} (Ok c.in_ok-reply.reply) (filter_of c.args.self.now.names c.args.name.now) (setting c.args.direction c.args.node)
    c.in_ok-try_clone.field-0 c.event-event.result c.args.number c.args.self.now _ c.args.out.now.items c.enter.new.out.items
    (ap (λ (o : OperatorView). filter_of o.names c.args.name.now) (sym c.self.view_is)
    ∙ ap (λ (found : Option (Arc VerifiedView Global)). option_map (λ filter. filter.value) found) (sym c.in-Some.ensures.value)
    ∙ ap Some (sym c.in_ok-try_clone.ensures))
    c.event-event.ensures c.in_ok-reply.ensures.ok

pub returns-else-eq-clause-ok : goal.returns-else-eq-clause-ok
returns-else-eq-clause-ok g c =
    uses {E = ℕ} (Ok c.in_ok-reply.reply) (filter_of c.args.self.now.names c.args.name.now) (setting c.args.direction c.args.node)
    c.in_ok-try_clone.field-0 c.event-event.result c.args.number c.args.self.now _ c.args.out.now.items c.enter.new.out.items
    (ap (λ (o : OperatorView). filter_of o.names c.args.name.now) (sym c.self.view_is)
    ∙ ap (λ (found : Option (Arc VerifiedView Global)). option_map (λ filter. filter.value) found) (sym c.in-Some.ensures.value)
    ∙ ap Some (sym c.in_ok-try_clone.ensures))
    c.event-event.ensures c.in_ok-reply.ensures.ok
