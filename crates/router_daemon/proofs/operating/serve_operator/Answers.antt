use Rattle.std.proofs.Common.{◌≡◌, ◌∙◌, ap, subst, List, ℕ}
use Rattle.std.specs.Prelude.{IfSome}
use Rattle.router_operator.specs.OperatorView.{OperatorView}
use Rattle.router_daemon.specs.Running.{Operates, operator_of}
use Rattle.router_daemon.proofs.Running.{operated}
use Rattle.router_daemon.proofs.operating.serve_operator.Goals as goal
use Rattle.slot_lock.specs.Passes.{RouterView}

pub returns : goal.returns
returns g c =
    let known = g.I.Read.remaining c.args.reader.now in
    let left = g.I.Read.remaining c.run-answered.new.reader in
    let held = g.W.Write.contents c.args.writer.now in
    let holds = g.W.Write.contents c.run-answered.new.writer in
    let shared = c.args.shared.now in
    let names = c.args.filters.entries in
    let now = c.new.result.pass in
    let begun : c.new-operator.result ≡ operator_of g.J.Naming.router c.args.pass names shared.nodes.items =
    c.new-operator.ensures
    ∙ ap (λ (r : RouterView). operator_of r c.args.pass names c.as_slice.result.now) shared.is_named
    ∙ ap (λ (l : List ℕ). operator_of g.J.Naming.router c.args.pass names l) c.as_slice.ensures.value in
    subst (λ (o : OperatorView). IfSome known (λ input. (end : OperatorView) × (end.pass ≡ now) × Operates o end c.run-answered.result input left held holds))
    begun
    (operated c.new-operator.result c.run-answered.new.self now c.run-answered.result known left held holds (c.new.ensures ∙ c.pass.ensures.same)
    c.run-answered.ensures.served c.run-answered.ensures.broken_off)
