-- A route that is the same has no effect.
use Rattle.std.proofs.Common.{◌≡◌, true, sym, ◌∙◌}
use Rattle.domain_cmds.specs.Texts.{is_same, route_of}
use Rattle.domain_cmds.proofs.ByColumn.{no_effect}
use Rattle.domain_cmds.proofs.counts.route_effect.Goals as goal

pub returns-then-is_same : goal.returns-then-is_same
returns-then-is_same c =
    let same : is_same (route_of c.args.size c.args.after.now c.args.u c.args.v) (route_of c.args.size c.args.before.now c.args.u c.args.v) ≡ true =
    (λ i. is_same (sym c.route_of.ensures i) (sym c.route_of-2.ensures i)) ∙ sym c.is_same.ensures ∙ c.if-is_same.true in
    sym (no_effect c.args.size c.args.what c.args.before.now c.args.after.now c.args.u c.args.v same)
