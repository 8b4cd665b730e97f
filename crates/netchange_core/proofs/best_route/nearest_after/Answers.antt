use Rattle.std.proofs.Common.{◌≡◌, ◌<◌, length, slice_index, slice_set, ap, sym, subst, ◌∙◌, arith}
use Rattle.std.proofs.lemmas.List.{get_or_default}
use Rattle.netchange_core.specs.Leading.{LeadsListed}
use Rattle.netchange_core.specs.Present.{present}
use Rattle.netchange_core.proofs.Nearest.{leads_nearest}
use Rattle.netchange_core.proofs.Scanned.{listed_leads}
use Rattle.netchange_core.proofs.best_route.nearest_after.Goals as goal

pub loop-session-preserved : goal.loop-session-preserved
loop-session-preserved c =
    let ps = c.args.present.now in
    let i = c.loop-session.session-index in
    let xs = slice_set c.args.distances.now c.args.hop c.args.near in
    let short : i < length ps = omega arith in
    c.nearer-best.ensures c.args.size i ps xs short
    (λ p. ap (λ q. q.node) (get_or_default ps i p (present 0 0) short))
    (c.requires.listed.named i (present 0 0) short)
    (ap (λ n. slice_index xs n) (sym c.from-k.ensures) ∙ sym c.distance_at.ensures)
    c.loop-session.invariant

pub returns : goal.returns
returns c =
    let ps = c.args.present.now in
    let xs = slice_set c.args.distances.now c.args.hop c.args.near in
    let best = c.loop-session.best in
    let whole : c.loop-session.session-index ≡ length ps = omega arith in
    leads_nearest c.args.size xs best
    (listed_leads c.args.size ps xs best c.requires.listed
    (subst (λ n. LeadsListed c.args.size n ps xs best) whole c.loop-session.invariant))
