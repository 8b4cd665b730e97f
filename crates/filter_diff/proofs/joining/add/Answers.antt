use Rattle.std.proofs.Common.{◌≡◌, ◌<◌, List, length, get_or, refl, sym, subst, arith}
use Rattle.std.proofs.lemmas.Grind.{common_steps}
use Rattle.filter_diff.specs.Joins.{StandFor}
use Rattle.filter_diff.specs.declared.route_part.RoutePart.{RoutePart}
use Rattle.filter_diff.proofs.Adding.{add_joined, add_pushed}
use Rattle.filter_diff.proofs.joining.add.Goals as goal

pub returns-in-Some : goal.returns-in-Some
returns-in-Some c others stand =
    let there : c.index.result.now ≡ get_or c.loop-at.parts.items c.loop-at.at c.index.result.now = grind (arith, common_steps) in
    let within : c.loop-at.at < length c.loop-at.parts.items = grind (arith, common_steps) in
    add_joined c.loop-at.parts.items others _ c.loop-at.at c.index.result.now c.args.part.now c.in-Some.whole there within
    c.in-Some.ensures refl (subst (λ (ps : List RoutePart). StandFor ps others) (sym c.loop-at.invariant) stand)

pub returns : goal.returns
returns c others stand =
    add_pushed c.loop-at.parts.items others _ c.args.part.now c.in_ok-push.ensures.items
    (subst (λ (ps : List RoutePart). StandFor ps others) (sym c.loop-at.invariant) stand)
