use Rattle.std.proofs.Common.{◌<◌, All, IsTrue, length, map, sym, subst, ◌∙◌, refl, arith, rules}
use Rattle.std.proofs.lemmas.List.{length-map, take_all}
use Rattle.std.proofs.lemmas.List.Elements.{All-push}
use Rattle.netchange_core.specs.Consistent.{IsConsistentNeighbour, IsOwn}
use Rattle.netchange_core.specs.Kept.{view_of}
use Rattle.netchange_core.specs.World.{neighbour_at, nobody}
use Rattle.netchange_core.proofs.Lists.{map_taken}
use Rattle.netchange_core.proofs.Views.{view_at}
use Rattle.netchange_core.proofs.consistent.are_consistent.Goals as goal

pub returns-then-not-is_consistent : goal.returns-then-not-is_consistent
returns-then-not-is_consistent c = (
  λ wrong. search rules,
  λ are.
      let o = c.args.opening.now in
      let ns = c.args.neighbours.now in
      let i = c.loop-neighbour.neighbour-index in
      let item = c.neighbour-item.result in
      let short : i < length ns = omega arith in
      let there : i < length (map view_of ns) = omega (arith, length-map ns view_of) in
      let good = subst (IsConsistentNeighbour o) (sym (view_at ns i item short)) (are.each i nobody there) in
      let yes : IsTrue c.is_consistent.result =
      c.is_consistent.ensures.1 (subst (λ m. IsConsistentNeighbour o (view_of m)) (sym c.neighbour-item.is) good) in
      search (rules, yes),
)

pub loop-neighbour-preserved : goal.loop-neighbour-preserved
loop-neighbour-preserved c =
    let o = c.args.opening.now in
    let ns = c.args.neighbours.now in
    let i = c.loop-neighbour.neighbour-index in
    let item = c.neighbour-item.result in
    let short : i < length ns = omega arith in
    let good : IsConsistentNeighbour o (view_of item) = search rules in
    subst (All (IsConsistentNeighbour o)) (map_taken view_of ns i item short)
    (All-push (IsConsistentNeighbour o) _ _ c.loop-neighbour.invariant
    (subst (λ m. IsConsistentNeighbour o (view_of m)) c.neighbour-item.is good))

pub returns : goal.returns
returns c =
    let o = c.args.opening.now in
    let ns = c.args.neighbours.now in
    let own = c.index-neighbours-from.result in
    let k = c.from-2.result in
    let short : k < length ns = omega arith in
    let never : IsOwn (view_of own) = search rules in (
      λ _. record {
        one_a_node = length-map ns view_of ∙ (omega arith);
        own = subst (λ j. IsOwn (neighbour_at (map view_of ns) j)) (c.from-2.ensures ∙ c.me.ensures.value)
            (subst IsOwn (view_at ns k own short) (subst (λ m. IsOwn (view_of m)) c.index-neighbours-from.is never));
        each = subst (λ ms. All (IsConsistentNeighbour o) (map view_of ms))
            (take_all c.loop-neighbour.neighbour-index ns (omega arith)) c.loop-neighbour.invariant;
      },
      λ _. refl,
    )
