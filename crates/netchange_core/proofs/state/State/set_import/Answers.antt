use Rattle.std.proofs.Common.{◌≡◌, ap, sym, subst, ◌∙◌, arith}
use Rattle.netchange_core.specs.Handling.{Handles}
use Rattle.netchange_core.specs.Kept.{views_of, world_of}
use Rattle.netchange_core.specs.Next.{importing, recomputed}
use Rattle.netchange_core.specs.World.{changed}
use Rattle.netchange_core.proofs.Goes.{import_goes, neighbour_below}
use Rattle.netchange_core.proofs.state.State.set_import.Goals as goal

pub import-requires-clause-node : goal.import-requires-clause-node
import-requires-clause-node c =
    let neighbour = sym c.is_no_neighbour.ensures ∙ c.if-is_no_neighbour.false in
    omega (arith, neighbour_below c.args.self.now.opening c.args.node neighbour, c.from-2.ensures)

pub import-requires-clause-size : goal.import-requires-clause-size
import-requires-clause-size c =
    ap (λ g. g.size) c.in_ok-filter.ensures ∙ ap (λ g. g.size) (sym c.deref.ensures) ∙ sym c.size.ensures.value
    ∙ c.if-size-from.false ∙ c.from.ensures ∙ c.size-2.ensures.value

pub returns : goal.returns
returns c =
    let s = c.args.self.now in
    let neighbour = sym c.is_no_neighbour.ensures ∙ c.if-is_no_neighbour.false in
    let size : c.args.filter.now.value.size ≡ s.opening.size =
    ap (λ g. g.size) (sym c.deref.ensures) ∙ sym c.size.ensures.value ∙ c.if-size-from.false ∙ c.from.ensures
    ∙ c.size-2.ensures.value in
    let e = import_goes s.opening s.sessions.count c.args.node (views_of s) c.args.filter.now.value neighbour size
    ∙ (λ i. recomputed (world_of s) (changed (world_of s) (sym c.from-2.ensures i) (importing (sym c.in_ok-filter.ensures i)))) in
    subst (λ a. Handles s a c.import.new.self c.import.result) (sym e) c.import.ensures
