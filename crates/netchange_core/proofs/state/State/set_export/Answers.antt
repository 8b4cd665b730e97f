use Rattle.std.proofs.Common.{◌≡◌, ap, sym, refl, subst, ◌∙◌, arith}
use Rattle.std.specs.Vec.{with_item}
use Rattle.netchange_core.specs.declared.reply.Reply.TheVariants as reply
use Rattle.netchange_core.specs.Calls.{MayNeedMemory}
use Rattle.netchange_core.specs.Kept.{distance_by, kept_distance, view_of, views_of}
use Rattle.netchange_core.specs.Next.{answered, exporting}
use Rattle.netchange_core.specs.World.{change, neighbour_at}
use Rattle.netchange_core.proofs.Change.{change_as}
use Rattle.netchange_core.proofs.Goes.{export_goes, exporting_kept, neighbour_below}
use Rattle.netchange_core.proofs.Good.{exporting_good}
use Rattle.netchange_core.proofs.States.{IsAtHand, all_same, changes_one, done, no_memory, still_right}
use Rattle.netchange_core.proofs.Worlds.{world}
use Rattle.netchange_core.proofs.state.State.set_export.Goals as goal
use Rattle.netchange_core.proofs.state.State.set_export.Goals.{After-index_mut-neighbour}

-- the neighbour
here : (c : After-index_mut-neighbour) → IsAtHand c.args.self.now c.args.self.now.neighbours.items c.from-2.result
    c.index_mut-neighbour.result.now
here c =
    let neighbour = sym c.is_no_neighbour.ensures ∙ c.if-is_no_neighbour.false in
    let below = neighbour_below c.args.self.now.opening c.args.node neighbour in
    record {
      within = omega (arith, below, c.requires.kept.neighbours.one_a_node);
      same = refl;
      is = c.index_mut-neighbour.ensures.value;
    }

-- the filter fits
fits : (c : After-index_mut-neighbour) → c.args.filter.now.value.size ≡ c.args.self.now.opening.size
fits c =
    ap (λ g. g.size) (sym c.deref.ensures) ∙ sym c.size.ensures.value ∙ c.if-size-from.false ∙ c.from.ensures
    ∙ c.size-2.ensures.value

pub returns-in_err-make_room_for : goal.returns-in_err-make_room_for
returns-in_err-make_room_for c =
    let s = c.args.self.now in
    let neighbour = sym c.is_no_neighbour.ensures ∙ c.if-is_no_neighbour.false in
    let size = fits (goal.at.returns-in_err-make_room_for c).After-index_mut-neighbour in
    no_memory s _ _ _ _ c.requires
    (all_same s c.requires _ c.from-2.result _ (here (goal.at.returns-in_err-make_room_for c).After-index_mut-neighbour)
    c.make_room_for.new.neighbour c.make_room_for.ensures.same) refl
    (subst (λ a. MayNeedMemory a.reply)
    (sym (export_goes s.opening s.sessions.count c.args.node (views_of s) c.args.filter.now.value neighbour size)) tt)
    c.from_residual-in_err-make_room_for.ensures.0

pub returns : goal.returns
returns c =
    let s = c.args.self.now in
    let o = s.opening in
    let k = c.from-2.result in
    let f = c.in_ok-filter.filter.value in
    let ds = s.destinations.items in
    let ns = views_of s in
    let g = exporting o (kept_distance ds) f in
    let neighbour = sym c.is_no_neighbour.ensures ∙ c.if-is_no_neighbour.false in
    let size = fits (goal.at.returns c).After-index_mut-neighbour in
    let was = here (goal.at.returns c).After-index_mut-neighbour in
    let one = changes_one s c.requires _ k _ was g c.export.new.neighbour
    (c.export.ensures
    ∙ ap (λ es. exporting o (kept_distance es) f (view_of c.make_room_for.new.neighbour)) c.deref-2.ensures.value
    ∙ ap g c.make_room_for.ensures.same)
    (exporting_good o (kept_distance ds) f _ (ap (λ g. g.size) c.in_ok-filter.ensures ∙ size)) in
    let e = one.is
    ∙ change_as k g (exporting o (distance_by o ns) f) ns was.within (exporting_kept o ns ds f (neighbour_at ns k) c.requires.kept)
    ∙ (λ i. change (c.from-2.ensures i) (exporting o (distance_by o ns) (c.in_ok-filter.ensures i)) ns) in
    done s _ _ _ refl
    (export_goes o s.sessions.count c.args.node ns c.args.filter.now.value neighbour size
    ∙ (λ i. answered (world o s.sessions.count (sym e i)) (reply.Done 0)))
    (still_right s c.requires k g (with_item s.neighbours k c.export.new.neighbour) one (λ _. refl) (λ v _. refl))
