use Rattle.std.specs.Int.{from_bool}
use Rattle.std.proofs.Common.{◌≡◌, ◌≤◌, slice_index_or, List, length, ap, sym, subst, ◌∙◌, arith, le_refl}
use Rattle.std.proofs.lemmas.List.{length-map}
use Rattle.netchange_core.specs.declared.destination.Destination.{Destination}
use Rattle.netchange_core.specs.declared.neighbour.Neighbour.{Neighbour}
use Rattle.netchange_core.specs.Kept.{AreNeighbours, IsDestination, distance_by, kept_distance, view_of, views_of}
use Rattle.netchange_core.specs.Present.{AreListed, sessions_of}
use Rattle.netchange_core.proofs.Listed.{present_listed}
use Rattle.netchange_core.proofs.Presence.{sessions_told}
use Rattle.netchange_core.proofs.Queued.{changes_good}
use Rattle.netchange_core.proofs.Recomputed.{AreRecomputed, count_within, byte_within, less_room, still_stale, recomputed_more_at}
use Rattle.netchange_core.proofs.States.{recomputes}
use Rattle.netchange_core.proofs.state.State.recompute.Goals as goal

pub recompute_at-requires-clause-neighbours : goal.recompute_at-requires-clause-neighbours
recompute_at-requires-clause-neighbours c =
    let o = c.args.self.now.opening in
    let ns = views_of c.args.self.now in
    subst (AreNeighbours o.size) (sym c.loop-node.invariant.told)
    (changes_good o o.size (kept_distance c.args.self.now.destinations.items) (distance_by o ns) c.loop-node.node ns
    c.requires.neighbours)

pub recompute_at-requires-clause-listed : goal.recompute_at-requires-clause-listed
recompute_at-requires-clause-listed c =
    subst (λ ss. AreListed ss c.as_slice-present.result.now)
    (sym (ap sessions_of c.loop-node.invariant.told ∙ sessions_told c.args.self.now.opening _ _ c.loop-node.node _))
    (rw c.as_slice-present.ensures.value (present_listed _ _ _ c.requires.present))

pub recompute_at-requires-clause-right : goal.recompute_at-requires-clause-right
recompute_at-requires-clause-right c =
    let head = c.index-destinations-from.result in
    subst (λ i. IsDestination c.args.self.now.opening c.loop-node.node (slice_index_or c.loop-node.destinations i head))
    (sym c.from.ensures)
    (subst (IsDestination c.args.self.now.opening c.loop-node.node)
    (sym (c.loop-node.invariant.rest c.loop-node.node head (le_refl c.loop-node.node)))
    (c.requires.destinations.right c.loop-node.node head (omega arith)))

pub recompute_at-requires-clause-room : goal.recompute_at-requires-clause-room
recompute_at-requires-clause-room c =
    less_room 1 _ c.loop-node.neighbours (omega arith) c.loop-node.invariant.room

pub overflow_add-changed : goal.overflow_add-changed
overflow_add-changed c =
    let few = count_within (kept_distance c.args.self.now.destinations.items)
    (distance_by c.args.self.now.opening (views_of c.args.self.now)) c.loop-node.node in
    let one : c.from-changed.result ≤ 1 = subst (λ n. n ≤ 1) (sym c.from-changed.ensures) (byte_within c.recompute_at.result) in
    omega (arith, few, one, c.loop-node.invariant.count_is, c.size-node-end.ensures.limits.to_largest)

pub loop-node-preserved : goal.loop-node-preserved
loop-node-preserved c =
    recomputed_more_at c.args.self.now.opening c.args.hop c.loop-node.node c.from.result c.args.self.now.neighbours.items
    c.loop-node.neighbours c.recompute_at.new.neighbours c.args.self.now.destinations.items c.loop-node.destinations
    c.recompute_at.new.destination c.index-destinations-from.result c.loop-node.changed c.from-changed.result c.from.ensures c.loop-node.invariant
    (omega arith) (omega (arith, length-map c.args.self.now.neighbours.items view_of)) (omega arith) (omega arith) c.requires.stale
    c.recompute_at.ensures.told c.recompute_at.ensures.distances c.recompute_at.ensures.right c.recompute_at.ensures.room
    (c.from-changed.ensures ∙ ap from_bool c.recompute_at.ensures.changed)

pub returns : goal.returns
returns c =
    let s = c.args.self.now in
    let all : c.loop-node.node ≡ s.opening.size = omega arith in
    recomputes s c.args.hop c.loop-node.neighbours c.loop-node.destinations c.loop-node.changed c.requires
    (subst (λ n. AreRecomputed s.opening s.neighbours.items s.destinations.items n c.loop-node.neighbours c.loop-node.destinations
    c.loop-node.changed) all c.loop-node.invariant)
    (c.loop-node.auto.neighbours ∙ ap (λ (ns : List Neighbour). length ns) c.as_mut_slice-neighbours.ensures.value)
    (c.loop-node.auto.destinations ∙ ap (λ (ds : List Destination). length ds) c.as_mut_slice-destinations.ensures.value)

pub recompute_at-requires-clause-stale : goal.recompute_at-requires-clause-stale
recompute_at-requires-clause-stale c =
    still_stale c.args.self.now.opening c.args.hop c.loop-node.node c.from.result c.args.self.now.neighbours.items
    c.loop-node.neighbours c.args.self.now.destinations.items c.loop-node.destinations c.index-destinations-from.result c.loop-node.changed c.from.ensures
    c.loop-node.invariant (omega arith) (omega (arith, length-map c.args.self.now.neighbours.items view_of)) c.requires.stale
