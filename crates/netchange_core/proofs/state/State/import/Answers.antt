use Rattle.std.proofs.Common.{◌≡◌, ℕ, ◌<◌, None, not, length, ap, refl, sym, subst, ◌∙◌, arith}
use Rattle.std.specs.Vec.{with_item, with_items}
use Rattle.netchange_core.specs.declared.reply.Reply.TheVariants as reply
use Rattle.netchange_core.specs.Kept.{views_of}
use Rattle.netchange_core.specs.Next.{answered, importing}
use Rattle.netchange_core.specs.Present.{ArePresent}
use Rattle.netchange_core.specs.Room.{HaveRoom}
use Rattle.netchange_core.specs.World.{neighbour_at}
use Rattle.netchange_core.proofs.Good.{importing_distance, importing_good}
use Rattle.netchange_core.proofs.Holders.{none_by}
use Rattle.netchange_core.proofs.Listed.{present_listed}
use Rattle.netchange_core.proofs.Presence.{sessions_kept}
use Rattle.netchange_core.proofs.Received.{recomputed_same}
use Rattle.netchange_core.proofs.States.{IsAtHand, changes_one, done, looks, made_room, recompute_handles}
use Rattle.netchange_core.proofs.States.{room_made, room_stays, stale_there, still_right}
use Rattle.netchange_core.proofs.Worlds.{world}
use Rattle.netchange_core.proofs.state.State.import.Goals as goal
use Rattle.netchange_core.proofs.state.State.import.Goals.{After-index_mut-2}

-- while the node is down
pub returns-then-is_none : goal.returns-then-is_none
returns-then-is_none c =
    let s = c.args.self.now in
    let k = c.args.node in
    let f = importing c.args.filter.value in
    let ns = views_of s in
    let h : k < length ns = omega (arith, c.requires.node, c.requires.right.kept.neighbours.one_a_node) in
    let one = changes_one s c.requires.right s.neighbours.items k c.index_mut.result.now
    (record { within = h; same = refl; is = c.index_mut.ensures.value }) f c.import.new.neighbour c.import.ensures.view
    (importing_good s.opening.size c.args.filter.value _ c.requires.size) in
    let down : (neighbour_at ns k).session ≡ None =
    ap (λ m. m.session) (sym (looks s c.requires.right s.neighbours.items k c.index.result.now
    (record { within = h; same = refl; is = c.index.ensures }))) ∙ none_by c.index.result.now.session (c.is_none.ensures ∙ ap not c.if-is_none.true) in
    let same = λ (v : ℕ) (_ : v < s.opening.size). importing_distance s.opening c.args.filter.value v (neighbour_at ns k) down in
    done s _ _ _ refl
    (recomputed_same s.opening s.sessions.count k f ns same
    ∙ ap (λ ms. answered (world s.opening s.sessions.count ms) (reply.Done 0)) (sym one.is))
    (still_right s c.requires.right k f (with_item s.neighbours k c.import.new.neighbour) one (λ _. refl) same)

pub make_room-requires : goal.make_room-requires
make_room-requires c =
    record { listed = rw (c.deref.ensures.value, c.deref_mut.ensures.value) (present_listed _ _ _ c.requires.right.present) }

-- the neighbour, after room was made
here : (c : After-index_mut-2) → IsAtHand c.args.self.now
    (with_items c.args.self.now.neighbours c.make_room.new.neighbours).items c.args.node c.index_mut-2.result.now
here c = record {
  within = omega (arith, c.requires.node, c.requires.right.kept.neighbours.one_a_node);
  same = made_room c.args.self.now c.deref_mut.result.now c.make_room.new.neighbours c.deref_mut.ensures.value
      c.make_room.auto.neighbours c.make_room.ensures.same;
  is = c.index_mut-2.ensures.value;
}

pub recompute-changed-requires : goal.recompute-changed-requires
recompute-changed-requires c =
    let s = c.args.self.now in
    let k = c.args.node in
    let f = importing c.args.filter.value in
    let was = here (goal.at.recompute-changed-requires c).After-index_mut-2 in
    let one = changes_one s c.requires.right _ k _ was f c.import-2.new.neighbour c.import-2.ensures.view
    (importing_good s.opening.size c.args.filter.value _ c.requires.size) in
    let room = room_made s c.deref_mut.result.now c.make_room.new.neighbours c.deref_mut.ensures.value c.make_room.auto.neighbours
    s.opening.size
    (subst (λ n. HaveRoom n c.make_room.new.neighbours) (c.from.ensures ∙ c.size.ensures.value) c.in_ok-make_room.ensures.room) in
    stale_there s c.requires.right k f _ one _
    (subst (λ ss. ArePresent s.sessions.count ss s.sessions.present.items)
    (sym (sessions_kept (views_of s) _ k f one.is (λ _. refl))) c.requires.right.present)
    (room_stays s c.requires.right _ k _ was s.opening.size c.import-2.new.neighbour room (c.import-2.ensures.room s.opening.size))

pub returns : goal.returns
returns c =
    let s = c.args.self.now in
    recompute_handles s c.requires.right c.args.node (importing c.args.filter.value) _
    (changes_one s c.requires.right _ c.args.node _ (here (goal.at.returns c).After-index_mut-2) (importing c.args.filter.value)
    c.import-2.new.neighbour c.import-2.ensures.view (importing_good s.opening.size c.args.filter.value _ c.requires.size)) _ _ _
    c.recompute-changed.ensures
