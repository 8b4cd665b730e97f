use Rattle.std.proofs.Common.{◌≡◌, Some, None, ap, refl, sym, subst, ◌∙◌, arith}
use Rattle.std.proofs.lemmas.List.{length-map}
use Rattle.std.specs.Vec.{with_items}
use Rattle.netchange_core.specs.Kept.{view_of, views_of}
use Rattle.netchange_core.specs.Next.{gone}
use Rattle.netchange_core.specs.Present.{ArePresent, session_in, sessions_of}
use Rattle.netchange_core.specs.Room.{HaveRoom}
use Rattle.netchange_core.specs.World.{neighbour_at}
use Rattle.netchange_core.proofs.Good.{gone_good}
use Rattle.netchange_core.proofs.Holders.{some_none, up_by, up_within}
use Rattle.netchange_core.proofs.Listed.{present_listed}
use Rattle.netchange_core.proofs.Presence.{session_at, sessions_changed}
use Rattle.netchange_core.proofs.States.{IsAtHand, changes_one, good_here, made_room, no_memory}
use Rattle.netchange_core.proofs.States.{recompute_handles, room_made, room_stays, stale_there}
use Rattle.netchange_core.proofs.state.State.down.Goals as goal
use Rattle.netchange_core.proofs.state.State.down.Goals.{After-index_mut-neighbour}

pub make_room-requires : goal.make_room-requires
make_room-requires c =
    record { listed = rw (c.deref.ensures.value, c.deref_mut.ensures.value) (present_listed _ _ _ c.requires.right.present) }

pub index_mut-neighbour-requires : goal.index_mut-neighbour-requires
index_mut-neighbour-requires c =
    let ns = views_of c.args.self.now in
    let up = up_by (neighbour_at ns c.args.hop) c.args.session c.requires.holds in
    omega (arith, up_within ns c.args.hop up, length-map c.args.self.now.neighbours.items view_of)

-- the neighbour, after room was made
here : (c : After-index_mut-neighbour) → IsAtHand c.args.self.now
    (with_items c.args.self.now.neighbours c.make_room.new.neighbours).items c.args.hop c.index_mut-neighbour.result.now
here c = record {
  within = up_within (views_of c.args.self.now) c.args.hop
      (up_by (neighbour_at (views_of c.args.self.now) c.args.hop) c.args.session c.requires.holds);
  same = made_room c.args.self.now c.deref_mut.result.now c.make_room.new.neighbours c.deref_mut.ensures.value
      c.make_room.auto.neighbours c.make_room.ensures.same;
  is = c.index_mut-neighbour.ensures.value;
}

pub leave-requires : goal.leave-requires
leave-requires c =
    (good_here c.args.self.now c.requires.right _ c.args.hop _
    (here (goal.at.leave-requires c).After-index_mut-neighbour)).one_a_node

pub recompute-changed-requires : goal.recompute-changed-requires
recompute-changed-requires c =
    let s = c.args.self.now in
    let k = c.args.hop in
    let ns = views_of s in
    let was = here (goal.at.recompute-changed-requires c).After-index_mut-neighbour in
    let one = changes_one s c.requires.right _ k _ was (gone s.opening) c.leave.new.neighbour c.leave.ensures
    (gone_good s.opening _) in
    let held : session_in (sessions_of ns) k ≡ Some c.args.session = session_at ns k ∙ c.requires.holds in
    let over = subst (λ ss. ArePresent s.sessions.count ss c.close.new.present.items)
    (sym (ap sessions_of one.is ∙ sessions_changed ns k (gone s.opening) one.within))
    (c.close.ensures s.sessions.count k (sessions_of ns) held c.requires.right.present) in
    let room = room_made s c.deref_mut.result.now c.make_room.new.neighbours c.deref_mut.ensures.value c.make_room.auto.neighbours
    s.opening.size
    (subst (λ n. HaveRoom n c.make_room.new.neighbours) (c.from.ensures ∙ c.size.ensures.value) c.in_ok-make_room.ensures.room) in
    let idle : c.leave.new.neighbour.session ≡ None = ap (λ m. m.session) c.leave.ensures in
    stale_there s c.requires.right k (gone s.opening) _ one _ over
    (room_stays s c.requires.right _ k _ was s.opening.size c.leave.new.neighbour room
    (λ _ up. absurd (some_none c.leave.new.neighbour.session up idle)))

pub returns : goal.returns
returns c =
    let s = c.args.self.now in
    recompute_handles s c.requires.right c.args.hop (gone s.opening) _
    (changes_one s c.requires.right _ c.args.hop _ (here (goal.at.returns c).After-index_mut-neighbour) (gone s.opening)
    c.leave.new.neighbour c.leave.ensures (gone_good s.opening _)) _ _ _ c.recompute-changed.ensures

pub returns-in_err-make_room : goal.returns-in_err-make_room
returns-in_err-make_room c =
    no_memory c.args.self.now _ _ _ _ c.requires.right
    (made_room c.args.self.now c.deref_mut.result.now c.make_room.new.neighbours c.deref_mut.ensures.value
    c.make_room.auto.neighbours c.make_room.ensures.same) refl tt c.from_residual.ensures.0
