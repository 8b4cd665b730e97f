use Rattle.std.proofs.Common.{◌≡◌, List, length, map, nat_eq, not, slice_index_or, slice_set, ap, refl, sym, subst, ◌∙◌, arith}
use Rattle.std.specs.Int.{from_bool}
use Rattle.std.specs.Vec.{with_item, with_items}
use Rattle.netchange_core.specs.declared.neighbour.Neighbour.{Neighbour}
use Rattle.netchange_core.specs.Best.{best_by}
use Rattle.netchange_core.specs.Kept.{AreNeighbours, view_of, views_of}
use Rattle.netchange_core.specs.Leading.{ListsReachable}
use Rattle.netchange_core.specs.Next.{advertising}
use Rattle.netchange_core.specs.Present.{AreListed, ArePresent, sessions_of}
use Rattle.netchange_core.specs.Room.{HaveRoom}
use Rattle.netchange_core.specs.Recomputing.{told_if_differs}
use Rattle.netchange_core.proofs.Change.{change_good}
use Rattle.netchange_core.proofs.Good.{advertising_good}
use Rattle.netchange_core.proofs.Holders.{up_within}
use Rattle.netchange_core.proofs.Listed.{present_listed}
use Rattle.netchange_core.proofs.Presence.{sessions_kept, sessions_told_one}
use Rattle.netchange_core.proofs.Received.{receive_goes, received, received_kept}
use Rattle.netchange_core.proofs.Scanned.{lists_reachable, reachable_set, up_is_listed}
use Rattle.netchange_core.proofs.States.{ChangesOne, IsAtHand, changes_one, done, good_here, made_room, put_back, room_made, room_stays}
use Rattle.netchange_core.proofs.state.State.reroute.Goals as goal
use Rattle.netchange_core.proofs.state.State.reroute.Goals.{After-index_mut}

pub route_after-route-requires-clause-listed : goal.route_after-route-requires-clause-listed
route_after-route-requires-clause-listed c =
    let s = c.args.self.now in
    let o = s.opening in
    let v = c.args.message.dest in
    let ns = views_of s in
    let ps = s.sessions.present.items in
    let head = c.index_mut-destination.result.now in
    let listed = present_listed s.sessions.count (sessions_of ns) ps c.requires.right.present in
    let column = ap (λ d. d.distances.items) c.index_mut-destination.ensures.value
    ∙ ap (λ j. (slice_index_or s.destinations.items j head).distances.items) c.from.ensures
    ∙ c.requires.right.kept.distances v head (omega arith) in
    subst (λ qs. ListsReachable o.size (slice_set head.distances.items c.args.hop c.args.near) qs)
    (sym c.as_slice-present.ensures.value)
    (reachable_set o.size head.distances.items ps c.args.hop c.args.near
    (subst (λ xs. ListsReachable o.size xs ps) (sym column) (lists_reachable o v ns ps listed))
    (up_is_listed o v ns ps listed c.args.hop c.requires.up))

pub make_room_if_differs-requires : goal.make_room_if_differs-requires
make_room_if_differs-requires c =
    record {
      listed = rw (c.as_slice-present.ensures.value, c.deref_mut.ensures.value) (present_listed _ _ _ c.requires.right.present);
    }

-- the neighbour, after room was made
here : (c : After-index_mut) → IsAtHand c.args.self.now
    (with_items c.args.self.now.neighbours c.make_room_if_differs.new.neighbours).items c.args.hop c.index_mut.result.now
here c = record {
  within = up_within (views_of c.args.self.now) c.args.hop c.requires.up;
  same = made_room c.args.self.now c.deref_mut.result.now c.make_room_if_differs.new.neighbours c.deref_mut.ensures.value
      c.make_room_if_differs.auto.neighbours c.make_room_if_differs.ensures.same;
  is = c.index_mut.ensures.value;
}

pub advertise-requires : goal.advertise-requires
advertise-requires c =
    let good = good_here c.args.self.now c.requires.right _ c.args.hop _ (here (goal.at.advertise-requires c).After-index_mut) in
    omega (arith, good.one_a_node)

-- the neighbours after the distance was received, before it is told
one : (c : After-index_mut) (new : Neighbour) →
    view_of new ≡ advertising c.args.message.dest c.args.message.dist (view_of c.index_mut.result.now) →
    ChangesOne c.args.self.now.opening c.args.hop (advertising c.args.message.dest c.args.message.dist) (views_of c.args.self.now)
    (map view_of (slice_set (with_items c.args.self.now.neighbours c.make_room_if_differs.new.neighbours).items c.args.hop new))
one c new e =
    let s = c.args.self.now in
    changes_one s c.requires.right _ c.args.hop _ (here c) (advertising c.args.message.dest c.args.message.dist) new e
    (advertising_good s.opening.size c.args.message.dest c.args.message.dist _ (omega arith) (omega arith))

pub tell_if_differs-differs-requires-clause-neighbours : goal.tell_if_differs-differs-requires-clause-neighbours
tell_if_differs-differs-requires-clause-neighbours c =
    let s = c.args.self.now in
    let b = one (goal.at.tell_if_differs-differs-requires-clause-neighbours c).After-index_mut c.advertise.new.neighbour
    c.advertise.ensures.view in
    subst (λ ms. AreNeighbours s.opening.size (map view_of ms)) (sym c.deref_mut-2.ensures.value)
    (subst (AreNeighbours s.opening.size) (sym b.is)
    (change_good s.opening.size c.args.hop (advertising c.args.message.dest c.args.message.dist) (views_of s) b.within
    c.requires.right.kept.neighbours b.good))

pub tell_if_differs-differs-requires-clause-listed : goal.tell_if_differs-differs-requires-clause-listed
tell_if_differs-differs-requires-clause-listed c =
    let s = c.args.self.now in
    let ps = s.sessions.present.items in
    let b = one (goal.at.tell_if_differs-differs-requires-clause-listed c).After-index_mut c.advertise.new.neighbour
    c.advertise.ensures.view in
    subst (λ qs. AreListed (sessions_of (map view_of c.deref_mut-2.result.now)) qs) (sym c.as_slice-present.ensures.value)
    (subst (λ ms. AreListed (sessions_of (map view_of ms)) ps) (sym c.deref_mut-2.ensures.value)
    (subst (λ ss. AreListed ss ps)
    (sym (sessions_kept (views_of s) _ c.args.hop (advertising c.args.message.dest c.args.message.dist) b.is (λ _. refl)))
    (present_listed _ _ _ c.requires.right.present)))

pub tell_if_differs-differs-requires-clause-room : goal.tell_if_differs-differs-requires-clause-room
tell_if_differs-differs-requires-clause-room c = λ differs.
    let s = c.args.self.now in
    let room = room_made s c.deref_mut.result.now c.make_room_if_differs.new.neighbours c.deref_mut.ensures.value
    c.make_room_if_differs.auto.neighbours 1 (c.in_ok-make_room_if_differs.ensures.room differs) in
    subst (HaveRoom 1) (sym c.deref_mut-2.ensures.value)
    (room_stays s c.requires.right _ c.args.hop _ (here (goal.at.tell_if_differs-differs-requires-clause-room c).After-index_mut) 1
    c.advertise.new.neighbour room (c.advertise.ensures.room 1))

pub returns-clause-done : goal.returns-clause-done
returns-clause-done c =
    let s = c.args.self.now in
    let o = s.opening in
    let k = c.args.hop in
    let v = c.args.message.dest in
    let d = c.args.message.dist in
    let f = advertising v d in
    let ns = views_of s in
    let ds = s.destinations.items in
    let head = c.index_mut-destination.result.now in
    let is = c.index_mut-destination.ensures.value in
    let new = c.route_after-route.result in
    let b = one (goal.at.returns-clause-done c).After-index_mut c.advertise.new.neighbour c.advertise.ensures.view in
    let h = b.within in
    let received_by = with_item (with_items s.neighbours c.make_room_if_differs.new.neighbours) k c.advertise.new.neighbour in
    let ms = map view_of received_by.items in
    let best = c.route_after-route.ensures.best
    ∙ ap (λ e. best_by o v (slice_set e.distances.items k c.args.near)) is in
    let told = ap (λ qs. map view_of qs)
    (put_back received_by c.tell_if_differs-differs.new.neighbours
    (c.tell_if_differs-differs.auto.neighbours ∙ ap (λ (qs : List Neighbour). length qs) c.deref_mut-2.ensures.value))
    ∙ c.tell_if_differs-differs.ensures.told
    ∙ ap (λ qs. told_if_differs o v head.route.dist new.dist (map view_of qs)) c.deref_mut-2.ensures.value
    ∙ ap (λ e. told_if_differs o v e.route.dist new.dist ms) is in
    let counts = ap from_bool c.tell_if_differs-differs.ensures.differs
    ∙ ap (λ e. from_bool (not (nat_eq e.route.dist new.dist))) is in
    let distances = c.put.ensures.distances ∙ ap (λ e. slice_set e.distances.items k c.args.near) is in
    done s _ _ _ refl
    (receive_goes o s.sessions.count ns k v d (omega arith) (omega arith)
    ∙ received o k v d ns ms ds head c.args.near new c.requires.right.kept h b.is (omega arith) (omega arith)
    c.requires.up c.requires.near c.from.result c.from.ensures best s.sessions.count _ (from_bool c.tell_if_differs-differs.result) told counts)
    (record {
      kept = received_kept o k v d ns ms ds head c.args.near new c.requires.right.kept h b.is (omega arith)
          (omega arith) c.requires.up c.requires.near c.from.result c.from.ensures best _ c.put.new.destination told distances
          c.put.ensures.route;
      present = subst (λ ss. ArePresent s.sessions.count ss s.sessions.present.items)
          (sym (ap sessions_of told ∙ sessions_told_one o v _ _ _ ∙ sessions_kept ns ms k f b.is (λ _. refl)))
          c.requires.right.present;
    })
