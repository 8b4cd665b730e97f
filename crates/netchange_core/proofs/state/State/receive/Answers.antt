use Rattle.std.proofs.Common.{◌≡◌, ◌<◌, length, map, cond, not, slice_index_or, slice_set, ap, refl, sym, subst, ◌∙◌, arith, eq-eqb}
use Rattle.std.specs.Int.{from_bool}
use Rattle.std.specs.Vec.{with_item}
use Rattle.netchange_core.specs.Best.{best_by}
use Rattle.netchange_core.specs.FilteredDistance.{filtered_distance}
use Rattle.netchange_core.specs.Kept.{view_of, views_of}
use Rattle.netchange_core.specs.Next.{advertising, tell}
use Rattle.netchange_core.specs.Present.{ArePresent}
use Rattle.netchange_core.proofs.Good.{advertising_good}
use Rattle.netchange_core.proofs.Holders.{up_within}
use Rattle.netchange_core.proofs.Presence.{sessions_kept}
use Rattle.netchange_core.proofs.Received.{receive_goes, received, received_kept}
use Rattle.netchange_core.proofs.States.{changes_one, done, looks}
use Rattle.netchange_core.proofs.state.State.receive.Goals as goal

-- the route stays, and nothing is told
pub returns-then-stays : goal.returns-then-stays
returns-then-stays c =
    let s = c.args.self.now in
    let o = s.opening in
    let k = c.args.hop in
    let v = c.args.message.dest in
    let d = c.args.message.dist in
    let f = advertising v d in
    let ns = views_of s in
    let ds = s.destinations.items in
    let kept = c.requires.right.kept in
    let head = c.index_mut-destination.result.now in
    let i = c.from.result in
    let is = c.index_mut-destination.ensures.value in
    let near = c.filtered_distance-near.result in
    let h = up_within ns k c.requires.up in
    let b = changes_one s c.requires.right s.neighbours.items k c.index_mut.result.now
    (record { within = h; same = refl; is = c.index_mut.ensures.value }) f c.advertise.new.neighbour c.advertise.ensures.view
    (advertising_good o.size v d _ (omega arith) (omega arith)) in
    let ms = map view_of (with_item s.neighbours k c.advertise.new.neighbour).items in
    let near_is = c.filtered_distance-near.ensures.value
    ∙ ap (λ m. filtered_distance o m.imports v d) (looks s c.requires.right s.neighbours.items k c.index.result.now
    (record { within = h; same = refl; is = c.index.ensures })) in
    let was = kept.destinations.right v head (omega arith) in
    let there = is ∙ ap (λ j. slice_index_or ds j head) c.from.ensures in
    let right = subst (λ e. e.route ≡ best_by o v e.distances.items) (sym there) was.best in
    let long = ap (λ e. length e.distances.items) there ∙ was.one_a_node in
    let within : k < length head.distances.items = omega (arith, h, long, kept.neighbours.one_a_node) in
    let best = c.stays.ensures o v head.distances.items c.if-stays.true right within
    ∙ ap (λ e. best_by o v (slice_set e.distances.items k near)) is in
    let same = eq-eqb (slice_index_or ds i head).route.dist head.route.dist (ap (λ e. e.route.dist) (sym is)) in
    let told = sym (ap (λ t. cond t ms (map (tell o v head.route.dist) ms)) same) in
    let counts = sym (ap (λ t. from_bool (not t)) same) in
    let distances = c.put.ensures.distances ∙ ap (λ e. slice_set e.distances.items k near) is in
    done s _ _ _ refl
    (receive_goes o s.sessions.count ns k v d (omega arith) (omega arith)
    ∙ received o k v d ns ms ds head near head.route kept h b.is (omega arith) (omega arith) c.requires.up near_is i c.from.ensures
    best s.sessions.count ms 0 told counts)
    (record {
      kept = received_kept o k v d ns ms ds head near head.route kept h b.is (omega arith) (omega arith) c.requires.up near_is i
          c.from.ensures best ms c.put.new.destination told distances c.put.ensures.route;
      present = subst (λ ss. ArePresent s.sessions.count ss s.sessions.present.items)
          (sym (sessions_kept ns ms k f b.is (λ _. refl))) c.requires.right.present;
    })
