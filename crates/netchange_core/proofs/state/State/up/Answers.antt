use Rattle.std.proofs.Common.{◌≡◌, ◌+◌, None, [], ◌∷◌, ◌++◌, length, map, slice_set, ap, refl, sym, subst, ◌∙◌, arith}
use Rattle.std.proofs.lemmas.List.{length-map}
use Rattle.std.specs.Vec.{with_item}
use Rattle.netchange_core.specs.declared.reply.Reply.TheVariants as reply
use Rattle.netchange_core.specs.Calls.{MayNeedMemory}
use Rattle.netchange_core.specs.Kept.{FitsSize, distance_by, kept_distance, view_of, views_of, world_of}
use Rattle.netchange_core.specs.Next.{answered, joined, up}
use Rattle.netchange_core.specs.Present.{ArePresent, present, sessions_of}
use Rattle.netchange_core.specs.World.{change, neighbour_at}
use Rattle.netchange_core.proofs.Change.{change_as}
use Rattle.netchange_core.proofs.Goes.{joined_kept, neighbour_below, up_goes}
use Rattle.netchange_core.proofs.Good.{joined_distance, joined_good}
use Rattle.netchange_core.proofs.Holders.{none_by}
use Rattle.netchange_core.proofs.Presence.{one_more, session_at, sessions_changed}
use Rattle.netchange_core.proofs.States.{IsAtHand, all_same, changes_one, done, good_here, looks, no_memory, still_kept}
use Rattle.netchange_core.proofs.Worlds.{world}
use Rattle.netchange_core.proofs.state.State.up.Goals as goal
use Rattle.netchange_core.proofs.state.State.up.Goals.{After-index_mut-neighbour, After-reserve}

-- the neighbour
here : (c : After-index_mut-neighbour) → IsAtHand c.args.self.now c.args.self.now.neighbours.items c.from.result
    c.index_mut-neighbour.result.now
here c =
    let neighbour = sym c.is_no_neighbour.ensures ∙ c.if-is_no_neighbour.false in
    let below = neighbour_below c.args.self.now.opening c.args.node neighbour in
    record {
      within = omega (arith, below, c.requires.kept.neighbours.one_a_node);
      same = refl;
      is = c.index_mut-neighbour.ensures.value;
    }

-- the node is a neighbour that is down, and a number is left for its session
goes : (c : After-reserve) →
    IsAtHand c.args.self.now c.args.self.now.neighbours.items c.from.result c.index_mut-neighbour.result.now →
    let s = c.args.self.now in
    up (world_of s) c.args.node
    ≡ answered (world s.opening (s.sessions.count + 1) (change c.args.node (joined s.opening (distance_by s.opening (views_of s))
    (s.sessions.count + 1)) (views_of s))) (reply.Opened (s.sessions.count + 1))
goes c was =
    let s = c.args.self.now in
    let neighbour = sym c.is_no_neighbour.ensures ∙ c.if-is_no_neighbour.false in
    let idle : c.index_mut-neighbour.result.now.session ≡ None =
    none_by c.index_mut-neighbour.result.now.session (sym c.is_some.ensures ∙ c.if-is_some.false) in
    let down = ap (λ n. n.session) (sym (looks s c.requires _ c.from.result _ was)) ∙ idle in
    up_goes s.opening s.sessions.count c.args.node (views_of s) neighbour
    (ap (λ j. (neighbour_at (views_of s) j).session) (sym c.from.ensures) ∙ down) c.if-self.false

pub returns : goal.returns
returns c =
    let s = c.args.self.now in
    let o = s.opening in
    let count = s.sessions.count in
    let k = c.from.result in
    let ds = s.destinations.items in
    let f = joined o (kept_distance ds) (count + 1) in
    let ns = views_of s in
    let head = c.index_mut-neighbour.result.now in
    let was = here (goal.at.returns c).After-index_mut-neighbour in
    let h = was.within in
    let idle : head.session ≡ None = none_by head.session (sym c.is_some.ensures ∙ c.if-is_some.false) in
    let down : (neighbour_at ns k).session ≡ None = ap (λ n. n.session) (sym (looks s c.requires _ k _ was)) ∙ idle in
    let one = changes_one s c.requires _ k _ was f c.join.new.neighbour
    (c.join.ensures ∙ ap (λ es. joined o (kept_distance es) (count + 1) (view_of c.reserve.new.neighbour)) c.deref.ensures.value
    ∙ ap f c.reserve.ensures.same)
    (joined_good o (kept_distance ds) (count + 1) _) in
    let world_is = one.is
    ∙ change_as k f (joined o (distance_by o ns) (count + 1)) ns h (joined_kept o ns ds (count + 1) (neighbour_at ns k) c.requires.kept)
    ∙ ap (λ j. change j (joined o (distance_by o ns) (count + 1)) ns) c.from.ensures in
    let items = c.push_reserved.ensures.items ∙ ap (λ ps. ps ++ present (count + 1) c.args.node ∷ []) c.in_ok-reserve-2.ensures.items
    ∙ ap (λ j. s.sessions.present.items ++ present (count + 1) j ∷ []) (sym c.from.ensures) in
    done s _ _ _ refl
    (goes (goal.at.returns c).After-reserve was
    ∙ ap (λ qs. answered (world o (count + 1) qs) (reply.Opened (count + 1))) (sym world_is))
    (record {
      kept = still_kept s c.requires k f (with_item s.neighbours k c.join.new.neighbour) one
          (λ v within. joined_distance o (kept_distance ds) (count + 1) v (neighbour_at ns k) down within);
      present = subst (ArePresent (count + 1) (sessions_of (map view_of (slice_set s.neighbours.items k c.join.new.neighbour)))) (sym items)
          (subst (λ ss. ArePresent (count + 1) ss (s.sessions.present.items ++ present (count + 1) k ∷ []))
          (sym (ap sessions_of one.is ∙ sessions_changed ns k f h))
          (one_more count k (sessions_of ns) s.sessions.present.items (omega (arith, h, length-map ns (λ n. n.session)))
          (session_at ns k ∙ down) c.requires.present));
    })

pub join-requires-clause-advertised : goal.join-requires-clause-advertised
join-requires-clause-advertised c =
    ap (λ m. length m.advertised) c.reserve.ensures.same
    ∙ (good_here c.args.self.now c.requires _ c.from.result _
    (here (goal.at.join-requires-clause-advertised c).After-index_mut-neighbour)).one_a_node

pub join-requires-clause-exports : goal.join-requires-clause-exports
join-requires-clause-exports c =
    subst (λ m. FitsSize c.args.self.now.opening.size m.exports) (sym c.reserve.ensures.same)
    (good_here c.args.self.now c.requires _ c.from.result _
    (here (goal.at.join-requires-clause-exports c).After-index_mut-neighbour)).exports

pub returns-in_err-reserve : goal.returns-in_err-reserve
returns-in_err-reserve c =
    let was = here (goal.at.returns-in_err-reserve c).After-index_mut-neighbour in
    no_memory c.args.self.now _ _ _ _ c.requires
    (all_same c.args.self.now c.requires _ c.from.result _ was c.reserve.new.neighbour c.reserve.ensures.same) refl
    (subst (λ a. MayNeedMemory a.reply) (sym (goes (goal.at.returns-in_err-reserve c).After-reserve was)) tt)
    c.from_residual.ensures.0

pub returns-in_err-reserve-2 : goal.returns-in_err-reserve-2
returns-in_err-reserve-2 c =
    let was = here (goal.at.returns-in_err-reserve-2 c).After-index_mut-neighbour in
    no_memory c.args.self.now _ _ _ _ c.requires
    (all_same c.args.self.now c.requires _ c.from.result _ was c.reserve.new.neighbour c.reserve.ensures.same)
    c.in_err-reserve-2.ensures.items
    (subst (λ a. MayNeedMemory a.reply) (sym (goes (goal.at.returns-in_err-reserve-2 c).After-reserve was)) tt)
    c.from_residual-in_err-reserve-2.ensures.0
