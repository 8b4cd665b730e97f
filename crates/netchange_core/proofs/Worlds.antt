-- From what the tables keep to worlds.
use Rattle.std.proofs.Common.{◌≡◌, ℕ, ◌<◌, List, [], ◌∷◌, length, map, slice_index_or, ap, sym, ◌∙◌, arith}
use Rattle.std.proofs.lemmas.List.{get_or-map}
use Rattle.netchange_core.specs.declared.destination.Destination.{Destination}
use Rattle.netchange_core.specs.declared.reply.Reply.TheVariants as reply
use Rattle.netchange_core.specs.Best.{best_by, neighbour_distance}
use Rattle.netchange_core.specs.Kept.{AreKept, distance_by, kept_distance}
use Rattle.netchange_core.specs.Next.{answered, count_changes, recomputed, tell_changes}
use Rattle.netchange_core.specs.OpeningView.{OpeningView}
use Rattle.netchange_core.specs.World.{NeighbourView, World, change, changed}
use Rattle.netchange_core.proofs.Queued.{changes_same, count_same}

abbrev pub world : OpeningView → ℕ → List NeighbourView → World
world o sessions ns = record { opening = o; sessions = sessions; neighbours = ns }

-- the distances kept are those of the world
pub kept_is : (o : OpeningView) (ns : List NeighbourView) (ds : List Destination) (v : ℕ) (d : Destination) → AreKept o ns ds →
    v < o.size → (slice_index_or ds v d).route ≡ best_by o v (map (neighbour_distance o v) ns)
kept_is o ns ds v d kept h =
    (kept.destinations.right v d h).best ∙ ap (λ xs. best_by o v xs) (kept.distances v d h)

head_of : (ds : List Destination) (v : ℕ) → v < length ds → Destination
head_of [] v h = absurd (omega arith)
head_of (d ∷ ds) v h = d

pub distance_kept : (o : OpeningView) (ns : List NeighbourView) (ds : List Destination) (v : ℕ) → AreKept o ns ds →
    v < o.size → kept_distance ds v ≡ distance_by o ns v
distance_kept o ns ds v kept h =
    let short : v < length ds = omega (arith, kept.destinations.one_a_node) in
    let d : Destination = head_of ds v short in
    get_or-map (λ e. e.route.dist) ds v d 0 short ∙ ap (λ r. r.dist) (kept_is o ns ds v d kept h)

-- all routes brought up to date
pub recomputed_is : (o : OpeningView) (sessions : ℕ) (ns ms rs : List NeighbourView) (ds : List Destination) (k : ℕ)
    (f : NeighbourView → NeighbourView) (count : ℕ) → AreKept o ns ds → ms ≡ change k f ns →
    rs ≡ tell_changes o (kept_distance ds) (distance_by o ms) o.size ms →
    count ≡ count_changes (kept_distance ds) (distance_by o ms) o.size →
    recomputed (world o sessions ns) (changed (world o sessions ns) k f) ≡ answered (world o sessions rs) (reply.Done count)
recomputed_is o sessions ns ms rs ds k f count kept e told counted =
    let same = λ (v : ℕ) (h : v < o.size). sym (distance_kept o ns ds v kept h) in
    let neighbours : tell_changes o (distance_by o ns) (distance_by o (change k f ns)) o.size (change k f ns) ≡ rs =
    changes_same o (distance_by o ns) (kept_distance ds) (distance_by o (change k f ns)) o.size (change k f ns) same
    ∙ ap (λ qs. tell_changes o (kept_distance ds) (distance_by o qs) o.size qs) (sym e)
    ∙ sym told in
    let number : count_changes (distance_by o ns) (distance_by o (change k f ns)) o.size ≡ count =
    count_same (distance_by o ns) (kept_distance ds) (distance_by o (change k f ns)) o.size same
    ∙ ap (λ qs. count_changes (kept_distance ds) (distance_by o qs) o.size) (sym e)
    ∙ sym counted in
    λ i. answered (world o sessions (neighbours i)) (reply.Done (number i))
