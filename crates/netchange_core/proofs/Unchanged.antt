-- Changes of one neighbour after which all distances are what they were.
use Rattle.std.proofs.Common.{◌≡◌, ℕ, ◌<◌, zero, suc, Option, List, length, sym, subst, refl, ◌∙◌, ◌++◌, [], ◌∷◌, arith}
use Rattle.filter_verifier.specs.VerifiedView.{VerifiedView}
use Rattle.netchange_core.specs.declared.destination.Destination.{Destination}
use Rattle.netchange_core.specs.Best.{neighbour_distance}
use Rattle.netchange_core.specs.Kept.{AreKept, IsNeighbour, distance_by, kept_distance}
use Rattle.netchange_core.specs.Next.{all_messages, message_of}
use Rattle.netchange_core.specs.OpeningView.{OpeningView}
use Rattle.netchange_core.specs.World.{NeighbourView, change, neighbour_at}
use Rattle.netchange_core.proofs.Change.{change_good, map_change_same}
use Rattle.netchange_core.proofs.Worlds.{distance_kept}

pub kept_unchanged : (o : OpeningView) (k : ℕ) (f : NeighbourView → NeighbourView) (ns ms : List NeighbourView)
    (ds : List Destination) → k < length ns → ms ≡ change k f ns → AreKept o ns ds → IsNeighbour o.size (f (neighbour_at ns k)) →
    ((v : ℕ) → v < o.size → neighbour_distance o v (f (neighbour_at ns k)) ≡ neighbour_distance o v (neighbour_at ns k)) →
    AreKept o ms ds
kept_unchanged o k f ns ms ds h e kept good same =
    subst (λ qs. AreKept o qs ds) (sym e) (record {
      neighbours = change_good o.size k f ns h kept.neighbours good;
      destinations = kept.destinations;
      distances = λ v d below.
          kept.distances v d below ∙ sym (map_change_same (neighbour_distance o v) k f ns (same v below));
    })

messages_same : (o : OpeningView) (f : Option VerifiedView) (old new : ℕ → ℕ) (n : ℕ) → ((v : ℕ) → v < n → old v ≡ new v) →
    all_messages o f old n ≡ all_messages o f new n
messages_same o f old new zero e = refl
messages_same o f old new (suc n) e =
    let rest = messages_same o f old new n (λ v h. e v (omega arith)) in
    λ i. rest i ++ message_of o f n (e n (omega arith) i) ∷ []

-- the messages with the distances kept are those with the world's
pub messages_kept : (o : OpeningView) (f : Option VerifiedView) (ns : List NeighbourView) (ds : List Destination) →
    AreKept o ns ds → all_messages o f (kept_distance ds) o.size ≡ all_messages o f (distance_by o ns) o.size
messages_kept o f ns ds kept =
    messages_same o f (kept_distance ds) (distance_by o ns) o.size (λ v h. distance_kept o ns ds v kept h)
