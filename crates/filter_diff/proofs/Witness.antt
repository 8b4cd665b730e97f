-- A route of a part, and the part as a pattern.
use Rattle.std.proofs.Common.{◌≡◌, ◌↔◌, ℕ, ◌-◌, ◌≤◌, Bool, false, List, ◌++◌, length, take, refl, sym, ◌∙◌, subst, arith, length-append}
use Rattle.std.proofs.Math.ListN.{replicate}
use Rattle.std.proofs.Math.Seq.{take-append_seam, take-length}
use Rattle.std.proofs.lemmas.List.{length-replicate}
use Rattle.filter_code.specs.RouteView.{RouteView}
use Rattle.prefix_patterns.specs.Matching.{shared_length}
use Rattle.filter_diff.specs.Parts.{Has, HasRoute, IsMatched, IsReal}
use Rattle.filter_diff.specs.declared.route_part.RoutePart.{RoutePart}

-- the prefix of a part with zeros behind it, up to the least length
abbrev first_net : RoutePart → List Bool
first_net part = part.prefix ++ replicate (part.shortest - length part.prefix) false

first_length : (part : RoutePart) → length part.prefix ≤ part.shortest → length (first_net part) ≡ part.shortest
first_length part h =
    let both = length-append part.prefix (replicate (part.shortest - length part.prefix) false) in
    let zeros = length-replicate (part.shortest - length part.prefix) false in
    omega (arith, both, zeros)

pub has_route : (size : ℕ) (part : RoutePart) → IsReal size part → HasRoute size part
has_route size part real =
    let long = first_length part real.pattern in
    record {
      route = record { net = first_net part; metric = part.least; size = size };
      is_in = record {
        fits = omega (arith, long, real.lengths, real.fits);
        reachable = omega (arith, real.metrics, real.reachable);
        domain = refl;
      };
      has = record {
        within = take-append_seam part.prefix (replicate (part.shortest - length part.prefix) false);
        shortest = omega (arith, long);
        longest = omega (arith, long, real.lengths);
        least = omega arith;
        greatest = real.metrics;
      };
    }

-- the part's prefix is no longer than the route's, so they share its bits
shared_all : (net prefix : List Bool) → length prefix ≤ length net → shared_length net prefix ≡ length prefix
shared_all net prefix h = omega arith

as_matched : (part : RoutePart) (route : RouteView) → length part.prefix ≤ part.shortest → Has part route → IsMatched part route
as_matched part route h has =
    let shared = shared_all route.net part.prefix (omega (arith, has.shortest)) in
    record {
      matched = record {
        low = has.shortest;
        high = has.longest;
        same = subst (λ (n : ℕ). take n route.net ≡ take n part.prefix) (sym shared) (has.within ∙ sym (take-length part.prefix));
      };
      least = has.least;
      greatest = has.greatest;
    }

as_has : (part : RoutePart) (route : RouteView) → length part.prefix ≤ part.shortest → IsMatched part route → Has part route
as_has part route h is =
    let shared = shared_all route.net part.prefix (omega (arith, is.matched.low)) in
    record {
      within = subst (λ (n : ℕ). take n route.net ≡ take n part.prefix) shared is.matched.same ∙ take-length part.prefix;
      shortest = is.matched.low;
      longest = is.matched.high;
      least = is.least;
      greatest = is.greatest;
    }

pub as_pattern : (size : ℕ) (part : RoutePart) (route : RouteView) → IsReal size part → Has part route ↔ IsMatched part route
as_pattern size part route real = (as_matched part route real.pattern, as_has part route real.pattern)
