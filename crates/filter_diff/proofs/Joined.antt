-- Parts that join.
use Rattle.std.proofs.Common.{◌≡◌, ◌⊎◌, inl, inr, ℕ, ◌+◌, ◌<◌, ◌≤◌, Bool, true, false, List, [], ◌∷◌, ◌++◌, length, take, get_or}
use Rattle.std.proofs.Common.{refl, sym, ◌∙◌, ap, subst, arith, length-append}
use Rattle.std.specs.Prelude.{nat_le}
use Rattle.std.proofs.lemmas.Bool.Decides.{nat_tests}
use Rattle.std.proofs.lemmas.List.{take-take, take-append-le, take_all}
use Rattle.filter_diff.proofs.Splits.{begins_longer}
use Rattle.prefix_patterns.specs.Matching.{LiesWithin}
use Rattle.filter_code.specs.RouteView.{RouteView}
use Rattle.filter_diff.specs.Joins.{IsFoundOfBoth, Joins}
use Rattle.filter_diff.specs.Parts.{Has}
use Rattle.filter_diff.specs.declared.route_part.PartFinding.{PartFinding}
use Rattle.filter_diff.specs.declared.route_part.RoutePart.{RoutePart}

-- a part of its parts
abbrev pub part : List Bool → ℕ → ℕ → ℕ → ℕ → PartFinding → RoutePart
part prefix shortest longest least greatest finding =
    record { prefix = prefix; shortest = shortest; longest = longest; least = least; greatest = greatest; finding = finding }

lengths_by : (a b : RoutePart) (found : PartFinding) (route : RouteView) (in_first : Bool) → nat_le (length route.net) a.longest ≡ in_first →
    a.prefix ≡ b.prefix → a.least ≡ b.least → a.greatest ≡ b.greatest → a.longest + 1 ≡ b.shortest →
    Has (part a.prefix a.shortest b.longest a.least a.greatest found) route → Has a route ⊎ Has b route
lengths_by a b found route true e prefix least greatest near h =
    inl (record { within = h.within; shortest = h.shortest; longest = grind (arith, nat_tests); least = h.least; greatest = h.greatest })
lengths_by a b found route false e prefix least greatest near h =
    let past : a.longest < length route.net = grind (arith, nat_tests) in
    let shortest : b.shortest ≤ length route.net = omega arith in
    let from : b.least ≤ route.metric = omega (arith, h.least) in
    let to : route.metric ≤ b.greatest = omega (arith, h.greatest) in
    inr (record { within = subst (LiesWithin route.net) prefix h.within; shortest = shortest; longest = h.longest; least = from; greatest = to })

lengths_first : (a b : RoutePart) (found : PartFinding) (route : RouteView) → a.longest ≤ b.longest → Has a route →
    Has (part a.prefix a.shortest b.longest a.least a.greatest found) route
lengths_first a b found route more h =
    let longest : length route.net ≤ b.longest = omega (arith, h.longest) in
    record { within = h.within; shortest = h.shortest; longest = longest; least = h.least; greatest = h.greatest }

lengths_second : (a b : RoutePart) (found : PartFinding) (route : RouteView) → a.prefix ≡ b.prefix → a.least ≡ b.least → a.greatest ≡ b.greatest →
    a.shortest ≤ b.shortest → Has b route → Has (part a.prefix a.shortest b.longest a.least a.greatest found) route
lengths_second a b found route prefix least greatest more h =
    let shortest : a.shortest ≤ length route.net = omega (arith, h.shortest) in
    let from : a.least ≤ route.metric = omega (arith, h.least) in
    let to : route.metric ≤ a.greatest = omega (arith, h.greatest) in
    record { within = subst (LiesWithin route.net) (sym prefix) h.within; shortest = shortest; longest = h.longest; least = from; greatest = to }

pub joins_lengths : (a b : RoutePart) (found : PartFinding) → IsFoundOfBoth a b found → a.prefix ≡ b.prefix → a.least ≡ b.least → a.greatest ≡ b.greatest →
    a.shortest ≤ a.longest → a.longest + 1 ≡ b.shortest → b.shortest ≤ b.longest →
    Joins a b (part a.prefix a.shortest b.longest a.least a.greatest found)
joins_lengths a b found of_both prefix least greatest a_order near b_order = record {
  either = λ route h. lengths_by a b found route _ refl prefix least greatest near h;
  first = λ route h. lengths_first a b found route (omega arith) h;
  second = λ route h. lengths_second a b found route prefix least greatest (omega arith) h;
  found = of_both;
  real = λ size r s. record {
    pattern = r.pattern;
    lengths = omega (arith, r.lengths, s.lengths);
    fits = s.fits;
    metrics = r.metrics;
    reachable = r.reachable;
  };
}

metrics_by : (a b : RoutePart) (found : PartFinding) (route : RouteView) (in_first : Bool) → nat_le route.metric a.greatest ≡ in_first →
    a.prefix ≡ b.prefix → a.shortest ≡ b.shortest → a.longest ≡ b.longest → a.greatest + 1 ≡ b.least →
    Has (part a.prefix a.shortest a.longest a.least b.greatest found) route → Has a route ⊎ Has b route
metrics_by a b found route true e prefix shortest longest near h =
    inl (record { within = h.within; shortest = h.shortest; longest = h.longest; least = h.least; greatest = grind (arith, nat_tests) })
metrics_by a b found route false e prefix shortest longest near h =
    let past : a.greatest < route.metric = grind (arith, nat_tests) in
    let least : b.least ≤ route.metric = omega arith in
    let from : b.shortest ≤ length route.net = omega (arith, h.shortest) in
    let to : length route.net ≤ b.longest = omega (arith, h.longest) in
    inr (record { within = subst (LiesWithin route.net) prefix h.within; shortest = from; longest = to; least = least; greatest = h.greatest })

metrics_first : (a b : RoutePart) (found : PartFinding) (route : RouteView) → a.greatest ≤ b.greatest → Has a route →
    Has (part a.prefix a.shortest a.longest a.least b.greatest found) route
metrics_first a b found route more h =
    let greatest : route.metric ≤ b.greatest = omega (arith, h.greatest) in
    record { within = h.within; shortest = h.shortest; longest = h.longest; least = h.least; greatest = greatest }

metrics_second : (a b : RoutePart) (found : PartFinding) (route : RouteView) → a.prefix ≡ b.prefix → a.shortest ≡ b.shortest → a.longest ≡ b.longest →
    a.least ≤ b.least → Has b route → Has (part a.prefix a.shortest a.longest a.least b.greatest found) route
metrics_second a b found route prefix shortest longest more h =
    let least : a.least ≤ route.metric = omega (arith, h.least) in
    let from : a.shortest ≤ length route.net = omega (arith, h.shortest) in
    let to : length route.net ≤ a.longest = omega (arith, h.longest) in
    record { within = subst (LiesWithin route.net) (sym prefix) h.within; shortest = from; longest = to; least = least; greatest = h.greatest }

pub joins_metrics : (a b : RoutePart) (found : PartFinding) → IsFoundOfBoth a b found → a.prefix ≡ b.prefix → a.shortest ≡ b.shortest → a.longest ≡ b.longest →
    a.least ≤ a.greatest → a.greatest + 1 ≡ b.least → b.least ≤ b.greatest →
    Joins a b (part a.prefix a.shortest a.longest a.least b.greatest found)
joins_metrics a b found of_both prefix shortest longest a_order near b_order = record {
  either = λ route h. metrics_by a b found route _ refl prefix shortest longest near h;
  first = λ route h. metrics_first a b found route (omega arith) h;
  second = λ route h. metrics_second a b found route prefix shortest longest (omega arith) h;
  found = of_both;
  real = λ size r s. record {
    pattern = r.pattern;
    lengths = r.lengths;
    fits = r.fits;
    metrics = omega (arith, r.metrics, s.metrics);
    reachable = s.reachable;
  };
}

begins_less : (net whole : List Bool) (bit : Bool) → LiesWithin net (whole ++ (bit ∷ [])) → LiesWithin net whole
begins_less net whole bit begins =
    let long : length (whole ++ (bit ∷ [])) ≡ length whole + 1 = length-append whole (bit ∷ []) in
    let more : length whole ≤ length (whole ++ (bit ∷ [])) = omega arith in
    let few : length whole ≤ length whole = omega arith in
    sym (take-take (length whole) (length (whole ++ (bit ∷ []))) net more)
    ∙ (ap (take (length whole)) begins ∙ (take-append-le (length whole) whole (bit ∷ []) few ∙ take_all (length whole) whole few))

begins_more : (net whole : List Bool) (bit : Bool) → LiesWithin net whole → length whole < length net →
    get_or net (length whole) false ≡ bit → LiesWithin net (whole ++ (bit ∷ []))
begins_more net whole bit begins h is =
    subst (λ (b : Bool). LiesWithin net (whole ++ (b ∷ []))) is (begins_longer net whole false begins h)

halves_by : (a b : RoutePart) (whole : List Bool) (found : PartFinding) (route : RouteView) (bit : Bool) → get_or route.net (length whole) false ≡ bit →
    a.prefix ≡ whole ++ (false ∷ []) → b.prefix ≡ whole ++ (true ∷ []) → a.shortest ≡ b.shortest → a.longest ≡ b.longest →
    a.least ≡ b.least → a.greatest ≡ b.greatest → length a.prefix ≤ a.shortest →
    Has (part whole a.shortest a.longest a.least a.greatest found) route → Has a route ⊎ Has b route
halves_by a b whole found route false is first_half second_half shortest longest least greatest deep h =
    let long : length a.prefix ≡ length whole + 1 = ap length first_half ∙ length-append whole (false ∷ []) in
    let within : length whole < length route.net = omega (arith, h.shortest) in
    inl (record {
      within = subst (LiesWithin route.net) (sym first_half) (begins_more route.net whole false h.within within is);
      shortest = h.shortest;
      longest = h.longest;
      least = h.least;
      greatest = h.greatest;
    })
halves_by a b whole found route true is first_half second_half shortest longest least greatest deep h =
    let long : length a.prefix ≡ length whole + 1 = ap length first_half ∙ length-append whole (false ∷ []) in
    let within : length whole < length route.net = omega (arith, h.shortest) in
    inr (record {
      within = subst (LiesWithin route.net) (sym second_half) (begins_more route.net whole true h.within within is);
      shortest = omega (arith, h.shortest);
      longest = omega (arith, h.longest);
      least = omega (arith, h.least);
      greatest = omega (arith, h.greatest);
    })

pub joins_halves : (a b : RoutePart) (whole : List Bool) (found : PartFinding) → IsFoundOfBoth a b found → a.prefix ≡ whole ++ (false ∷ []) →
    b.prefix ≡ whole ++ (true ∷ []) → a.shortest ≡ b.shortest → a.longest ≡ b.longest → a.least ≡ b.least → a.greatest ≡ b.greatest →
    length a.prefix ≤ a.shortest → Joins a b (part whole a.shortest a.longest a.least a.greatest found)
joins_halves a b whole found of_both first_half second_half shortest longest least greatest deep = record {
  either = λ route h. halves_by a b whole found route _ refl first_half second_half shortest longest least greatest deep h;
  first = λ route h. record {
    within = begins_less route.net whole false (subst (LiesWithin route.net) first_half h.within);
    shortest = h.shortest;
    longest = h.longest;
    least = h.least;
    greatest = h.greatest;
  };
  second = λ route h. record {
    within = begins_less route.net whole true (subst (LiesWithin route.net) second_half h.within);
    shortest = omega (arith, h.shortest);
    longest = omega (arith, h.longest);
    least = omega (arith, h.least);
    greatest = omega (arith, h.greatest);
  };
  found = of_both;
  real = λ size r s.
      let long : length a.prefix ≡ length whole + 1 = ap length first_half ∙ length-append whole (false ∷ []) in
      record {
        pattern = omega (arith, r.pattern);
        lengths = r.lengths;
        fits = r.fits;
        metrics = r.metrics;
        reachable = r.reachable;
      };
}
