-- When the order of metrics is kept on the routes of a class.
use Rattle.std.proofs.Common.{◌≡◌, ◌≢◌, ◌⊎◌, ⊎_elim, inl, inr, ℕ, ◌+◌, ◌<◌, ◌≤◌, zero, suc, Bool, true, false, Some, List}
use Rattle.std.proofs.Common.{[], ◌∷◌, ◌++◌, ap, length, refl, sym, ◌∙◌, subst, arith}
use Rattle.std.specs.Prelude.{None, Option, ◌-◌, unwrap_or}
use Rattle.std.proofs.lemmas.Bool.{cases_eq}
use Rattle.prefix_patterns.specs.Bits.{address_length, address_of, prefix_bits}
use Rattle.filter_code.specs.CodeView.{CodeView}
use Rattle.filter_code.specs.Machine.{outcome_of}
use Rattle.filter_code.specs.RouteView.{RouteView}
use Rattle.filter_code.specs.declared.outcome.Outcome.{Outcome}
use Rattle.filter_diff.specs.Classes.{Always, IsKnown, IsOf, IsOfSize}
use Rattle.filter_diff.specs.Endings.{outcome_at}
use Rattle.filter_diff.specs.Meeting.{Throughout}
use Rattle.filter_diff.specs.Ordering.{IsCompared, IsDisorder, IsKeptAt, IsLostAt, KeepsOrder, SaysKept, comes_to, route_with, with_next}
use Rattle.filter_diff.specs.Parts.{IsIn}
use Rattle.filter_diff.specs.Searches.{IsLeft}
use Rattle.filter_diff.specs.declared.class.Class.{Class}
use Rattle.filter_diff.specs.declared.ending.RunEnding.{RunEnding}
use Rattle.filter_diff.specs.declared.ending.RunEnding.TheVariants as ending
use Rattle.filter_diff.specs.declared.found.Found.{Found}
use Rattle.filter_diff.specs.declared.found.Found.TheVariants as found
use Rattle.filter_diff.specs.declared.ordering.Disorder.{Disorder}
use Rattle.filter_diff.proofs.Dealt.{left_taken, of_resized, resized}
use Rattle.filter_diff.proofs.Expected.{first_is_in, first_is_of}
use Rattle.filter_diff.proofs.Splits.{known_is, one_route}

-- what is found of the outcomes with a metric and with the next is found of a class, where each of its routes has these
pub said_of : (program : CodeView) (class : Class) (lesser next : Outcome) (what : Found)
    → ((route : RouteView) → IsOf class route → outcome_of program route ≡ lesser)
    → ((route : RouteView) → IsOf class route → outcome_of program (with_next route) ≡ next)
    → ((route : RouteView) → IsOf class route → route.metric + 1 < route.size)
    → IsCompared class.size lesser next what → SaysKept program class what
said_of program class lesser next found.Same lesser_is next_is below is =
    λ route is_in of _.
    let a : comes_to route.size (outcome_of program route) ≡ comes_to class.size lesser = λ i. comes_to (of.size i) (lesser_is route of i) in
    let b : comes_to route.size (outcome_of program (with_next route)) ≡ comes_to class.size next = λ i. comes_to (of.size i) (next_is route of i) in
    omega (arith, a, b, is)
said_of program class lesser next (found.Differ x y) lesser_is next_is below is =
    λ route is_in of.
    let a : comes_to route.size (outcome_of program route) ≡ comes_to class.size lesser = λ i. comes_to (of.size i) (lesser_is route of i) in
    let b : comes_to route.size (outcome_of program (with_next route)) ≡ comes_to class.size next = λ i. comes_to (of.size i) (next_is route of i) in
    record { below = below route of; more = omega (arith, a, b, is) }
said_of program class lesser next found.AsksBits lesser_is next_is below is = tt
said_of program class lesser next found.AsksMetric lesser_is next_is below is = tt

-- a route of a class with a metric has that metric, and the route with the next one is of the class with the next
module _ (class : Class) (metric : ℕ) (known : class.metric ≡ Some metric) where
  pub received : (route : RouteView) → IsOf class route → route.metric ≡ metric
  received route of = known_is class.metric metric route.metric known of.received

  pub next_of : (route : RouteView) → IsOf class route → IsOf (record class { metric = Some (metric + 1) }) (with_next route)
  next_of route of = record {
    begins = of.begins;
    long = of.long;
    fits = of.fits;
    received = ap (λ (n : ℕ). n + 1) (received route of);
    size = of.size;
  }

  pub below_all : metric + 1 < class.size → (route : RouteView) → IsOf class route → route.metric + 1 < route.size
  below_all below route of = omega (arith, below, received route of, of.size)

-- the one route of which all is known, with its metric and with the next one
pub said_of_one : (program : CodeView) (class : Class) (metric : ℕ) (ran next : RouteView) (before after : Outcome) (what : Found)
    → class.metric ≡ Some metric → length class.known ≡ class.len → metric + 1 < class.size
    → ran ≡ record { net = class.known; metric = metric; size = class.size }
    → next ≡ record { net = class.known; metric = metric + 1; size = class.size }
    → before ≡ outcome_of program ran → after ≡ outcome_of program next → IsCompared class.size before after what → SaysKept program class what
said_of_one program class metric ran next before after what known long below ran_is next_is before_is after_is is =
    said_of program class before after what
    (λ route of. ap (outcome_of program) (one_route class metric route known long of ∙ sym ran_is) ∙ sym before_is)
    (λ route of. ap (outcome_of program) (ap with_next (one_route class metric route known long of) ∙ sym next_is) ∙ sym after_is)
    (below_all class metric known below) is

-- all routes of a class with a metric
pub said_of_all : (program : CodeView) (class next_one : Class) (metric : ℕ) (a b : RunEnding) (before after : Outcome) (what : Found)
    → class.metric ≡ Some metric → metric + 1 < class.size → next_one ≡ record class { metric = Some (metric + 1) }
    → Always class (λ route. outcome_of program route ≡ outcome_at route a)
    → Always next_one (λ route. outcome_of program route ≡ outcome_at route b)
    → ((route : RouteView) → route.metric ≡ metric → before ≡ outcome_at route a)
    → ((route : RouteView) → route.metric ≡ metric + 1 → after ≡ outcome_at route b)
    → IsCompared class.size before after what → SaysKept program class what
said_of_all program class next_one metric a b before after what known below next_is ends next_ends before_is after_is is =
    said_of program class before after what
    (λ route of. ends route of ∙ sym (before_is route (received class metric known route of)))
    (λ route of. next_ends (with_next route) (subst (λ (c : Class). IsOf c (with_next route)) (sym next_is) (next_of class metric known route of))
    ∙ sym (after_is (with_next route) (ap (λ (n : ℕ). n + 1) (received class metric known route of))))
    (below_all class metric known below) is

-- where all runs of a class with any metric end alike, the order is kept
kept_alike : (size : ℕ) (route : RouteView) (end : RunEnding) → comes_to size (outcome_at route end) ≤ comes_to size (outcome_at (with_next route) end)
kept_alike size route ending.Unchanged = omega arith
kept_alike size route (ending.Fixed outcome) = omega arith

any_of : (class : Class) → class.metric ≡ None → (route : RouteView) → IsOf class route → IsOf class (with_next route)
any_of class any route of = record {
  begins = of.begins;
  long = of.long;
  fits = of.fits;
  received = subst (λ (known : Option ℕ). IsKnown known (route.metric + 1)) (sym any) tt;
  size = of.size;
}

pub kept_by_any : (program : CodeView) (class : Class) (end : RunEnding) → class.metric ≡ None
    → Always class (λ route. outcome_of program route ≡ outcome_at route end) → Throughout class (λ (route : RouteView). IsKeptAt program route)
kept_by_any program class end any ends route is_in of _ =
    let a : comes_to route.size (outcome_of program route) ≡ comes_to route.size (outcome_at route end) = ap (comes_to route.size) (ends route of) in
    let b : comes_to route.size (outcome_of program (with_next route)) ≡ comes_to route.size (outcome_at (with_next route) end) =
    ap (comes_to route.size) (ends (with_next route) (any_of class any route of)) in
    omega (arith, a, b, kept_alike route.size route end)

-- where the next metric is not below the size, nothing is asked
pub kept_at_the_end : (program : CodeView) (class : Class) (metric : ℕ) → class.metric ≡ Some metric → class.size ≤ metric + 1
    → Throughout class (λ (route : RouteView). IsKeptAt program route)
kept_at_the_end program class metric known far route is_in of below =
    absurd (omega (arith, far, below, received class metric known route of, of.size))

-- the class that is taken is dealt with, and the others stay so
module _ (program : CodeView) (size : ℕ) (route : RouteView) (is_in : IsIn size route) where
  by_left : (ds es : List Class) (next : Class) → (IsLeft route ds → IsLeft route es)
      → (IsOf (resized next size) route → IsKeptAt program route ⊎ IsLeft route es)
      → IsLeft route ds ⊎ IsOf next route → IsKeptAt program route ⊎ IsLeft route es
  by_left ds es next kept here (inl left) = inr (kept left)
  by_left ds es next kept here (inr of) = here (of_resized next size route is_in of)

  pub kept_taken : (cs ds es : List Class) (next : Class) → cs ≡ ds ++ (next ∷ []) → (IsLeft route ds → IsLeft route es)
      → (IsOf (resized next size) route → IsKeptAt program route ⊎ IsLeft route es)
      → IsKeptAt program route ⊎ IsLeft route cs → IsKeptAt program route ⊎ IsLeft route es
  kept_taken cs ds es next items kept here (inl met) = inl met
  kept_taken cs ds es next items kept here (inr left) = by_left ds es next kept here (left_taken route cs ds next items left)

none_left : (program : CodeView) (route : RouteView) (cs : List Class) → cs ≡ [] → IsKeptAt program route ⊎ IsLeft route cs → IsKeptAt program route
none_left program route cs e (inl kept) = kept
none_left program route cs e (inr left) = absurd (subst (IsLeft route) e left)

-- of metrics that follow one another the order is kept, and so of any two
steps : (program : CodeView) (size : ℕ) → ((route : RouteView) → IsIn size route → IsKeptAt program route) → (net : List Bool) (x k : ℕ)
    → length net ≤ address_length → x + k < size
    → comes_to size (outcome_of program (route_with size net x)) ≤ comes_to size (outcome_of program (route_with size net (x + k)))
steps program size each net x zero fits below =
    let same : x + zero ≡ x = omega arith in
    omega (arith, ap (λ (n : ℕ). comes_to size (outcome_of program (route_with size net n))) same)
steps program size each net x (suc k) fits below =
    let one : IsIn size (route_with size net (x + k)) = record { fits = fits; reachable = omega (arith, below); domain = refl } in
    let more : x + suc k ≡ (x + k) + 1 = omega arith in
    let here = each (route_with size net (x + k)) one (omega (arith, below)) in
    omega (
      arith,
      steps program size each net x k fits (omega (arith, below)),
      here,
      ap (λ (n : ℕ). comes_to size (outcome_of program (route_with size net n))) more,
    )

pub order_kept : (program : CodeView) (size : ℕ) (cs : List Class) → cs ≡ []
    → ((route : RouteView) → IsIn size route → IsKeptAt program route ⊎ IsLeft route cs) → KeepsOrder program size
order_kept program size cs e all net x y fits order below =
    let k = y - x in
    let apart : x + k ≡ y = omega (arith, order) in
    subst (λ (n : ℕ). comes_to size (outcome_of program (route_with size net x)) ≤ comes_to size (outcome_of program (route_with size net n))) apart
    (steps program size (λ route is_in. none_left program route cs e (all route is_in)) net x k fits (omega (arith, apart, below)))

-- the first route of a class on whose routes the order is lost
pub lost_first : (program : CodeView) (class : Class) (metric address : ℕ) (prefix : List Bool) → IsOfSize class.size class
    → class.metric ≡ Some metric → Throughout class (λ route. IsLostAt program route) → address ≡ address_of class.known
    → prefix ≡ prefix_bits address class.len → IsLostAt program (route_with class.size prefix metric)
lost_first program class metric address prefix real known lost address_is prefix_is =
    let net_is : prefix ≡ prefix_bits (address_of class.known) class.len = prefix_is ∙ ap (λ (n : ℕ). prefix_bits n class.len) address_is in
    subst (IsLostAt program)
    (λ i. route_with class.size (sym net_is i) (metric_is i))
    (lost _ (first_is_in class real) (first_is_of class real))
  where
    metric_is : unwrap_or class.metric 0 ≡ metric
    metric_is = ap (λ (m : Option ℕ). unwrap_or m 0) known

-- then its metric has a next one below the size
pub lost_below : (program : CodeView) (class : Class) (metric : ℕ) → IsOfSize class.size class → class.metric ≡ Some metric
    → Throughout class (λ route. IsLostAt program route) → metric + 1 < class.size
lost_below program class metric real known lost =
    let first = lost _ (first_is_in class real) (first_is_of class real) in
    subst (λ (n : ℕ). n + 1 < class.size) (ap (λ (m : Option ℕ). unwrap_or m 0) known) first.below

-- and with the runs on that route, with its metric and with the next one, it is not kept
pub not_kept_first : (program : CodeView) (class : Class) (metric address : ℕ) (prefix : List Bool) (ran after : RouteView) (lesser next : Outcome)
    → IsOfSize class.size class → class.metric ≡ Some metric → Throughout class (λ route. IsLostAt program route)
    → address ≡ address_of class.known → prefix ≡ prefix_bits address class.len
    → ran ≡ route_with class.size prefix metric → after ≡ route_with class.size prefix (metric + 1)
    → lesser ≡ outcome_of program ran → next ≡ outcome_of program after → comes_to class.size lesser ≤ comes_to class.size next → ⊥
not_kept_first program class metric address prefix ran after lesser next real known lost address_is prefix_is ran_is after_is lesser_is next_is kept =
    let here = lost_first program class metric address prefix real known lost address_is prefix_is in
    let a : comes_to class.size lesser ≡ comes_to class.size (outcome_of program (route_with class.size prefix metric)) =
    ap (comes_to class.size) (lesser_is ∙ ap (outcome_of program) ran_is) in
    let b : comes_to class.size next ≡ comes_to class.size (outcome_of program (route_with class.size prefix (metric + 1))) =
    ap (comes_to class.size) (next_is ∙ ap (outcome_of program) after_is) in
    omega (arith, here.more, a, b, kept)

-- two metrics of a route whose runs are shown
pub is_disorder : (program : CodeView) (size : ℕ) (shown : Disorder) (ran after : RouteView) → length shown.prefix ≤ 32 → shown.metric + 1 < size
    → ran ≡ route_with size shown.prefix shown.metric → after ≡ route_with size shown.prefix (shown.metric + 1)
    → shown.lesser ≡ outcome_of program ran → shown.next ≡ outcome_of program after
    → comes_to size shown.next < comes_to size shown.lesser → IsDisorder program size shown
is_disorder program size shown ran after fits below ran_is after_is lesser_is next_is more = record {
  fits = fits;
  below = below;
  lesser = sym (lesser_is ∙ ap (outcome_of program) ran_is);
  next = sym (next_is ∙ ap (outcome_of program) after_is);
  more = more;
}
