-- When the runs on the routes of a class end as is expected.
use Rattle.std.proofs.Common.{◌≡◌, ◌≢◌, ◌⊎◌, inl, inr, ℕ, ◌≤◌, Bool, true, false, Some, List}
use Rattle.std.proofs.Common.{[], ◌∷◌, ◌++◌, All, ap, length, refl, sym, ◌∙◌, subst, arith}
use Rattle.std.specs.Prelude.{◌&&◌, IfSome, None, Option, nat_le, unwrap_or}
use Rattle.std.proofs.lemmas.Bool.Decides.{nat_tests}
use Rattle.std.proofs.lemmas.List.{take-take, take_all}
use Rattle.std.proofs.lemmas.List.Elements.{All-pop}
use Rattle.prefix_patterns.proofs.Matches.{matches-Decides}
use Rattle.prefix_patterns.specs.Bits.{address_bits, address_of, prefix_bits}
use Rattle.prefix_patterns.specs.BitLists.{length-prefix_bits, prefix_bits-address_of}
use Rattle.prefix_patterns.specs.Matching.{LiesWithin, matches}
use Rattle.filter_code.specs.CodeView.{CodeView}
use Rattle.filter_code.specs.Machine.{outcome_of}
use Rattle.filter_code.specs.RouteView.{RouteView}
use Rattle.filter_code.specs.declared.outcome.Outcome.{Outcome}
use Rattle.filter_diff.specs.Classes.{Always, IsKnown, IsOf, IsOfSize, IsUpTo}
use Rattle.filter_diff.specs.Endings.{outcome_at}
use Rattle.filter_diff.specs.Expectations.{IsCovered, IsMetAt, IsMissedAt, IsShown, route_of}
use Rattle.filter_diff.specs.Meeting.{EndsAs, SaysMet, Throughout}
use Rattle.filter_diff.specs.Parts.{IsIn}
use Rattle.filter_diff.specs.Searches.{Compare, IsLeft}
use Rattle.filter_diff.specs.declared.checking.Counterexample.{Counterexample}
use Rattle.filter_diff.specs.declared.class.Class.{Class}
use Rattle.filter_diff.specs.declared.ending.RunEnding.{RunEnding}
use Rattle.filter_diff.specs.declared.ending.RunEnding.TheVariants as ending
use Rattle.filter_diff.specs.declared.expectation.Expectation.{Expectation}
use Rattle.filter_diff.specs.declared.found.Found.{Found}
use Rattle.filter_diff.specs.declared.found.Found.TheVariants as found
use Rattle.filter_diff.proofs.Dealt.{left_taken, of_resized, resized}
use Rattle.filter_diff.proofs.Splits.{known_is, one_route}

-- where all bits are known, these are the prefix
pub whole_net : (class : Class) (route : RouteView) → length class.known ≡ class.len → IsOf class route → route.net ≡ class.known
whole_net class route long of = sym (take_all (length class.known) route.net (omega (arith, of.long))) ∙ of.begins

-- how a run ends on the one route of which all is known
pub ends_one : (program : CodeView) (class : Class) (metric : ℕ) (end : RunEnding) (ran : RouteView) (before after : Outcome) (what : Found)
    → class.metric ≡ Some metric → length class.known ≡ class.len → ran ≡ record { net = class.known; metric = metric; size = class.size }
    → before ≡ outcome_of program ran → ((route : RouteView) → route.metric ≡ metric → after ≡ outcome_at route end)
    → Compare (ending.Fixed before) (ending.Fixed after) what → EndsAs program class end what
ends_one program class metric end ran before after found.Same known long is before_is after_is same =
    λ route of.
    let here : route ≡ ran = one_route class metric route known long of ∙ sym is in
    let received : route.metric ≡ metric = known_is class.metric metric route.metric known of.received in
    subst (λ (r : RouteView). outcome_of program r ≡ outcome_at route end) (sym here)
    (sym before_is ∙ (same ran ∙ after_is route received))
ends_one program class metric end ran before after (found.Differ a b) known long is before_is after_is differ =
    λ route of as_expected.
    let here : route ≡ ran = one_route class metric route known long of ∙ sym is in
    let received : route.metric ≡ metric = known_is class.metric metric route.metric known of.received in
    differ.2 ran (before_is ∙ (subst (λ (r : RouteView). outcome_of program r ≡ outcome_at route end) here as_expected
    ∙ sym (after_is route received)))
ends_one program class metric end ran before after found.AsksBits known long is before_is after_is asks = tt
ends_one program class metric end ran before after found.AsksMetric known long is before_is after_is asks = tt

-- how the runs on all routes of a class end, by what is known of the metric
pub ends_compared : (program : CodeView) (class : Class) (end known expected : RunEnding) (what : Found)
    → Always class (λ route. outcome_of program route ≡ outcome_at route end)
    → ((route : RouteView) → IsKnown class.metric route.metric → outcome_at route known ≡ outcome_at route expected)
    → Compare end known what → EndsAs program class expected what
ends_compared program class end known expected found.Same ends is same = λ route of. ends route of ∙ (same route ∙ is route of.received)
ends_compared program class end known expected (found.Differ a b) ends is differ =
    λ route of as_expected. differ.2 route (sym (ends route of) ∙ (as_expected ∙ sym (is route of.received)))
ends_compared program class end known expected found.AsksBits ends is asks = tt
ends_compared program class end known expected found.AsksMetric ends is asks = tt

-- the parts of a test that is passed
and_first : (a b : Bool) → (a && b) ≡ true → a ≡ true
and_first true b e = refl
and_first false b e = let no : ⊥ = cc in absurd no

and_second : (a b : Bool) → (a && b) ≡ true → b ≡ true
and_second true b e = e
and_second false b e = let no : ⊥ = cc in absurd no

covered_metric : (expected : Expectation) (route : RouteView) → IsCovered expected route
    → (nat_le expected.least route.metric && nat_le route.metric expected.greatest) ≡ false → ⊥
covered_metric expected route covered none =
    let least : expected.least ≤ route.metric = covered.least in
    let greatest : route.metric ≤ expected.greatest = covered.greatest in
    grind (arith, nat_tests)

-- a route of which something is expected, where its prefix matches and its metric is in the range
covered_by : (expected : Expectation) (route : RouteView) → matches route.net expected.pattern ≡ true
    → (nat_le expected.least route.metric && nat_le route.metric expected.greatest) ≡ true → IsCovered expected route
covered_by expected route prefix metrics =
    let least : nat_le expected.least route.metric ≡ true = and_first _ _ metrics in
    let greatest : nat_le route.metric expected.greatest ≡ true = and_second (nat_le expected.least route.metric) _ metrics in
    record {
      matched = (matches-Decides route.net expected.pattern).0 prefix;
      least = grind (arith, nat_tests);
      greatest = grind (arith, nat_tests);
    }

abbrev has_metric : Expectation → RouteView → Bool
has_metric expected route = nat_le expected.least route.metric && nat_le route.metric expected.greatest

-- what ends so everywhere ends so where something is expected; and where none does, and something is expected of all, no run is as expected
pub met_of_ends : (program : CodeView) (class : Class) (expected : Expectation) (what : Found)
    → Always class (λ route. matches route.net expected.pattern ≡ true)
    → Throughout class (λ route. has_metric expected route ≡ true) → EndsAs program class expected.ending what
    → SaysMet program class expected what
met_of_ends program class expected found.Same prefixes metrics ends = λ route is_in of covered. ends route of
met_of_ends program class expected (found.Differ a b) prefixes metrics ends =
    λ route is_in of. record {
      covered = covered_by expected route (prefixes route of) (metrics route is_in of);
      otherwise = ends route of;
    }
met_of_ends program class expected found.AsksBits prefixes metrics ends = tt
met_of_ends program class expected found.AsksMetric prefixes metrics ends = tt

-- nothing is expected of routes with other metrics
pub other_metrics : (program : CodeView) (class : Class) (expected : Expectation)
    → Throughout class (λ route. has_metric expected route ≡ false) → Throughout class (λ (route : RouteView). IsMetAt program expected route)
other_metrics program class expected none route is_in of covered =
    let not_some : has_metric expected route ≡ false = none route is_in of in
    absurd (covered_metric expected route covered not_some)

-- whether the metrics of a class are in the range, where one is known, and where all are
pub has_known : (class : Class) (expected : Expectation) (metric : ℕ) → class.metric ≡ Some metric
    → Throughout class (λ (route : RouteView). has_metric expected route ≡ (nat_le expected.least metric && nat_le metric expected.greatest))
has_known class expected metric known route is_in of =
    let received : route.metric ≡ metric = known_is class.metric metric route.metric known of.received in
    ap (λ (m : ℕ). nat_le expected.least m && nat_le m expected.greatest) received

pub has_all : (class : Class) (expected : Expectation) → expected.least ≤ 0 → class.size ≤ expected.greatest
    → Throughout class (λ (route : RouteView). has_metric expected route ≡ true)
has_all class expected low high route is_in of =
    let least : expected.least ≤ route.metric = omega (arith, low) in
    let greatest : route.metric ≤ expected.greatest = omega (arith, high, is_in.reachable) in
    grind (arith, nat_tests)

-- the class that is taken is met or split, and the others stay so
module _ (program : CodeView) (expected : Expectation) (size : ℕ) (route : RouteView) (is_in : IsIn size route) where
  by_left : (ds es : List Class) (next : Class) → (IsLeft route ds → IsLeft route es)
      → (IsOf (resized next size) route → IsMetAt program expected route ⊎ IsLeft route es)
      → IsLeft route ds ⊎ IsOf next route → IsMetAt program expected route ⊎ IsLeft route es
  by_left ds es next kept here (inl left) = inr (kept left)
  by_left ds es next kept here (inr of) = here (of_resized next size route is_in of)

  pub met_taken : (cs ds es : List Class) (next : Class) → cs ≡ ds ++ (next ∷ []) → (IsLeft route ds → IsLeft route es)
      → (IsOf (resized next size) route → IsMetAt program expected route ⊎ IsLeft route es)
      → IsMetAt program expected route ⊎ IsLeft route cs → IsMetAt program expected route ⊎ IsLeft route es
  met_taken cs ds es next items kept here (inl met) = inl met
  met_taken cs ds es next items kept here (inr left) = by_left ds es next kept here (left_taken route cs ds next items left)

-- none is left
pub met_all : (program : CodeView) (expected : Expectation) (route : RouteView) (cs : List Class) → cs ≡ []
    → IsMetAt program expected route ⊎ IsLeft route cs → IsMetAt program expected route
met_all program expected route cs e (inl met) = met
met_all program expected route cs e (inr left) = absurd (subst (IsLeft route) e left)

-- nothing is expected of routes with other prefixes
other_prefix : (program : CodeView) (class : Class) (expected : Expectation)
    → Always class (λ route. matches route.net expected.pattern ≡ false) → Throughout class (λ (route : RouteView). IsMetAt program expected route)
other_prefix program class expected none route is_in of covered =
    let some : matches route.net expected.pattern ≡ true = (matches-Decides route.net expected.pattern).1 covered.matched in
    let not_some : matches route.net expected.pattern ≡ false = none route of in
    let no : ⊥ = cc in
    absurd no

-- what is told of the prefixes or of the metrics of a class, where it is this
pub told_so : (P : RouteView → Bool → Type 0) (class : Class) (r : Option Bool) (v w : Bool)
    → IfSome r (λ m. Always class (λ route. P route m)) → r ≡ Some v → v ≡ w → Always class (λ route. P route w)
told_so P class (Some m) v w told is v_is =
    let m_is : m ≡ w = cc in
    λ route of. subst (P route) m_is (told route of)
told_so P class None v w told is v_is = let absent : ⊥ = cc in absurd absent

pub told_so_within : (P : RouteView → Bool → Type 0) (class : Class) (r : Option Bool) (v w : Bool)
    → IfSome r (λ m. Throughout class (λ route. P route m)) → r ≡ Some v → v ≡ w → Throughout class (λ route. P route w)
told_so_within P class (Some m) v w told is v_is =
    let m_is : m ≡ w = cc in
    λ route is_in of. subst (P route) m_is (told route is_in of)
told_so_within P class None v w told is v_is = let absent : ⊥ = cc in absurd absent

abbrev matches_so : Expectation → RouteView → Bool → Type 0
matches_so expected route m = matches route.net expected.pattern ≡ m

abbrev metrics_so : Expectation → RouteView → Bool → Type 0
metrics_so expected route m = has_metric expected route ≡ m

pub where_none_matches : (program : CodeView) (class : Class) (expected : Expectation) (r : Option Bool) (v : Bool)
    → IfSome r (λ m. Always class (λ route. matches route.net expected.pattern ≡ m)) → r ≡ Some v → v ≡ false
    → Throughout class (λ (route : RouteView). IsMetAt program expected route)
where_none_matches program class expected r v told is none =
    other_prefix program class expected (told_so (matches_so expected) class r v false told is none)

pub where_all_match : (class : Class) (expected : Expectation) (r : Option Bool) (v : Bool)
    → IfSome r (λ m. Always class (λ route. matches route.net expected.pattern ≡ m)) → r ≡ Some v → v ≡ true
    → Always class (λ route. matches route.net expected.pattern ≡ true)
where_all_match class expected r v told is all = told_so (matches_so expected) class r v true told is all

pub where_no_metric_is : (program : CodeView) (class : Class) (expected : Expectation) (r : Option Bool) (v : Bool)
    → IfSome r (λ m. Throughout class (λ route. has_metric expected route ≡ m)) → r ≡ Some v → v ≡ false
    → Throughout class (λ (route : RouteView). IsMetAt program expected route)
where_no_metric_is program class expected r v told is none =
    other_metrics program class expected (told_so_within (metrics_so expected) class r v false told is none)

pub where_all_metrics_are : (class : Class) (expected : Expectation) (r : Option Bool) (v : Bool)
    → IfSome r (λ m. Throughout class (λ route. has_metric expected route ≡ m)) → r ≡ Some v → v ≡ true
    → Throughout class (λ route. has_metric expected route ≡ true)
where_all_metrics_are class expected r v told is all = told_so_within (metrics_so expected) class r v true told is all

-- the first route of a class
abbrev first_of : Class → ℕ → RouteView
first_of class metric = record { net = prefix_bits (address_of class.known) class.len; metric = metric; size = class.size }

first_begins : (class : Class) → length class.known ≤ class.len → class.len ≤ 32
    → LiesWithin (prefix_bits (address_of class.known) class.len) class.known
first_begins class bits fits =
    take-take (length class.known) class.len (address_bits (address_of class.known)) bits
    ∙ prefix_bits-address_of class.known (omega arith)

received_first : (known : Option ℕ) → IsKnown known (unwrap_or known 0)
received_first None = tt
received_first (Some metric) = refl

reachable_first : (size : ℕ) (known : Option ℕ) → IsUpTo size known → unwrap_or known 0 ≤ size
reachable_first size None up = omega arith
reachable_first size (Some metric) up = up

pub first_is_of : (class : Class) → IsOfSize class.size class → IsOf class (first_of class (unwrap_or class.metric 0))
first_is_of class real =
    let long : length (prefix_bits (address_of class.known) class.len) ≡ class.len =
    length-prefix_bits (address_of class.known) class.len real.fits in
    record {
      begins = first_begins class real.bits real.fits;
      long = long;
      fits = omega (arith, long, real.fits);
      received = received_first class.metric;
      size = refl;
    }

pub first_is_in : (class : Class) → IsOfSize class.size class → IsIn class.size (first_of class (unwrap_or class.metric 0))
first_is_in class real =
    let long : length (prefix_bits (address_of class.known) class.len) ≡ class.len =
    length-prefix_bits (address_of class.known) class.len real.fits in
    record { fits = omega (arith, long, real.fits); reachable = reachable_first class.size class.metric real.reachable; domain = refl }

-- it is missed where all routes of the class are
pub first_missed : (program : CodeView) (class : Class) (expected : Expectation) (ran : RouteView) (prefix : List Bool) (address metric : ℕ)
    → IsOfSize class.size class → Throughout class (λ route. IsMissedAt program expected route) → address ≡ address_of class.known
    → prefix ≡ prefix_bits address class.len → metric ≡ unwrap_or class.metric 0
    → ran ≡ record { net = prefix; metric = metric; size = class.size } → IsMissedAt program expected ran
first_missed program class expected ran prefix address metric real missed address_is prefix_is metric_is is =
    let net_is : prefix ≡ prefix_bits (address_of class.known) class.len = prefix_is ∙ ap (λ (n : ℕ). prefix_bits n class.len) address_is in
    let ran_is : ran ≡ first_of class (unwrap_or class.metric 0) = is ∙ (rw (net_is, metric_is) refl) in
    subst (IsMissedAt program expected) (sym ran_is)
    (missed (first_of class (unwrap_or class.metric 0)) (first_is_in class real) (first_is_of class real))

pub missed_otherwise : (program : CodeView) (expected : Expectation) (ran : RouteView) (metric : ℕ) (found other : Outcome)
    → IsMissedAt program expected ran → ran.metric ≡ metric → found ≡ outcome_of program ran
    → ((route : RouteView) → route.metric ≡ metric → other ≡ outcome_at route expected.ending) → found ≢ other
missed_otherwise program expected ran metric found other missed received found_is other_is same =
    missed.otherwise (sym found_is ∙ (same ∙ other_is ran received))

-- the test of a route of which something is expected
pub covers_first : (expected : Expectation) (route : RouteView) → IsCovered expected route
    → (matches route.net expected.pattern && (nat_le expected.least route.metric && nat_le route.metric expected.greatest)) ≡ true
covers_first expected route covered =
    let prefix : matches route.net expected.pattern ≡ true = (matches-Decides route.net expected.pattern).1 covered.matched in
    let least : expected.least ≤ route.metric = covered.least in
    let greatest : route.metric ≤ expected.greatest = covered.greatest in
    let low : nat_le expected.least route.metric ≡ true = grind (arith, nat_tests) in
    let high : nat_le route.metric expected.greatest ≡ true = grind (arith, nat_tests) in
    rw (prefix, low, high) refl

-- of the classes that are left, the last is taken
pub size_taken : (size : ℕ) (cs ds : List Class) (c : Class) → cs ≡ ds ++ (c ∷ []) → All (IsOfSize size) cs
    → All (IsOfSize size) ds × IsOfSize size c
size_taken size cs ds c e real = All-pop (IsOfSize size) cs ds (Some c) e real

is_covered : (expected : Expectation) (route : RouteView)
    → (matches route.net expected.pattern && (nat_le expected.least route.metric && nat_le route.metric expected.greatest)) ≡ true
    → IsCovered expected route
is_covered expected route e =
    covered_by expected route (and_first (matches route.net expected.pattern) _ e) (and_second (matches route.net expected.pattern) _ e)

-- a route that is shown
pub is_shown : (program : CodeView) (size : ℕ) (expected : Expectation) (found : Counterexample) (ran : RouteView) (other : Outcome)
    → length found.prefix ≤ 32 → found.metric ≤ size → ran ≡ record { net = found.prefix; metric = found.metric; size = size }
    → found.outcome ≡ outcome_of program ran
    → ((route : RouteView) → route.metric ≡ found.metric → other ≡ outcome_at route expected.ending) → found.outcome ≢ other
    → (matches found.prefix expected.pattern && (nat_le expected.least found.metric && nat_le found.metric expected.greatest)) ≡ true
    → IsShown program size expected found
is_shown program size expected found ran other fits reachable is outcome_is other_is differ covers = record {
  is_in = record { fits = fits; reachable = reachable; domain = refl };
  is_covered = is_covered expected (route_of size found) covers;
  ends = subst (λ (r : RouteView). outcome_of program r ≡ found.outcome) is (sym outcome_is);
  otherwise = λ same. differ (same ∙ sym (other_is (route_of size found) refl));
}
