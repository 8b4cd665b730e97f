-- Classes that are left of a search, and how a class is split.
use Rattle.std.proofs.Common.{◌≡◌, ◌⊎◌, inl, inr, ℕ, suc, ◌<◌, Bool, true, false, Option, Some, List, [], ◌∷◌, ◌++◌, length, take, get_or}
use Rattle.std.proofs.Common.{refl, sym, ◌∙◌, ap, subst, arith, length-append}
use Rattle.std.proofs.lemmas.List.{take_all}
use Rattle.std.proofs.Math.Seq.{take-suc}
use Rattle.prefix_patterns.specs.Matching.{LiesWithin}
use Rattle.filter_code.specs.CodeView.{CodeView}
use Rattle.filter_code.specs.RouteView.{RouteView}
use Rattle.filter_code.specs.Machine.{outcome_of}
use Rattle.filter_code.specs.declared.outcome.Outcome.{Outcome}
use Rattle.filter_diff.specs.Classes.{IsKnown, IsOf}
use Rattle.filter_diff.specs.Searches.{Compare, HasBit, IsLeft, Says}
use Rattle.filter_diff.specs.declared.class.Class.{Class}
use Rattle.filter_diff.specs.declared.ending.RunEnding.TheVariants as ending
use Rattle.filter_diff.specs.declared.found.Found.{Found}
use Rattle.filter_diff.specs.declared.found.Found.TheVariants as found

-- what is left stays so when more is appended
pub left_more : (route : RouteView) (xs ys : List Class) → IsLeft route xs → IsLeft route (xs ++ ys)
left_more route [] ys none = elim none [ ]
left_more route (x ∷ xs) ys (inl here) = inl here
left_more route (x ∷ xs) ys (inr there) = inr (left_more route xs ys there)

pub left_last : (route : RouteView) (xs : List Class) (c : Class) → IsOf c route → IsLeft route (xs ++ (c ∷ []))
left_last route [] c of = inl of
left_last route (x ∷ xs) c of = inr (left_last route xs c of)

pub begins_longer : (net known : List Bool) (d : Bool) → LiesWithin net known → length known < length net →
    take (length (known ++ (get_or net (length known) d ∷ []))) net ≡ known ++ (get_or net (length known) d ∷ [])
begins_longer net known d begins h =
    let long : length (known ++ (get_or net (length known) d ∷ [])) ≡ suc (length known) =
    length-append known (get_or net (length known) d ∷ []) ∙ omega arith in
    rw long (take-suc net (length known) d h ∙ ap (λ (p : List Bool). p ++ (get_or net (length known) d ∷ [])) begins)

-- a route of a class is one of a class with its next bit
of_longer : (class longer : Class) (bit : Bool) (route : RouteView) → IsOf class route → HasBit class bit longer →
    length class.known < class.len → get_or route.net (length class.known) false ≡ bit → IsOf longer route
of_longer class longer bit route of has h is =
    let within : length class.known < length route.net = omega (arith, of.long) in
    let begins : LiesWithin route.net (class.known ++ (bit ∷ [])) =
    subst (λ (b : Bool). LiesWithin route.net (class.known ++ (b ∷ []))) is (begins_longer route.net class.known false of.begins within) in
    record {
      begins = subst (LiesWithin route.net) (sym has.known) begins;
      long = of.long ∙ sym has.len;
      fits = of.fits;
      received = subst (λ (m : Option ℕ). IsKnown m route.metric) (sym has.metric) of.received;
      size = of.size ∙ sym has.size;
    }

either : (class one zero : Class) (bit : Bool) (route : RouteView) → IsOf class route → HasBit class true one → HasBit class false zero →
    length class.known < class.len → get_or route.net (length class.known) false ≡ bit → IsOf one route ⊎ IsOf zero route
either class one zero true route of has_one has_zero h is = inl (of_longer class one true route of has_one h is)
either class one zero false route of has_one has_zero h is = inr (of_longer class zero false route of has_zero h is)

in_either : (route : RouteView) (xs : List Class) (one zero : Class) → IsOf one route ⊎ IsOf zero route →
    IsLeft route ((xs ++ (one ∷ [])) ++ (zero ∷ []))
in_either route xs one zero (inl of) = left_more route (xs ++ (one ∷ [])) (zero ∷ []) (left_last route xs one of)
in_either route xs one zero (inr of) = left_last route (xs ++ (one ∷ [])) zero of

-- a class is split into those with a 1 and those with a 0
pub split_left : (class one zero : Class) (route : RouteView) (xs ys zs : List Class) → IsOf class route → HasBit class true one →
    HasBit class false zero → length class.known < class.len → ys ≡ xs ++ (one ∷ []) → zs ≡ ys ++ (zero ∷ []) → IsLeft route zs
split_left class one zero route xs ys zs of has_one has_zero h e f =
    let all : zs ≡ (xs ++ (one ∷ [])) ++ (zero ∷ []) = f ∙ ap (λ (l : List Class). l ++ (zero ∷ [])) e in
    subst (IsLeft route) (sym all) (in_either route xs one zero (either class one zero _ route of has_one has_zero h refl))

pub kept_left : (route : RouteView) (xs ys zs : List Class) (one zero : Class) → ys ≡ xs ++ (one ∷ []) → zs ≡ ys ++ (zero ∷ []) →
    IsLeft route xs → IsLeft route zs
kept_left route xs ys zs one zero e f h =
    subst (IsLeft route) (sym f) (left_more route ys (zero ∷ []) (subst (IsLeft route) (sym e) (left_more route xs (one ∷ []) h)))

pub known_is : (known : Option ℕ) (m metric : ℕ) → known ≡ Some m → IsKnown known metric → metric ≡ m
known_is known m metric e h = subst (λ (k : Option ℕ). IsKnown k metric) e h

abbrev view : List Bool → ℕ → ℕ → RouteView
view net metric size = record { net = net; metric = metric; size = size }

-- where all bits and the metric are known there is one route
pub one_route : (class : Class) (metric : ℕ) (route : RouteView) → class.metric ≡ Some metric → length class.known ≡ class.len →
    IsOf class route → route ≡ record { net = class.known; metric = metric; size = class.size }
one_route class metric route known long of =
    let net_is : route.net ≡ class.known = sym (take_all (length class.known) route.net (omega (arith, of.long))) ∙ of.begins in
    let metric_is : route.metric ≡ metric = known_is class.metric metric route.metric known of.received in
    ap (λ (n : List Bool). view n route.metric route.size) net_is
    ∙ (ap (λ (m : ℕ). view class.known m route.size) metric_is ∙ ap (λ (n : ℕ). view class.known metric n) of.size)

-- what is found of it is found of the class
pub says_one : (old new : CodeView) (class : Class) (metric : ℕ) (ran : RouteView) (before after : Outcome) (what : Found) →
    class.metric ≡ Some metric → length class.known ≡ class.len →
    ran ≡ record { net = class.known; metric = metric; size = class.size } → before ≡ outcome_of old ran → after ≡ outcome_of new ran →
    Compare (ending.Fixed before) (ending.Fixed after) what → Says old new class what
says_one old new class metric ran before after found.Same known long is old_is new_is same =
    λ route of.
    let here : route ≡ ran = one_route class metric route known long of ∙ sym is in
    subst (λ (r : RouteView). outcome_of old r ≡ outcome_of new r) (sym here) (sym old_is ∙ (same ran ∙ new_is))
says_one old new class metric ran before after (found.Differ a b) known long is old_is new_is differ =
    λ route of.
    let here : route ≡ ran = one_route class metric route known long of ∙ sym is in
    let old_here : before ≡ outcome_of old route = subst (λ (r : RouteView). before ≡ outcome_of old r) (sym here) old_is in
    let new_here : after ≡ outcome_of new route = subst (λ (r : RouteView). after ≡ outcome_of new r) (sym here) new_is in
    rw (differ.0, differ.1) (record { old_is = sym old_here; new_is = sym new_here; differ = differ.2 route })
says_one old new class metric ran before after found.AsksBits known long is old_is new_is asks = tt
says_one old new class metric ran before after found.AsksMetric known long is old_is new_is asks = tt
