-- What is dealt with stays so.
use Rattle.std.proofs.Common.{◌≡◌, ◌⊎◌, inl, inr, ℕ, ◌+◌, ◌-◌, ◌<◌, ◌≤◌, Bool, true, false}
use Rattle.std.proofs.Common.{Some, List, [], ◌∷◌, ◌++◌, length, refl, sym, subst, arith}
use Rattle.std.specs.Prelude.{nat_lt}
use Rattle.std.proofs.lemmas.Bool.Decides.{nat_tests}
use Rattle.filter_code.specs.CodeView.{CodeView}
use Rattle.filter_code.specs.RouteView.{RouteView}
use Rattle.filter_diff.specs.Classes.{IsOf}
use Rattle.filter_diff.specs.Parts.{Has, InOne, IsIn, IsSame}
use Rattle.filter_diff.specs.Searches.{IsDealt, IsLeft}
use Rattle.filter_diff.specs.declared.class.Class.{Class}
use Rattle.filter_diff.specs.declared.route_part.RoutePart.{RoutePart}
use Rattle.filter_diff.proofs.Splits.{left_last, left_more}

in_more : (route : RouteView) (xs ys : List RoutePart) → InOne route xs → InOne route (xs ++ ys)
in_more route [] ys none = elim none [ ]
in_more route (x ∷ xs) ys (inl here) = inl here
in_more route (x ∷ xs) ys (inr there) = inr (in_more route xs ys there)

in_last : (route : RouteView) (xs : List RoutePart) (p : RoutePart) → Has p route → InOne route (xs ++ (p ∷ []))
in_last route [] p has = inl has
in_last route (x ∷ xs) p has = inr (in_last route xs p has)

-- a part more
pub in_kept : (route : RouteView) (xs ys : List RoutePart) (p : RoutePart) → ys ≡ xs ++ (p ∷ []) → InOne route xs → InOne route ys
in_kept route xs ys p e h = subst (InOne route) (sym e) (in_more route xs (p ∷ []) h)

pub in_new : (route : RouteView) (xs ys : List RoutePart) (p : RoutePart) → ys ≡ xs ++ (p ∷ []) → Has p route → InOne route ys
in_new route xs ys p e has = subst (InOne route) (sym e) (in_last route xs p has)

-- a class more
pub left_kept : (route : RouteView) (xs ys : List Class) (c : Class) → ys ≡ xs ++ (c ∷ []) → IsLeft route xs → IsLeft route ys
left_kept route xs ys c e h = subst (IsLeft route) (sym e) (left_more route xs (c ∷ []) h)

pub left_new : (route : RouteView) (xs ys : List Class) (c : Class) → ys ≡ xs ++ (c ∷ []) → IsOf c route → IsLeft route ys
left_new route xs ys c e of = subst (IsLeft route) (sym e) (left_last route xs c of)

-- more parts, and more classes
pub dealt_parts : (old new : CodeView) (route : RouteView) (ps qs : List RoutePart) (cs : List Class) → (InOne route ps → InOne route qs) →
    IsDealt old new ps cs route → IsDealt old new qs cs route
dealt_parts old new route ps qs cs f (inl (inl same)) = inl (inl same)
dealt_parts old new route ps qs cs f (inl (inr found)) = inl (inr (f found))
dealt_parts old new route ps qs cs f (inr left) = inr left

pub dealt_left : (old new : CodeView) (route : RouteView) (ps : List RoutePart) (cs ds : List Class) → (IsLeft route cs → IsLeft route ds) →
    IsDealt old new ps cs route → IsDealt old new ps ds route
dealt_left old new route ps cs ds f (inl found) = inl found
dealt_left old new route ps cs ds f (inr left) = inr (f left)

-- of the classes that are left, the last is taken
before : {A B C : Type 0} → A ⊎ B → (C ⊎ A) ⊎ B
before (inl a) = inl (inr a)
before (inr b) = inr b

left_split : (route : RouteView) (xs : List Class) (c : Class) → IsLeft route (xs ++ (c ∷ [])) → IsLeft route xs ⊎ IsOf c route
left_split route [] c (inl of) = inr of
left_split route [] c (inr none) = elim none [ ]
left_split route (x ∷ xs) c (inl of) = inl (inl of)
left_split route (x ∷ xs) c (inr there) = before (left_split route xs c there)

pub left_taken : (route : RouteView) (cs ds : List Class) (c : Class) → cs ≡ ds ++ (c ∷ []) → IsLeft route cs →
    IsLeft route ds ⊎ IsOf c route
left_taken route cs ds c e left = left_split route ds c (subst (IsLeft route) e left)

pub dealt_taken : (old new : CodeView) (route : RouteView) (ps : List RoutePart) (cs ds : List Class) (c : Class) → cs ≡ ds ++ (c ∷ []) →
    IsDealt old new ps cs route → IsDealt old new ps ds route ⊎ IsOf c route
dealt_taken old new route ps cs ds c e (inl found) = inl (inl found)
dealt_taken old new route ps cs ds c e (inr left) = before (left_split route ds c (subst (IsLeft route) e left))

-- none is left
pub dealt_all : (old new : CodeView) (route : RouteView) (ps : List RoutePart) (cs : List Class) → cs ≡ [] → IsDealt old new ps cs route →
    IsSame old new route ⊎ InOne route ps
dealt_all old new route ps cs e (inl found) = found
dealt_all old new route ps cs e (inr left) = absurd (subst (IsLeft route) e left)

-- the routes with one more metric
metric_step_by : (class : Class) (route : RouteView) (xs ys : List Class) (step : ℕ) (before : Bool) →
    nat_lt class.size (route.metric + step) ≡ before →
    ys ≡ xs ++ (record { known = class.known; len = class.len; metric = Some (class.size - step); size = class.size } ∷ []) →
    (class.size < route.metric + step → IsLeft route xs) → IsIn class.size route → IsOf class route →
    class.size < route.metric + (step + 1) → IsLeft route ys
metric_step_by class route xs ys step true e items so_far is_in of h =
    left_kept route xs ys _ items (so_far (grind (arith, nat_tests)))
metric_step_by class route xs ys step false e items so_far is_in of h =
    let most : route.metric + step ≤ class.size = grind (arith, nat_tests) in
    let is : route.metric ≡ class.size - step = omega arith in
    left_new route xs ys _ items (record { begins = of.begins; long = of.long; fits = of.fits; received = is; size = of.size })

pub metric_step : (class : Class) (route : RouteView) (xs ys : List Class) (step : ℕ) →
    ys ≡ xs ++ (record { known = class.known; len = class.len; metric = Some (class.size - step); size = class.size } ∷ []) →
    (class.size < route.metric + step → IsLeft route xs) → IsIn class.size route → IsOf class route →
    class.size < route.metric + (step + 1) → IsLeft route ys
metric_step class route xs ys step = metric_step_by class route xs ys step _ refl

-- the routes with one more length
length_step_by : (class : Class) (route : RouteView) (xs ys : List Class) (step : ℕ) (before : Bool) →
    nat_lt 32 (length route.net + step) ≡ before → ys ≡ xs ++ (class ∷ []) → (32 < length route.net + step → IsLeft route xs) →
    (length route.net ≡ 32 - step → IsOf class route) → 32 < length route.net + (step + 1) → IsLeft route ys
length_step_by class route xs ys step true e items so_far here h = left_kept route xs ys _ items (so_far (grind (arith, nat_tests)))
length_step_by class route xs ys step false e items so_far here h =
    let most : length route.net + step ≤ 32 = grind (arith, nat_tests) in
    left_new route xs ys _ items (here (omega arith))

pub length_step : (class : Class) (route : RouteView) (xs ys : List Class) (step : ℕ) → ys ≡ xs ++ (class ∷ []) →
    (32 < length route.net + step → IsLeft route xs) → (length route.net ≡ 32 - step → IsOf class route) →
    32 < length route.net + (step + 1) → IsLeft route ys
length_step class route xs ys step = length_step_by class route xs ys step _ refl

-- a class in a domain of a size
abbrev pub resized : Class → ℕ → Class
resized next size = record { known = next.known; len = next.len; metric = next.metric; size = size }

pub of_resized : (next : Class) (size : ℕ) (route : RouteView) → IsIn size route → IsOf next route → IsOf (resized next size) route
of_resized next size route is_in of =
    record { begins = of.begins; long = of.long; fits = of.fits; received = of.received; size = is_in.domain }

tried_either : (old new : CodeView) (route : RouteView) (ps qs : List RoutePart) (ds es : List Class) (next : Class) (size : ℕ) → IsIn size route →
    (IsDealt old new ps ds route → IsDealt old new qs es route) → (IsOf (resized next size) route → IsDealt old new qs es route) →
    IsDealt old new ps ds route ⊎ IsOf next route → IsDealt old new qs es route
tried_either old new route ps qs ds es next size is_in kept here (inl dealt) = kept dealt
tried_either old new route ps qs ds es next size is_in kept here (inr of) = here (of_resized next size route is_in of)

-- the class that is taken is dealt with, and the others stay so
pub tried : (old new : CodeView) (route : RouteView) (ps qs : List RoutePart) (cs ds es : List Class) (next : Class) (size : ℕ) →
    cs ≡ ds ++ (next ∷ []) → IsIn size route → (IsDealt old new ps ds route → IsDealt old new qs es route) →
    (IsOf (resized next size) route → IsDealt old new qs es route) → IsDealt old new ps cs route → IsDealt old new qs es route
tried old new route ps qs cs ds es next size items is_in kept here dealt =
    tried_either old new route ps qs ds es next size is_in kept here (dealt_taken old new route ps cs ds next items dealt)
