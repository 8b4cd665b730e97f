-- Classes and parts with routes of the domain.
use Rattle.std.proofs.Common.{◌≡◌, ℕ, ◌-◌, Some, List, [], ◌∷◌, ◌++◌, All}
use Rattle.std.proofs.Common.{sym, subst, arith}
use Rattle.std.proofs.lemmas.List.Elements.{All-pop, All-push}
use Rattle.filter_diff.specs.Classes.{IsOfSize}
use Rattle.filter_diff.specs.Searches.{AreReal}
use Rattle.filter_diff.specs.declared.class.Class.{Class}
use Rattle.filter_diff.specs.declared.route_part.RoutePart.{RoutePart}

-- a class more
pub real_more : (size : ℕ) (xs ys : List Class) (c : Class) → ys ≡ xs ++ (c ∷ []) → All (IsOfSize size) xs → IsOfSize size c →
    All (IsOfSize size) ys
real_more size xs ys c e all real = subst (All (IsOfSize size)) (sym e) (All-push (IsOfSize size) xs c all real)

-- a class with one metric
pub metric_real : (class : Class) (step : ℕ) (xs ys : List Class) → IsOfSize class.size class →
    ys ≡ xs ++ (record { known = class.known; len = class.len; metric = Some (class.size - step); size = class.size } ∷ []) →
    All (IsOfSize class.size) xs → All (IsOfSize class.size) ys
metric_real class step xs ys real e all =
    real_more class.size xs ys _ e all (record { bits = real.bits; fits = real.fits; reachable = omega arith })

-- of the classes that are left, the last is taken
pub real_taken : (size : ℕ) (parts : List RoutePart) (cs ds : List Class) (c : Class) → cs ≡ ds ++ (c ∷ []) → AreReal size parts cs →
    AreReal size parts ds × IsOfSize size c
real_taken size parts cs ds c e real =
    let split = All-pop (IsOfSize size) cs ds (Some c) e real.left in
    (record { found = real.found; left = split.0 }, split.1)
