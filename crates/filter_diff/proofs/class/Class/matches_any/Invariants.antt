use Rattle.std.proofs.Common.{◌≡◌, true, false, take}
use Rattle.filter_code.specs.RouteView.{RouteView}
use Rattle.prefix_patterns.specs.Matching.{matches_any}
use Rattle.filter_diff.specs.Classes.{Always}
use Rattle.filter_diff.proofs.class.Class.matches_any.Given as goal

-- no pattern so far is matched, if so it seems
abbrev pub invariant-loop-pattern : goal.invariant-loop-pattern
invariant-loop-pattern l =
    l.none ≡ true → Always l.self (λ (route : RouteView). matches_any route.net (take l.pattern-index l.pattern-items) ≡ false)
