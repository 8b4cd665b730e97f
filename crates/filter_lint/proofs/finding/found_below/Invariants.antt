use Rattle.std.proofs.Common.{◌≡◌, ℕ, Option}
use Rattle.filter_lint.specs.Finding.{below}
use Rattle.filter_lint.specs.declared.warning.Warning.{Warning}
use Rattle.filter_lint.proofs.finding.found_below.Given as goal

-- what is said so far
abbrev pub invariant-loop-at : goal.invariant-loop-at
invariant-loop-at g l = (f : ℕ → Option Warning) → ((at : ℕ) (r : Option Warning) → goal.F-post g l.said at r → r ≡ f at)
    → l.found.items ≡ below f l.at
