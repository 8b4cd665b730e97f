use Rattle.std.proofs.Common.{rules, sym, ◌∙◌, ap}
use Rattle.std.proofs.lemmas.List.Sorted.{IsNonDecreasingBy-from_sort_by_key, list_any-IsPermutation}
use Rattle.int_sets.specs.Holding.{holds, holds_any}
use Rattle.int_sets.proofs.merge.sorted.Goals as goal

pub returns-clause-order : goal.returns-clause-order
returns-clause-order c =
    IsNonDecreasingBy-from_sort_by_key (λ r. r.low) _ c.sort_unstable_by_key.ensures.sorted (λ a r q k. search rules)

pub returns-clause-same : goal.returns-clause-same
returns-clause-same c = λ number.
    sym (list_any-IsPermutation (holds number) _ _ c.sort_unstable_by_key.ensures.permutation)
    ∙ ap (holds_any number) c.in_ok-sorted.ensures.items
