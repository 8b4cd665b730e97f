use Rattle.std.proofs.Common.{◌+◌}
use Rattle.std.proofs.lemmas.List.Sorted.{All-permutation, IsPermutation-sym}
use Rattle.filter_types.specs.Sweep.{IsOrdered}
use Rattle.filter_types.proofs.Sweeping.{permuted}
use Rattle.filter_types.proofs.labels.first_shared.Goals as goal

pub count_apart-requires-clause-ordered : goal.count_apart-requires-clause-ordered
count_apart-requires-clause-ordered c =
    rw c.deref.ensures.value (All-permutation IsOrdered _ _ c.sorted-sorted.ensures.same c.requires.ordered)

pub returns-clause-apart : goal.returns-clause-apart
returns-clause-apart c =
    permuted c.count_apart.result _ _ (IsPermutation-sym _ _ c.sorted-sorted.ensures.same)
    (rw c.deref.ensures.value at c.count_apart.ensures.apart)

pub returns-clause-most : goal.returns-clause-most
returns-clause-most c low all =
    (rw c.deref.ensures.value at c.count_apart.ensures.most) low (permuted (c.count_apart.result + 1) _ _ c.sorted-sorted.ensures.same all)
