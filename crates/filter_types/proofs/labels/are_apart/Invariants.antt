use Rattle.std.proofs.Common.{◌≡◌, drop}
use Rattle.filter_types.specs.Sweep.{are_apart}
use Rattle.filter_types.proofs.labels.are_apart.Given as goal

-- the ranges that are left tell what all of them do
abbrev pub invariant-loop-next : goal.invariant-loop-next
invariant-loop-next l = are_apart l.count 0 0 l.sorted ≡ are_apart l.count l.end l.label (drop l.next-index l.sorted)
