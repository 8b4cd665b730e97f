-- The members, each after those before it.
use Rattle.domain_reports.proofs.filter.effect_value.Goals as goal

pub returns : goal.returns
returns c =
    let distances = c.try_member.ensures _ _ c.new.ensures (rw c.as_slice.ensures.value at c.numbers_value.ensures) in
    let nodes = c.try_member-2.ensures _ _ distances (rw c.as_slice-2.ensures.value at c.numbers_value-2.ensures) in
    c.finish.ensures _ nodes
