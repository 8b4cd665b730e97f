use Rattle.bird_import.proofs.items.Walk.go_through.Goals as goal

pub loop-at-init : goal.loop-at-init
loop-at-init c = λ so_far. so_far

pub loop-at-preserved : goal.loop-at-preserved
loop-at-preserved c = λ so_far. c.in_ok-go_past.ensures (c.loop-at.invariant so_far)

pub returns : goal.returns
returns c = c.loop-at.invariant
