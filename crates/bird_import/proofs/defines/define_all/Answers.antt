use Rattle.std.proofs.Common.{subst}
use Rattle.bird_import.specs.Steps.{Becomes}
use Rattle.bird_import.proofs.Defining.{becomes_on, unchanged}
use Rattle.bird_import.proofs.defines.define_all.Goals as goal

pub loop-init : goal.loop-init
loop-init c depth = unchanged c.args.config.now.words.now depth c.args.words.items

pub loop-preserved : goal.loop-preserved
loop-preserved c depth =
    let config = c.args.config.now.words.now in
    becomes_on config depth c.args.words.items c.loop.words.items c.in_ok-after.after.items (c.loop.invariant depth)
    (subst (λ list. Becomes config depth list c.in_ok-after.after.items) c.as_slice.ensures.value (c.in_ok-after.ensures depth))

pub returns-then-not-is_any : goal.returns-then-not-is_any
returns-then-not-is_any c depth =
    let config = c.args.config.now.words.now in
    becomes_on config depth c.args.words.items c.loop.words.items c.in_ok-after.after.items (c.loop.invariant depth)
    (subst (λ list. Becomes config depth list c.in_ok-after.after.items) c.as_slice.ensures.value (c.in_ok-after.ensures depth))
