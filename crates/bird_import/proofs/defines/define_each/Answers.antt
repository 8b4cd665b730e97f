use Rattle.std.proofs.Common.{◌++◌, subst, sym, arith}
use Rattle.std.proofs.lemmas.Option.{slice_get-get_or}
use Rattle.bird_import.specs.Steps.{Becomes}
use Rattle.bird_import.proofs.Defining.{all_defined, further, unchanged}
use Rattle.bird_import.proofs.defines.define_each.Goals as goal

pub loop-at-init : goal.loop-at-init
loop-at-init c depth =
    let config = c.args.config.now.words.now in
    let words = c.args.words.now in
    subst (λ list. Becomes config depth words (list ++ words)) (sym c.new-done.ensures.items) (unchanged config depth words)

pub push_defined-requires-clause-there : goal.push_defined-requires-clause-there
push_defined-requires-clause-there c = slice_get-get_or c.args.words.now c.loop-at.at _ c.loop-at-test.true

pub loop-at-preserved : goal.loop-at-preserved
loop-at-preserved c =
    further c.args.config.now.words.now c.args.words.now c.loop-at.done.items c.push_defined.new.done.items c.loop-at.at _
    (slice_get-get_or c.args.words.now c.loop-at.at _ c.loop-at-test.true) c.in_ok-is_defined.ensures c.loop-at.invariant

pub returns : goal.returns
returns c = all_defined c.args.config.now.words.now c.args.words.now c.loop-at.done.items c.loop-at.at (omega (arith, c.loop-at-test.false)) c.loop-at.invariant
