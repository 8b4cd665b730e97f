use Rattle.std.proofs.Common.{◌≡◌, length, subst, arith}
use Rattle.std.proofs.lemmas.Option.{slice_get-get_or}
use Rattle.bird_import.specs.Names.{Knows}
use Rattle.bird_import.proofs.Noted.{knows_none}
use Rattle.bird_import.proofs.names.names_of.Goals as goal

pub loop-definition-init : goal.loop-definition-init
loop-definition-init c = knows_none c.args.config.now c.new-names.result c.new-names.ensures.empty

pub loop-definition-preserved : goal.loop-definition-preserved
loop-definition-preserved c =
    let definitions = c.args.config.now.definitions.now in
    c.in_ok-note_definition.ensures c.loop-definition.definition-index
    (slice_get-get_or definitions c.loop-definition.definition-index _ c.loop-definition-test.true) c.loop-definition.invariant

pub returns : goal.returns
returns c =
    let config = c.args.config.now in
    let end : c.loop-definition.definition-index ≡ length config.definitions.now = omega arith in
    subst (λ n. Knows config n c.loop-definition.names) end c.loop-definition.invariant
