use Rattle.std.proofs.Common.{◌∙◌, ap, arith}
use Rattle.std.proofs.lemmas.Grind.{common_steps}
use Rattle.std.proofs.lemmas.List.{take_all}
use Rattle.std.proofs.lemmas.List.Elements.{filter_map-append}
use Rattle.filter_tokens.proofs.Tokenized.{tokenized_once}
use Rattle.filter_lint.specs.HostBits.{among}
use Rattle.filter_lint.proofs.host_bits.host_bits_among.Goals as goal
use Rattle.filter_lint.proofs.host_bits.host_bits_among.Goals.{in-Some+in_ok-push, in_default}

pub loop-token-preserved : goal.loop-token-preserved
loop-token-preserved c = elim c.match-host_bits_of.branch [
  | in-Some+in_ok-push w ↦ grind (arith, common_steps, filter_map-append)
  | in_default w ↦ grind (arith, common_steps, filter_map-append)
]

pub returns-clause-all : goal.returns-clause-all
returns-clause-all c text is others cut =
    let whole = take_all c.loop-token.token-index c.args.tokens.now c.loop-token-test.false in
    c.loop-token.invariant ∙ ap among whole ∙ ap among (tokenized_once text c.args.tokens.now others is cut)
