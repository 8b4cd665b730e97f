use Rattle.std.proofs.Common.{◌≡◌, ◌∙◌, Option, List, ap}
use Rattle.std.specs.Option.{option_map}
use Rattle.prefix_patterns.specs.declared.written.WrittenPrefix.{WrittenPrefix}
use Rattle.prefix_patterns.specs.Reading.{prefix_in}
use Rattle.prefix_patterns.proofs.Tokens.{prefix_in-only}
use Rattle.prefix_patterns.proofs.token.read_prefix.Goals as goal

pub returns-in-Some-clause-only : goal.returns-in-Some-clause-only
unfolding prefix_in
returns-in-Some-clause-only c bits is =
    ap (option_map (λ (written : WrittenPrefix). written.prefix)) c.in-Some.ensures.exact ∙ prefix_in-only c.args.text.now bits is

pub returns-in-None-clause-only : goal.returns-in-None-clause-only
unfolding prefix_in
returns-in-None-clause-only c bits is =
    ap (option_map (λ (written : WrittenPrefix). written.prefix)) c.in-None.ensures.exact ∙ prefix_in-only c.args.text.now bits is
