use Rattle.prefix_patterns.proofs.LeadingTokens.{leads_prefix}
use Rattle.prefix_patterns.proofs.leading.leading_prefix.Goals as goal

pub returns-clause-found : goal.returns-clause-found
returns-clause-found c = leads_prefix c.args.text.now c.in-Some.written c.in-Some.rest.now c.in-Some.ensures.found
