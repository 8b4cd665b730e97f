use Rattle.std.proofs.Common.{◌++◌, [], ◌∙◌, ap, decimal}
use Rattle.link_handshake.specs.Lines.{spaced}
use Rattle.link_handshake.proofs.Joined.{attempt_joined}
use Rattle.link_handshake.proofs.greeting.push_attempt.Goals as goal

pub returns-clause-ok : goal.returns-clause-ok
returns-clause-ok c =
    c.in_ok-push_decimal.ensures.ok
    ∙ ap (λ l. l ++ decimal c.args.heard) (c.in_ok-push_spaced-2.ensures.ok
    ∙ ap (λ l. l ++ spaced c.args.number []) c.in_ok-push_spaced.ensures.ok)
    ∙ attempt_joined c.args.out.now.items (decimal c.args.hold) (decimal c.args.number) (decimal c.args.heard)
