use Rattle.std.proofs.Common.{◌++◌, ◌∷◌, [], ◌∙◌, ap, decimal}
use Rattle.link_handshake.specs.Lines.{digest_part, mark, spaced}
use Rattle.link_handshake.proofs.Joined.{attempt_on, line_joined}
use Rattle.link_handshake.proofs.greeting.push_greeting.Goals as goal

pub returns-clause-ok : goal.returns-clause-ok
returns-clause-ok c =
    let g = c.args.greeting in
    let front = spaced g.hold (spaced g.number (decimal g.heard)) in
    let rest = spaced g.hold (spaced g.number (decimal g.heard ++ digest_part g.digest)) in
    c.in_ok-push.ensures.items
    ∙ ap (λ l. l ++ 10 ∷ []) (c.in_ok-push_digest.ensures.ok ∙ ap (λ l. l ++ digest_part g.digest)
    (c.in_ok-push_attempt.ensures.ok ∙ ap (λ l. l ++ front) c.in_ok-push_place.ensures.ok)
    ∙ attempt_on _ (decimal g.hold) (decimal g.number) (decimal g.heard) (digest_part g.digest))
    ∙ line_joined c.args.out.now.items mark (decimal g.size) (decimal g.node) rest
