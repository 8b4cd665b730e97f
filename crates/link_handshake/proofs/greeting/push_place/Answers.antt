use Rattle.std.proofs.Common.{◌++◌, [], ◌∙◌, ap, decimal}
use Rattle.link_handshake.specs.Lines.{mark, spaced}
use Rattle.link_handshake.proofs.Joined.{place_joined}
use Rattle.link_handshake.proofs.greeting.push_place.Goals as goal

pub returns-clause-ok : goal.returns-clause-ok
returns-clause-ok c =
    c.in_ok-push_spaced-2.ensures.ok
    ∙ ap (λ l. l ++ spaced c.args.node []) (c.in_ok-push_spaced.ensures.ok
    ∙ ap (λ l. l ++ spaced c.args.size []) c.in_ok-extend_from_slice.ensures.items)
    ∙ place_joined c.args.out.now.items mark (decimal c.args.size) (decimal c.args.node)
