use Rattle.std.specs.Prelude.{codes}
use Rattle.std.proofs.Common.{◌≡◌, ◌∙◌, ◌++◌, List, ℕ, ap, append_assoc, string_bytes, sym}
use Rattle.std.proofs.lemmas.Result.{on_ok_weaker}
use Rattle.hex.specs.Hex.{encode_lower}
use Rattle.neighbour_session.proofs.ends.push_other_domain.Goals as goal

-- what is added in two steps, as one text
joined : (text first between last : List ℕ) → text ++ first ++ (between ++ last) ≡ text ++ (first ++ between ++ last)
joined text first between last = append_assoc text first (between ++ last) ∙ ap (λ l. text ++ l) (sym (append_assoc first between last))

pub returns-clause-ok : goal.returns-clause-ok
returns-clause-ok c =
    on_ok_weaker c.push_with_digest-2.result (λ is. is
    ∙ ap (λ l. l ++ (codes ", and this one " ++ encode_lower c.args.own)) c.in_ok-push_with_digest.ensures.ok
    ∙ joined (string_bytes c.args.text.now) (codes "the neighbour's domain has the digest " ++ encode_lower c.args.said) (codes ", and this one ") (encode_lower c.args.own))
    c.push_with_digest-2.ensures.ok
