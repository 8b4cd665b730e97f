use Rattle.std.proofs.Common.{◌≡◌, sym, ◌∙◌, replicate, rules}
use Rattle.std.proofs.lemmas.Bool.{eqb-true}
use Rattle.std.proofs.lemmas.List.{nil_from_length}
use Rattle.netchange_core.proofs.Lists.{all_repeated}
use Rattle.netchange_core.proofs.consistent.is_idle.Goals as goal

pub returns-then-are_unreached : goal.returns-then-are_unreached
returns-then-are_unreached c =
    let size = c.args.opening.now.size in
    let n = c.args.neighbour.now in
    let told : n.advertised.items ≡ replicate size size =
    all_repeated size size n.advertised.items c.requires (search rules) in (
      λ empty. record {
        advertised = told;
        queue = nil_from_length n.queue.items (sym n.queue.ok.0 ∙ eqb-true _ 0 (sym c.is_empty.ensures ∙ empty));
      },
      λ idle. search rules,
    )
