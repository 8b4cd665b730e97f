use Rattle.std.proofs.Common.{◌≡◌, ◌∙◌, sym, subst, [], ◌∷◌, ◌++◌}
use Rattle.route_history.specs.Chunks.{AreFilled}
use Rattle.route_history.proofs.Chunking.{filled_more}
use Rattle.route_history.proofs.chunks.roll.Goals as goal

pub returns-clause-filled : goal.returns-clause-filled
returns-clause-filled c =
    let full = c.args.full.now.items in
    let last = c.args.last.now in
    let items : c.push_back_reserved.new.self.items ≡ full ++ last ∷ [] = c.push_back_reserved.ensures.items
    ∙ (λ i. c.reserve.ensures.items i ++ c.replace-filled.ensures.value i ∷ []) in
    subst AreFilled (sym items) (filled_more full last c.requires.filled c.requires.at_end)
