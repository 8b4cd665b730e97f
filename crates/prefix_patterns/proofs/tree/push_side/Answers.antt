use Rattle.std.proofs.Common.{◌≡◌, ◌-◌, ◌<◌, true, false, [], ◌∷◌, ◌++◌, length, take, drop, get_or, vec_len, sym, ap, ◌∙◌}
use Rattle.std.proofs.Common.{subst, arith, append_assoc, append-nil, rules}
use Rattle.std.proofs.Math.ListN.{get_or-append}
use Rattle.prefix_patterns.specs.Trees.{side, turns}
use Rattle.prefix_patterns.proofs.Nodes.{one_more_side}
use Rattle.prefix_patterns.proofs.tree.push_side.Goals as goal
use Rattle.prefix_patterns.proofs.tree.push_side.Goals.{then-turns+in_ok-push, else-turns}

pub loop-at-preserved : goal.loop-at-preserved
loop-at-preserved c =
    let old = c.args.part.now.items in
    let at = c.loop-at.at in
    let from = c.args.from in
    let bit = c.args.bit in
    let depth = c.args.depth in
    let p = c.index.result.now in
    let so_far = side bit depth (take (at - from) (drop from old)) in
    let within : at < length old = omega (arith, c.len-at-end.ensures, c.args.part.now.ok.0) in
    let is : p ≡ get_or old at p =
    c.index.ensures ∙ ap (λ xs. get_or xs at p) c.loop-at.invariant.items ∙ get_or-append old so_far p at within in
    let step = one_more_side bit depth from at old p c.loop-at.auto.at within is in
    elim c.if-turns.branch [
      | then-turns+in_ok-push w ↦
          let turned : turns bit depth p ≡ true = sym c.turns.ensures.value ∙ w.if-turns.true in
          let more = rw turned at step in
          record {
            items = ap (λ v. v.items) w.part-is ∙ w.in_ok-push.ensures.items ∙ ap (λ xs. xs ++ p ∷ []) c.loop-at.invariant.items
                ∙ append_assoc old so_far (p ∷ []) ∙ ap (λ xs. old ++ xs) (sym more);
            shallow = λ _. w.if-turns.ensures.limit (search rules);
          }
      | else-turns w ↦
          let turned : turns bit depth p ≡ false = sym c.turns.ensures.value ∙ w.if-turns.false in
          let more = rw turned at step in
          record {
            items = ap (λ v. v.items) w.part-is ∙ c.loop-at.invariant.items ∙ ap (λ xs. old ++ xs) (sym (more ∙ append-nil so_far));
            shallow = λ longer. c.loop-at.invariant.shallow (subst (λ v. vec_len c.args.part.now < vec_len v) w.part-is longer);
          }
    ]
