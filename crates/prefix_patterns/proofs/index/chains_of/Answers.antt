use Rattle.std.proofs.Common.{◌≡◌, ◌+◌, ◌<◌, ◌≤◌, [], ◌∷◌, length, get_or, ap, ◌∙◌, refl, arith}
use Rattle.std.proofs.lemmas.List.{get_or_read_under, length-append, length-set}
use Rattle.prefix_patterns.proofs.Chains.{chains_more}
use Rattle.prefix_patterns.proofs.index.chains_of.Goals as goal

pub loop-at-preserved : goal.loop-at-preserved
loop-at-preserved c =
    let heads = c.loop-at.heads.items in
    let next = c.loop-at.next.items in
    let b = c.bucket-bucket.result in
    let at = c.loop-at.at in
    let inv = c.loop-at.invariant in
    let p = c.index-patterns-at.result in
    let limit : b ≤ 256 = c.bucket-bucket.ensures.limit in
    let within : b < length heads = omega arith in
    let head : c.index.result.now ≡ get_or heads b 0 = get_or_read_under heads b (length heads) c.index.result.now 0 c.index.ensures
    within refl in
    record {
      heads = length-set heads b (at + 1) ∙ inv.heads;
      next = ap length c.in_ok-push.ensures.items ∙ length-append next (c.index.result.now ∷ []) ∙ ap (λ n. n + 1) inv.next;
      chain = chains_more c.args.patterns.now heads next c.push.new.self.items at b c.index.result.now p (omega arith)
          c.index-patterns-at.is
          inv.next inv.heads c.bucket-bucket.ensures.value limit head c.in_ok-push.ensures.items inv.chain;
    }
