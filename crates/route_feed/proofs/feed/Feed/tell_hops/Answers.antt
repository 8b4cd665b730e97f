use Rattle.std.proofs.Common.{◌∙◌, ap, sym}
use Rattle.std.specs.Prelude.{is_some}
use Rattle.route_feed.specs.Feeding.{FeedView}
use Rattle.route_feed.proofs.Telling.{block_is, wrote_it, wrote_not_all}
use Rattle.route_feed.proofs.feed.Feed.tell_hops.Goals as goal

pub returns-in-Ok-clause-ok : goal.returns-in-Ok-clause-ok
returns-in-Ok-clause-ok g c =
    let f = c.args.self.now in
    let is = block_is f c.in-Ok.text.items c.prefixes.result.now c.as_slice.result.now c.as_slice-2.result.now c.args.hops.items c.args.end
    c.is_none-is_first.result c.in-Ok.ensures (c.prefixes.ensures.value ∙ ap (λ (x : FeedView). x.opening.prefixes) c.self.view_is)
    (c.prefixes.ensures.one_a_node ∙ ap (λ (x : FeedView). x.opening.size) c.self.view_is)
    (c.as_slice.ensures.value ∙ ap (λ (x : FeedView). x.hops) c.self.view_is) c.as_slice-2.ensures.value
    (ap (λ (x : FeedView). is_some x.at) (sym c.self.view_is) ∙ c.is_none-is_first.ensures) in
    wrote_it f c.write_block.new.self c.write_block.result c.as_slice-in-Ok.result.now _ (c.as_slice-in-Ok.ensures.value ∙ is)
    c.args.hops.items c.args.end c.write_block.ensures.ok

pub returns-in-Ok-clause-err : goal.returns-in-Ok-clause-err
returns-in-Ok-clause-err g c =
    let f = c.args.self.now in
    let is = block_is f c.in-Ok.text.items c.prefixes.result.now c.as_slice.result.now c.as_slice-2.result.now c.args.hops.items c.args.end
    c.is_none-is_first.result c.in-Ok.ensures (c.prefixes.ensures.value ∙ ap (λ (x : FeedView). x.opening.prefixes) c.self.view_is)
    (c.prefixes.ensures.one_a_node ∙ ap (λ (x : FeedView). x.opening.size) c.self.view_is)
    (c.as_slice.ensures.value ∙ ap (λ (x : FeedView). x.hops) c.self.view_is) c.as_slice-2.ensures.value
    (ap (λ (x : FeedView). is_some x.at) (sym c.self.view_is) ∙ c.is_none-is_first.ensures) in
    wrote_not_all f c.write_block.new.self c.write_block.result c.as_slice-in-Ok.result.now _ (c.as_slice-in-Ok.ensures.value ∙ is)
    c.write_block.ensures.err
