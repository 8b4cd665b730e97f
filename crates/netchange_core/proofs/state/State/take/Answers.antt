use Rattle.std.proofs.Common.{◌≡◌, length, min, take, ap, sym, refl, ◌∙◌, arith}
use Rattle.std.proofs.lemmas.List.{length-map, take_min}
use Rattle.netchange_core.specs.declared.reply.Reply.TheVariants as reply
use Rattle.netchange_core.specs.Kept.{view_of, views_of}
use Rattle.netchange_core.specs.Next.{answered, dequeued}
use Rattle.netchange_core.specs.World.{neighbour_at}
use Rattle.netchange_core.proofs.Change.{change_as}
use Rattle.netchange_core.proofs.Goes.{dequeued_min}
use Rattle.netchange_core.proofs.Good.{dequeued_good}
use Rattle.netchange_core.proofs.Holders.{up_within}
use Rattle.netchange_core.proofs.States.{IsAtHand, all_same, changes_one, done, looks, no_memory, still_right}
use Rattle.netchange_core.proofs.Worlds.{world}
use Rattle.netchange_core.proofs.state.State.take.Goals as goal
use Rattle.netchange_core.proofs.state.State.take.Goals.{After-index_mut-neighbour}

pub index_mut-neighbour-requires : goal.index_mut-neighbour-requires
index_mut-neighbour-requires c =
    omega (arith, up_within (views_of c.args.self.now) c.args.hop c.requires.up, length-map c.args.self.now.neighbours.items view_of)

-- the neighbour
here : (c : After-index_mut-neighbour) → IsAtHand c.args.self.now c.args.self.now.neighbours.items c.args.hop
    c.index_mut-neighbour.result.now
here c = record {
  within = up_within (views_of c.args.self.now) c.args.hop c.requires.up;
  same = refl;
  is = c.index_mut-neighbour.ensures.value;
}

pub returns : goal.returns
returns c =
    let s = c.args.self.now in
    let k = c.args.hop in
    let count = c.min-count.result in
    let max = c.args.max in
    let ns = views_of s in
    let n = neighbour_at ns k in
    let was = here (goal.at.returns c).After-index_mut-neighbour in
    let is = looks s c.requires.right _ k _ was in
    let counted : count ≡ min max (length n.queue) =
    c.min-count.ensures ∙ (λ i. min (c.from.ensures i) (c.len.ensures i))
    ∙ ap (λ m. min max m) (c.index_mut-neighbour.result.now.queue.ok.0 ∙ ap (λ m. length m.queue) is) in
    let one = changes_one s c.requires.right _ k _ was (dequeued count) c.dequeue.new.neighbour c.dequeue.ensures.view
    (dequeued_good s.opening.size count _) in
    let e = one.is ∙ change_as k (dequeued count) (dequeued max) ns was.within (dequeued_min max count n counted) in
    let messages = c.from_vec.ensures ∙ c.dequeue.ensures.items ∙ ap (λ m. take count m.queue) is
    ∙ ap (λ m. take m n.queue) counted ∙ take_min max n.queue in
    done s _ _ _ refl (λ i. answered (world s.opening s.sessions.count (sym e i)) (reply.Messages (sym messages i)))
    (still_right s c.requires.right k (dequeued count) _ one (λ _. refl) (λ v _. refl))

pub returns-in_err-items : goal.returns-in_err-items
returns-in_err-items c =
    let was = here (goal.at.returns-in_err-items c).After-index_mut-neighbour in
    no_memory c.args.self.now _ _ _ _ c.requires.right
    (all_same c.args.self.now c.requires.right _ c.args.hop _ was c.index_mut-neighbour.result.now refl) refl tt
    c.from_residual.ensures.0
