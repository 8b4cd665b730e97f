use Rattle.std.proofs.Common.{length, map, ap, refl, ◌∙◌, arith}
use Rattle.std.proofs.lemmas.List.{length-map}
use Rattle.netchange_core.specs.Kept.{view_of}
use Rattle.netchange_core.proofs.Holders.{up_within}
use Rattle.netchange_core.proofs.Views.{view_at}
use Rattle.netchange_core.proofs.tables.Tables.queued.Goals as goal

pub index-requires : goal.index-requires
index-requires c =
    let ns = c.self.inside.state.neighbours.items in
    let there = up_within (map view_of ns) c.in-Some.node c.in-Some.ensures.up in
    omega (arith, there, length-map ns view_of, c.self.inside.state.neighbours.ok.0)

pub returns-in-Some : goal.returns-in-Some
returns-in-Some c =
    let ns = c.self.inside.state.neighbours.items in
    let head = c.index.result.now in
    let there = up_within (map view_of ns) c.in-Some.node c.in-Some.ensures.up in
    rw (← c.self.view_is, ← c.in-Some.ensures.is)
    (c.len.ensures ∙ head.queue.ok.0 ∙ ap (λ n. length n.queue.items) c.index.ensures
    ∙ ap (λ n. length n.queue) (view_at ns c.in-Some.node head (omega (arith, there, length-map ns view_of))))

pub returns-in-None : goal.returns-in-None
returns-in-None c = rw (← c.self.view_is, ← c.in-None.ensures.is) refl
