use Rattle.std.proofs.Common.{◌≡◌, ◌∙◌, ◌<◌, ◌≤◌, ◌-◌, ◌*◌, ◌%◌, ◌/◌, ap, refl, sym, ℕ, false, true, List, [], get_or, length, length-append, arith}
use Rattle.std.proofs.lemmas.List.{get_or_default}
use Rattle.route_history.specs.declared.entry.Entry.{Entry}
use Rattle.route_history.specs.Chunks.{ChunksView, joined}
use Rattle.route_history.specs.Whole.{whole_entry}
use Rattle.route_history.proofs.Chunking.{found_chunk, found_last, joined_length, long_chunk}
use Rattle.route_history.proofs.chunks.Chunks.entry.Goals as goal

not_both : false ≡ true → ⊥
not_both e = cc

at_least : (a b : ℕ) → (a < b → ⊥) → b ≤ a
at_least a b h = omega arith

pub entry-requires : goal.entry-requires
entry-requires c =
    let cs = c.self.inside.full.items in
    let count = c.self.inside.full.ok.0 in
    let within = c.in-Some.ensures.variant.0 refl in
    let here : c.args.at / 1024 < length cs = omega arith in
    let is = c.in-Some.ensures.lookup ∙ get_or_default cs (c.args.at / 1024) c.in-Some.chunk.now [] here in
    let long : length c.in-Some.chunk.now ≡ 1024 = ap (λ (es : List Entry). length es) is ∙ long_chunk cs (c.args.at / 1024) c.self.invariant.filled here in
    omega arith

pub entry-requires-in-None : goal.entry-requires-in-None
entry-requires-in-None c =
    let cs = c.self.inside.full.items in
    let last = c.self.inside.last in
    let count = c.self.inside.full.ok.0 in
    let past = at_least (c.args.at / 1024) c.self.inside.full.len (λ below. not_both (c.in-None.ensures.variant.1 below)) in
    let list = ap (λ (v : ChunksView). length v.list) c.self.view_is in
    let sum = length-append (joined cs) last in
    let long = joined_length cs c.self.invariant.filled in
    let len = c.len.ensures in
    let below = c.requires in
    omega arith

pub returns-in-Some : goal.returns-in-Some
returns-in-Some c =
    let cs = c.self.inside.full.items in
    let count = c.self.inside.full.ok.0 in
    let within = c.in-Some.ensures.variant.0 refl in
    let here : c.args.at / 1024 < length cs = omega arith in
    let shown = whole_entry c.entry.result in
    let is = c.in-Some.ensures.lookup ∙ get_or_default cs (c.args.at / 1024) c.in-Some.chunk.now [] here in
    c.entry.ensures ∙ ap (λ (es : List Entry). get_or es (c.args.at % 1024) shown) is
    ∙ sym (found_chunk cs c.self.inside.last c.args.at shown c.self.invariant.filled here)
    ∙ ap (λ (v : ChunksView). get_or v.list c.args.at shown) c.self.view_is

pub returns-in-None : goal.returns-in-None
returns-in-None c =
    let cs = c.self.inside.full.items in
    let count = c.self.inside.full.ok.0 in
    let past = at_least (c.args.at / 1024) c.self.inside.full.len (λ below. not_both (c.in-None.ensures.variant.1 below)) in
    let shown = whole_entry c.entry-in-None.result in
    let len = c.len.ensures ∙ count in
    c.entry-in-None.ensures ∙ ap (λ (n : ℕ). get_or c.self.inside.last n shown) (ap (λ (n : ℕ). c.args.at - 1024 * n) len)
    ∙ sym (found_last cs c.self.inside.last c.args.at shown c.self.invariant.filled (omega arith))
    ∙ ap (λ (v : ChunksView). get_or v.list c.args.at shown) c.self.view_is
