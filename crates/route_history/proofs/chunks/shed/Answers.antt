use Rattle.std.proofs.Common.{◌∙◌, ap, sym, subst, ◌<◌, List, drop, length, length-drop, arith}
use Rattle.std.proofs.lemmas.Bool.Decides.{nat_tests}
use Rattle.std.proofs.lemmas.List.{drop-drop}
use Rattle.route_history.specs.declared.entry.Entry.{Entry}
use Rattle.route_history.specs.Chunks.{AreFilled, joined}
use Rattle.route_history.proofs.Chunking.{filled_rest, joined_length, joined_rest}
use Rattle.route_history.proofs.chunks.shed.Goals as goal

pub loop-gone-preserved : goal.loop-gone-preserved
loop-gone-preserved c =
    let old = c.loop-gone.full.items in
    let all : List Entry = joined c.args.full.now.items in
    let gone = c.loop-gone.gone in
    let filled = c.loop-gone.invariant.filled in
    let list = c.loop-gone.invariant.list in
    let rest = c.pop_front.ensures.rest in
    let count = c.loop-gone.full.ok.0 in
    let empty = c.is_empty.ensures in
    let full = c.if-not-is_empty.true in
    let test = c.loop-gone-test.true in
    let some : 0 < length old = grind (arith, nat_tests) in
    let long = joined_length old filled in
    let left = ap (λ (es : List Entry). length es) list ∙ length-drop gone all in record {
      filled = subst AreFilled (sym rest) (filled_rest old filled);
      list = ap joined rest ∙ joined_rest old filled some ∙ ap (λ (es : List Entry). drop 1024 es) list ∙ drop-drop 1024 gone all;
      most = omega arith;
      within = omega arith;
    }
