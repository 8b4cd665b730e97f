-- One node more is looked at.
use Rattle.std.proofs.Common.{◌≡◌, ◌∙◌, ◌+◌, ◌≤◌, ℕ, arith, subst, sym}
use Rattle.router_status.specs.Status.{count_below, is_import}
use Rattle.router_status.proofs.Counting.{none_counted, one_counted, other_counted}
use Rattle.router_status.proofs.status.count_imports.Goals.{then-is_import, else-is_import}
use Rattle.router_status.proofs.status.count_imports.Goals as goal

pub loop-dest-init : goal.loop-dest-init
loop-dest-init c = record { counted = none_counted (is_import c.args.tables.now c.args.node c.args.passes); within = omega arith }

pub loop-dest-preserved : goal.loop-dest-preserved
loop-dest-preserved c =
    let holds = is_import c.args.tables.now c.args.node c.args.passes in
    let n = c.loop-dest.dest in
    let count = c.loop-dest.count in
    let before : count ≤ n = c.loop-dest.invariant.within in
    elim c.if-is_import.branch [
      | then-is_import w ↦
          let is : c.if-is_import.count ≡ count + 1 = w.count-is in
          record {
            counted = is ∙ one_counted holds n count c.loop-dest.invariant.counted (sym c.is_import.ensures ∙ w.if-is_import.true);
            within = omega arith;
          }
      | else-is_import w ↦
          let is : c.if-is_import.count ≡ count = w.count-is in
          record {
            counted = is ∙ other_counted holds n count c.loop-dest.invariant.counted (sym c.is_import.ensures ∙ w.if-is_import.false);
            within = omega arith;
          }
    ]
