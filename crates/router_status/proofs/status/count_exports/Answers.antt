-- One node more is looked at.
use Rattle.std.proofs.Common.{◌≡◌, ◌∙◌, ◌+◌, ◌≤◌, ℕ, arith, subst, sym}
use Rattle.netchange_core.specs.Kept.{filter_of}
use Rattle.router_status.specs.Status.{count_below, is_export}
use Rattle.router_status.proofs.Counting.{none_counted, one_counted, other_counted}
use Rattle.router_status.proofs.status.count_exports.Goals.{then-is_export, else-is_export}
use Rattle.router_status.proofs.status.count_exports.Goals as goal

pub loop-dest-init : goal.loop-dest-init
loop-dest-init c = record { counted = none_counted (is_export c.args.tables.now (filter_of c.args.filter.now) c.args.passes); within = omega arith }

pub loop-dest-preserved : goal.loop-dest-preserved
loop-dest-preserved c =
    let holds = is_export c.args.tables.now (filter_of c.args.filter.now) c.args.passes in
    let n = c.loop-dest.dest in
    let count = c.loop-dest.count in
    let before : count ≤ n = c.loop-dest.invariant.within in
    elim c.if-is_export.branch [
      | then-is_export w ↦
          let is : c.if-is_export.count ≡ count + 1 = w.count-is in
          record {
            counted = is ∙ one_counted holds n count c.loop-dest.invariant.counted (sym c.is_export.ensures ∙ w.if-is_export.true);
            within = omega arith;
          }
      | else-is_export w ↦
          let is : c.if-is_export.count ≡ count = w.count-is in
          record {
            counted = is ∙ other_counted holds n count c.loop-dest.invariant.counted (sym c.is_export.ensures ∙ w.if-is_export.false);
            within = omega arith;
          }
    ]
