use Rattle.std.proofs.Common.{◌∙◌, ap, refl, sym, arith}
use Rattle.bird_import.specs.Items.{depth_past}
use Rattle.bird_import.specs.Rules.{open_behind}
use Rattle.bird_import.proofs.Below.{one_more}
use Rattle.bird_import.proofs.Ranges.{IsFreeOutside, all_free, one_free, opened_further}
use Rattle.bird_import.proofs.case_rules.is_free.Goals as goal

pub loop-at-init : goal.loop-at-init
unfolding open_behind
loop-at-init c = record { bound = omega arith; opened = refl; free = λ k below. absurd (omega (arith, below)) }

pub loop-at-preserved : goal.loop-at-preserved
loop-at-preserved c =
    let parts = c.args.parts.now in
    let at = c.loop-at.at in
    let depth = c.loop-at.depth in
    record {
      bound = omega (arith, c.in-Some.ensures.bound, c.loop-at.invariant.bound);
      opened = opened_further parts at depth c.in-Some.after c.loop-at-test.true c.loop-at.invariant.opened
          (ap (depth_past depth) (sym c.kind_at.ensures) ∙ sym c.depth_past.ensures.is ∙ c.in-Some.is);
      free = one_more (IsFreeOutside c.args.range.low c.args.range.high parts) at c.loop-at.invariant.free
          (one_free c.args.range.low c.args.range.high parts at depth c.loop-at.invariant.opened (c.is_free_behind.ensures c.if-not-is_free_behind.false));
    }

pub returns : goal.returns
returns c = λ _.
    all_free c.args.range.low c.args.range.high c.loop-at.at c.args.parts.now (omega (arith, c.loop-at-test.false)) c.loop-at.invariant.free
