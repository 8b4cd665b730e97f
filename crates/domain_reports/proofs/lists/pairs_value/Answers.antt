use Rattle.std.proofs.Common.{ℕ}
use Rattle.domain_reports.specs.Reports.{pair_data}
use Rattle.domain_reports.proofs.Listing.{all_said, one_more}
use Rattle.domain_reports.proofs.lists.pairs_value.Goals as goal

pub loop-pair-preserved : goal.loop-pair-preserved
loop-pair-preserved c =
    one_more (λ (pair : ℕ × ℕ). pair_data pair.0 pair.1) c.args.pairs.now c.loop-pair.pair-index _ c.loop-pair.list.items c.push.new.self.items
    c.in_ok-pair_value.field-0 c.loop-pair-test.true c.in_ok-push.ensures.items c.loop-pair.invariant c.in_ok-pair_value.ensures

pub returns : goal.returns
returns c =
    all_said (λ (pair : ℕ × ℕ). pair_data pair.0 pair.1) c.args.pairs.now c.loop-pair.pair-index c.loop-pair.list c.loop-pair-test.false
    c.loop-pair.invariant
