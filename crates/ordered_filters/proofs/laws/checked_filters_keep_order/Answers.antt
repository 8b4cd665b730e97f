use Rattle.ordered_filters.proofs.Ordered.{filters_keep_order, not_kept}
use Rattle.ordered_filters.proofs.laws.checked_filters_keep_order.Goals as goal

pub returns : goal.returns
returns c = record {
  kept = filters_keep_order;
  lost = not_kept;
}
