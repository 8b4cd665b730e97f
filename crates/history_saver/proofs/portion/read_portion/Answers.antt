use Rattle.std.proofs.Common.{◌∙◌, List, ℕ, ap, subst}
use Rattle.history_saver.specs.Adding.{AddsEntries, next_count}
use Rattle.route_history.proofs.Windows.{kept_are}
use Rattle.history_saver.proofs.portion.read_portion.Goals as goal

pub returns : goal.returns
returns c = λ o b log w legal. record {
  count = c.in_ok-to.ensures.count ∙ ap (next_count c.args.read) (kept_are o b log c.args.journal.now c.args.journal.now w);
  lines = subst (λ (l : List ℕ). AddsEntries l log c.args.read c.in_ok-to.to c.push_entries.new.out.items) c.new-lines.ensures.items
      (c.in_ok-to.ensures.added o b log w legal);
  ended = c.in_ok-state.ensures.ended o b log w legal;
  due = c.in_ok-state.ensures.due;
  left_out = c.in_ok-state.ensures.left_out o b log w legal;
}
