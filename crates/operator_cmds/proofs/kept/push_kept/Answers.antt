-- One entry more.
use Rattle.std.proofs.Common.{◌≡◌, ◌∙◌, ◌+◌, ◌-◌, ◌++◌, ◌≤◌, ap, arith, drop, get_or, length, map, take, ℕ}
use Rattle.std.proofs.lemmas.Grind.{common_steps}
use Rattle.history_lines.specs.Views.{entry_view}
use Rattle.route_history.specs.Whole.{whole_entry}
use Rattle.route_history.proofs.Windows.{kept_are}
use Rattle.operator_cmds.specs.Looks.{entries_text}
use Rattle.operator_cmds.proofs.KeptEntries.{all_told, stands}
use Rattle.operator_cmds.proofs.Told.{one_told}
use Rattle.operator_cmds.proofs.kept.push_kept.Goals as goal

pub loop-told-preserved : goal.loop-told-preserved
loop-told-preserved c =
    let j = c.args.journal.now in
    let from = c.args.from in
    let count = c.args.count in
    let told = c.loop-told.told in
    let e = whole_entry c.entry.result in
    let le : j.first ≤ from + told = omega arith in
    let is : e ≡ get_or j.entries (from + told - j.first) e =
    c.entry.ensures ∙ ap (λ (n : ℕ). get_or j.entries n e) (let q : from + told - c.first-first.result ≡ from + told - j.first = omega arith in q) in
    record {
      added = λ o b log w legal.
          let within : count ≤ length log - from = let sum = kept_are o b log j j w in omega arith in
          one_told log from count told e within (omega arith) (stands o b log j w (from + told) e le is) (told + 1) c.loop-told.out.items
          c.push_bar.new.out.items c.push_entry.new.out.items
          (c.args.out.now.items ++ entries_text from 0 (map entry_view (take count (drop from log)))) (omega arith)
          c.in_ok-push_bar.ensures.ok c.in_ok-push_entry.ensures.ok (c.loop-told.invariant.added o b log w legal);
      front = grind (arith, common_steps);
    }

pub returns-clause-ok : goal.returns-clause-ok
returns-clause-ok c = λ o b log w legal.
    all_told log c.args.from c.args.count c.loop-told.told c.loop-told.out.items
    (c.args.out.now.items ++ entries_text c.args.from 0 (map entry_view (take c.args.count (drop c.args.from log)))) (omega arith)
    (c.loop-told.invariant.added o b log w legal)
