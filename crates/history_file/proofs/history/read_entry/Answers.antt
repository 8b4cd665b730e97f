use Rattle.std.proofs.Common.{◌++◌, sym, ap, ◌∙◌, arith}
use Rattle.history_file.proofs.Lines.{different, entry_unread, no_entry_other}
use Rattle.history_lines.specs.Text.{entry_line}
use Rattle.history_lines.specs.Views.{entry_view}
use Rattle.route_history.specs.Whole.{whole_entry}
use Rattle.route_history.specs.declared.entry.Entry.{Entry}
use Rattle.history_file.proofs.history.read_entry.Goals as goal

pub returns-in-Err : goal.returns-in-Err
returns-in-Err c = entry_unread c.args.at c.args.line.now c.in-Err.fault (omega (arith, c.ranges.at.fits)) c.in-Err.ensures

pub returns-then-ne : goal.returns-then-ne
returns-then-ne c _ =
    let e = entry_view c.in-Ok.entry in
    let shown = entry_view (whole_entry c.as_ref.result) in
    let spelled = c.as_slice.ensures.value ∙ c.in_ok-push_entry.ensures.ok
    ∙ ap (λ old. old ++ entry_line c.args.at shown) c.in_ok-again.ensures.items
    ∙ ap (λ (x : Entry). entry_line c.args.at (entry_view x)) c.as_ref.ensures in
    no_entry_other c.args.at c.args.line.now e (omega (arith, c.ranges.at.fits)) c.in-Ok.ensures
    (λ same. different c.ne.result c.as_slice.result.now c.args.line.now c.ne.ensures c.if-ne.true (spelled ∙ sym same))
