-- Cut where the list ends, a count is as good as one beyond.
use Rattle.std.proofs.Common.{◌≡◌, ◌-◌, arith, ap, sym, take, drop, length, length-drop, ◌∙◌}
use Rattle.std.specs.Prelude.{min}
use Rattle.std.proofs.lemmas.List.{take_min}
use Rattle.operator_cmds.proofs.look.count_told.Goals as goal

pub returns-clause-value : goal.returns-clause-value
returns-clause-value c =
    let es = c.args.entries.now in
    let rest = drop c.args.from es in
    let left : c.saturating_sub.result ≡ length es - c.args.from = omega arith in
    ap (λ n. take n rest) (c.min.ensures ∙ ap (λ n. min 100 n) (left ∙ sym (length-drop c.args.from es)))
    ∙ take_min 100 rest
