use Rattle.std.proofs.Common.{◌≡◌, ◌+◌, refl, sym, ap, subst, ◌∙◌, inl, inr, arith}
use Rattle.history_file.proofs.Whole.{read_on, stopped}
use Rattle.history_file.specs.Files.{IsNoEntry}
use Rattle.history_lines.specs.Text.{entry_line}
use Rattle.history_lines.specs.Views.{entry_view}
use Rattle.history_file.proofs.history.read_entries.Goals as goal

pub returns-in-Err-Form : goal.returns-in-Err-Form
returns-in-Err-Form c =
    stopped c.args.bytes.now c.args.limit c.loop-at.at (c.loop-at.at + 2) c.loop-at.entries.items c.loop-at.rest.now c.in-Some.line.now
    c.in-Some.later.now refl c.loop-at.invariant.front c.loop-at.invariant.count c.in-Some.ensures
    (inr (subst (λ n. IsNoEntry n c.in-Some.line.now) c.from.ensures (c.in-Err-Form.ensures c.in-Err-Form.field-0-is)))

pub loop-at-preserved : goal.loop-at-preserved
loop-at-preserved c =
    let both = read_on c.args.bytes.now c.args.limit c.loop-at.at c.loop-at.entries.items c.push.new.self.items c.in-Ok.entry c.loop-at.rest.now
    c.in-Some.line.now c.in-Some.later.now c.in_ok-push-in-Ok.ensures.items c.loop-at.invariant.front c.loop-at.invariant.count
    c.loop-at-test.true c.in-Some.ensures c.in-Ok.ensures.0
    (c.in-Ok.ensures.1 ∙ ap (λ n. entry_line n (entry_view c.in-Ok.entry)) c.from.ensures) in
    record { front = both.0; count = both.1 }

pub returns-in-Some-cut_at : goal.returns-in-Some-cut_at
returns-in-Some-cut_at c =
    let all : c.loop-at.at ≡ c.args.limit = omega (arith, c.loop-at-test.false, c.loop-at.auto.at-end) in
    stopped c.args.bytes.now c.args.limit c.loop-at.at (c.args.limit + 2) c.loop-at.entries.items c.loop-at.rest.now
    c.in-Some-cut_at.field-0.0.now c.in-Some-cut_at.field-0.1.now (ap (λ n. n + 2) (sym all)) c.loop-at.invariant.front
    c.loop-at.invariant.count c.in-Some-cut_at.ensures (inl all)
