use Rattle.std.proofs.Common.{◌∙◌, ℕ, ap, arith, length, rules, sym}
use Rattle.history_saver.specs.Adding.{next_count}
use Rattle.history_saver.specs.Looking.{seen_by}
use Rattle.history_saver.specs.Steps.{IsAllSaved}
use Rattle.history_saver.proofs.Chains.{longer_than}
use Rattle.history_saver.proofs.Looking.{looks_both}
use Rattle.history_saver.proofs.segments.SegmentSaver.save_some.Goals as goal

pub returns-in-Ok-rotated-clause-right : goal.returns-in-Ok-rotated-clause-right
returns-in-Ok-rotated-clause-right g c =
    looks_both c.args.router.now c.args.right.now c.read_some.new.right c.forget.new.right c.read_some.ensures.right c.forget.ensures.right

pub returns-in-Ok-rotated-clause-ok : goal.returns-in-Ok-rotated-clause-ok
returns-in-Ok-rotated-clause-ok g c =
    let r = c.args.router.now in
    let old = c.args.right.now in
    let mid = c.read_some.new.right in
    let new = c.forget.new.right in
    let all = length mid.fragment.seen in
    let written : IsAllSaved c.write_rest.new.self = search rules in
    let forgets = c.forget.ensures.forgot in
    let on = forgets.on in
    let asked = forgets.asked in
    let same = c.read_some.ensures.forgot in (
      c.saved.ensures,
      c.rotate-rotated.ensures.all,
      record {
        all = all;
        count = c.saved.ensures ∙ c.rotate-rotated.ensures.only.saved ∙ written.all ∙ c.write_rest.ensures.only.read ∙ c.in-Ok.ensures.count
            ∙ ap (λ (n : ℕ). next_count n all) (sym c.requires.all.all);
        seen = longer_than (seen_by r old) mid.fragment.seen c.read_some.ensures.right.begins;
        within = longer_than (seen_by r mid) new.fragment.seen c.forget.ensures.right.begins;
      },
      record {
        saved = forgets.saved;
        on = omega (arith, on, same);
        asked = omega (arith, asked, same);
        frees = forgets.frees;
      },
    )

pub returns-clause-right : goal.returns-clause-right
returns-clause-right g c =
    looks_both c.args.router.now c.args.right.now c.read_some.new.right c.forget.new.right c.read_some.ensures.right c.forget.ensures.right
