use Rattle.std.proofs.Common.{◌∙◌, arith}
use Rattle.history_saver.proofs.Looking.{looks_both}
use Rattle.history_saver.proofs.Rotating.{due_both}
use Rattle.history_saver.proofs.segments.SegmentSaver.save.Goals as goal

pub returns-then-saved-saturating_add-clause-right : goal.returns-then-saved-saturating_add-clause-right
returns-then-saved-saturating_add-clause-right g c =
    looks_both c.args.router.now c.args.right.now c.loop.right c.save_some.new.right c.loop.invariant.right c.save_some.ensures.right

pub returns-in-Err-save_some-clause-right : goal.returns-in-Err-save_some-clause-right
returns-in-Err-save_some-clause-right g c =
    looks_both c.args.router.now c.args.right.now c.loop.right c.save_some.new.right c.loop.invariant.right c.save_some.ensures.right

pub loop-preserved : goal.loop-preserved
loop-preserved g c =
    let asked = c.save_some.ensures.asked in
    let before = c.loop.invariant.asked in
    let on = c.save_some.ensures.on in
    let back = c.save_some.ensures.plan.back in record {
      next = tt;
      finite = tt;
      right = looks_both c.args.router.now c.args.right.now c.loop.right c.save_some.new.right c.loop.invariant.right c.save_some.ensures.right;
      plan = record {
        every = c.save_some.ensures.plan.every ∙ c.loop.invariant.plan.every;
        keep = c.save_some.ensures.plan.keep ∙ c.loop.invariant.plan.keep;
        back = c.save_some.ensures.plan.back ∙ c.loop.invariant.plan.back;
      };
      saved = c.save_some.ensures.saved;
      all = c.in-Ok.ensures.ok.1;
      kept = c.save_some.ensures.kept;
      begun = due_both c.args.self.now c.loop.self c.save_some.new.self c.loop.invariant.plan c.loop.invariant.begun c.save_some.ensures.begun;
      asked = omega (arith, asked, before, on, back);
    }
