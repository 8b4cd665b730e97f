use Rattle.std.proofs.Common.{◌≡◌, ◌∙◌, ap, arith, subst, sym, ℕ, Option, Some}
use Rattle.std.specs.Option.{option_map}
use Rattle.std.specs.Prelude.{IfSome}
use Rattle.history_saver.specs.Segments.{SegmentsView}
use Rattle.slot_lock.specs.Passes.{PassView}
use Rattle.router_daemon.specs.Forgetting.{ForgetsSaved, ForgetterView}
use Rattle.router_daemon.specs.Running.{SavesTo, keep_of}
use Rattle.router_daemon.proofs.SavedWhole.{has_learned, whole}
use Rattle.router_daemon.proofs.forgetting.Forgetter.finish.Goals as goal

pub save-requires-clause-saved : goal.save-requires-clause-saved
save-requires-clause-saved g c =
    let forgets : ForgetsSaved g.J.Naming.router c.self.inside.right c.self.inside.kept c.in-Some.saver =
    subst (λ (o : Option SegmentsView). IfSome o (ForgetsSaved g.J.Naming.router c.self.inside.right c.self.inside.kept)) c.in-Some.is
    c.self.invariant.forgets in
    has_learned _ _ c.args.shared.now.is_named _ _ _ _ c.observe_with_right.new.right c.meet_with_right.ensures.met c.observe_with_right.ensures.observed.begins c.in-Some.saver
    forgets.has

pub returns-in-Ok : goal.returns-in-Ok
returns-in-Ok g c =
    let is = c.in-Ok.ensures.all.0 in
    let seen = c.in-Ok.ensures.all.1 in
    let most = c.in-Some.saver.keep in
    let saved = whole _ _ c.args.shared.now.is_named _ _ _ _ c.observe_with_right.new.right c.meet_with_right.ensures.met c.observe_with_right.ensures.observed.begins
    c.beginnings_are_legal.ensures.legal c.save.new.right c.save.new.self most c.save.ensures.plan.keep c.observe_with_right.ensures.observed.legal
    c.save.ensures.right c.in-Ok.ensures.whole (omega (arith, is, seen)) c.save.ensures.saved in
    let how : Some most ≡ option_map keep_of c.args.self.saver =
    sym (ap (λ (o : Option SegmentsView). option_map keep_of o) c.in-Some.is)
    ∙ ap (λ (v : ForgetterView). option_map keep_of v.saver) c.self.view_is in
    subst (λ (o : Option (Option ℕ)). SavesTo g.J.Naming.router c.args.other.pass.fragment.seen o (Some c.save.new.self)) how
    (subst (λ (p : PassView). SavesTo g.J.Naming.router p.fragment.seen (Some most) (Some c.save.new.self)) c.pass.ensures.same saved)
