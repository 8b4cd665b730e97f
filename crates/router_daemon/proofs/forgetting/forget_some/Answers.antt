-- What was forgotten is judged by what was counted before.
use Rattle.std.proofs.Common.{◌≡◌, ◌-◌, arith, subst}
use Rattle.slot_lock.specs.Calls.{Forgot}
use Rattle.slot_lock.specs.Passes.{RouterView}
use Rattle.router_daemon.proofs.KeptEntries.{forgets}
use Rattle.router_daemon.proofs.forgetting.forget_some.Goals as goal

pub returns-clause-forgets : goal.returns-clause-forgets
returns-clause-forgets g c =
    let mid = c.observe_with_right.new.right in
    let end = c.observe_with_right.new.observer.end in
    let upto : c.saturating_sub-upto.result ≡ end - c.args.kept = omega arith in
    forgets g.J.Naming.router c.args.right.now mid c.forget.new.right c.args.kept end c.saturating_sub-upto.result c.forget.result
    c.observe_with_right.ensures.observed.begins c.observe_with_right.ensures.exact c.observe_with_right.ensures.observed.saw upto c.requires.endless
    (subst (λ (r : RouterView). Forgot r mid c.saturating_sub-upto.result c.forget.result c.forget.new.right) c.args.shared.now.is_named
    c.forget.ensures.forgot)
