-- Why the session is over is what who ended it said.
use Rattle.std.proofs.Common.{subst}
use Rattle.std.specs.Prelude.{⊤}
use Rattle.neighbour_session.specs.Ending.{Ends}
use Rattle.neighbour_session.specs.declared.ends.SessionEnd.TheVariants as end
use Rattle.slot_lock.specs.Passes.{RouterView}
use Rattle.router_daemon.proofs.watching.end_silent.Goals as goal

pub returns-then-ended_it-clause-ends : goal.returns-then-ended_it-clause-ends
returns-then-ended_it-clause-ends g c = (
  c.end_session-why.result.0,
  subst
      (λ (r : RouterView). Ends (λ _. ⊤) r c.args.session (end.Silent c.args.hold) c.args.pass.now c.end_session-why.result.0
      c.end_session-why.new.pass)
      c.args.shared.now.is_named c.end_session-why.ensures.ends,
)

pub returns-else-ended_it-clause-ends : goal.returns-else-ended_it-clause-ends
returns-else-ended_it-clause-ends g c = (
  c.end_session-why.result.0,
  subst
      (λ (r : RouterView). Ends (λ _. ⊤) r c.args.session (end.Silent c.args.hold) c.args.pass.now c.end_session-why.result.0
      c.end_session-why.new.pass)
      c.args.shared.now.is_named c.end_session-why.ensures.ends,
)
