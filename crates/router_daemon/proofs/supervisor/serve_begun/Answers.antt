-- What was left of the stream that was read is what who read it handed back.
use Rattle.std.proofs.Common.{subst, true}
use Rattle.std.specs.Prelude.{⊤}
use Rattle.neighbour_session.specs.Reading.{Hears}
use Rattle.slot_lock.specs.Passes.{RouterView}
use Rattle.router_daemon.proofs.supervisor.serve_begun.Goals as goal

pub returns-clause-hears : goal.returns-clause-hears
returns-clause-hears g c = (
  c.serve_reader-why.result.1,
  subst
      (λ (r : RouterView). Hears true (λ _. ⊤) (λ _. ⊤) r c.args.task.session c.args.pass.now c.args.input c.serve_reader-why.result.0
      c.serve_reader-why.new.pass c.serve_reader-why.result.1)
      c.args.shared.now.is_named c.serve_reader-why.ensures.hears,
)
