-- Where no wait is told, the link stays closed after that turn.
use Rattle.std.proofs.Common.{◌≡◌, ℕ, Bool, List, Option, None, Some, subst}
use Rattle.std.specs.Prelude.{IfNone}
use Rattle.neighbour_session.specs.declared.greeting.Domain.{Domain}
use Rattle.router_options.specs.declared.parts.LinkFiles.{LinkFiles}
use Rattle.slot_lock.specs.Passes.{PassView, RouterView}
use Rattle.router_daemon.specs.Links.{KeepsTurn, StaysClosed}
use Rattle.router_daemon.proofs.supervisor.keep_link.Goals as goal

closed : {T : Type 0} (told : Option T) (may_read may_write : List ℕ → Bool → Type 0) (r : RouterView) (d : Domain) (files : LinkFiles)
    (retry before : Option ℕ) (old : PassView) (wait : Option ℕ) → wait ≡ None → KeepsTurn may_read may_write r d files retry before old wait →
    IfNone told (StaysClosed may_read may_write r d files retry)
closed None may_read may_write r d files retry before old wait none h =
    (before, old, subst (λ (w : Option ℕ). KeepsTurn may_read may_write r d files retry before old w) none h)
closed (Some closing) may_read may_write r d files retry before old wait none h = tt

pub returns-in_err-wait-clause-closed : goal.returns-in_err-wait-clause-closed
returns-in_err-wait-clause-closed g c =
    closed c.from_residual.result (g.D.LinkFolder.may_read c.args.folder.now) (g.D.LinkFolder.may_write c.args.folder.now)
    g.J.Naming.router c.args.link.now.domain c.args.link.now.files c.args.link.now.retry c.loop.before c.loop.pass c.keep_turn.result
    c.in_err-wait.was c.keep_turn.ensures.keeps
