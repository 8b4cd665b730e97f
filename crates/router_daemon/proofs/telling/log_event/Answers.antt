use Rattle.std.proofs.Common.{List, ℕ}
use Rattle.router_daemon.specs.Notices.{logged_line}
use Rattle.router_daemon.proofs.Lines.{logs}
use Rattle.router_daemon.proofs.telling.log_event.Goals as goal

pub returns : goal.returns
returns g c =
    logs g.L.Write.contents c.args.log.now c.say.new.errors c.logged_line.result (λ (time : List ℕ). logged_line time c.args.event) c.say.ensures
    c.logged_line.ensures
