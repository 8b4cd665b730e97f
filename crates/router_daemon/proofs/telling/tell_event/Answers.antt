use Rattle.router_daemon.specs.Notices.{event_line}
use Rattle.router_daemon.proofs.Lines.{tells}
use Rattle.router_daemon.proofs.telling.tell_event.Goals as goal

pub returns : goal.returns
returns g c =
    tells g.E.Write.contents c.args.errors.now c.say.new.errors c.line_of.result (event_line c.args.event) c.say.ensures c.line_of.ensures
