-- The thread starts others, to which it hands what it may hand on: so says the function that starts it, behind how long its types live.
use denote.Param.Send.{param_send}
use Rattle.router_daemon.proofs.starting.fn.start_opening.spawn.Goals as goal

pub open_links-requires-send-I : goal.open_links-requires-send-I
open_links-requires-send-I g c κs within = param_send 1 g.row.I c.requires.1.1.1.1.1.1.1.1.1.1.1.1.1

pub open_links-requires-send-O : goal.open_links-requires-send-O
open_links-requires-send-O g c κs within = param_send 2 g.row.O c.requires.1.1.1.1.1.1.1.1.1.1.1.1.2

pub open_links-requires-send-D : goal.open_links-requires-send-D
open_links-requires-send-D g c κs within = param_send 3 g.row.D c.requires.1.1.1.1.1.1.1.1.1.1.1.1.3

pub open_links-requires-send-J : goal.open_links-requires-send-J
open_links-requires-send-J g c κs within = param_send 4 g.row.J c.requires.1.1.1.1.1.1.1.1.1.1.1.1.4

pub open_links-requires-send-E : goal.open_links-requires-send-E
open_links-requires-send-E g c κs within = param_send 5 g.row.E c.requires.1.1.1.1.1.1.1.1.1.1.1.1.5
