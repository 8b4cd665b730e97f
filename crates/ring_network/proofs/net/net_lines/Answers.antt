use Rattle.ring_network.proofs.net.net_lines.Goals as goal

pub returns-in-Ok-clause-ok : goal.returns-in-Ok-clause-ok
returns-in-Ok-clause-ok g c = rw c.as_bytes.ensures.value at c.in-Ok.ensures.ok
