use Rattle.std.specs.Prelude.{All, length}
use Rattle.netchange_core.specs.World.{neighbour_at}
use Rattle.domain_player.specs.Play.{AreSent, IsBetween, domain_of, router_at}
use Rattle.domain_player.proofs.sending.send_to.Given as goal

abbrev pub invariant-sending : goal.invariant-sending
invariant-sending l = record {
  sent : AreSent (domain_of l.fn.tables l.fn.sents.items) (domain_of l.tables l.sents.items);
  between : All (IsBetween (length l.fn.tables)) l.sents.items;
}

abbrev pub decreases-sending : goal.decreases-sending
decreases-sending l = length (neighbour_at (router_at l.tables l.from).neighbours l.to).queue
