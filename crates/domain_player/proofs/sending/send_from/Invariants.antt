use Rattle.std.specs.Prelude.{◌≡◌, ℕ, ◌<◌, All, [], length}
use Rattle.routing_domain.specs.Domain.{neighbour}
use Rattle.domain_player.specs.Play.{AreSent, IsBetween, domain_of}
use Rattle.domain_player.proofs.sending.send_from.Given as goal

abbrev pub invariant-loop-to : goal.invariant-loop-to
invariant-loop-to l = record {
  sent : AreSent (domain_of l.fn.tables l.fn.sents.items) (domain_of l.tables l.sents.items);
  between : All (IsBetween (length l.fn.tables)) l.sents.items;
  all : (w : ℕ) → w < l.to → (neighbour (domain_of l.tables l.sents.items) l.from w).queue ≡ [];
}
