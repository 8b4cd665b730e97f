use Rattle.std.specs.Prelude.{◌≡◌, ℕ, ◌<◌, All, [], length}
use Rattle.routing_domain.specs.Domain.{neighbour}
use Rattle.domain_player.specs.Play.{AreSent, IsBetween, domain_of}
use Rattle.domain_player.proofs.sending.send_all.Given as goal

abbrev pub invariant-loop-from : goal.invariant-loop-from
invariant-loop-from l = record {
  sent : AreSent (domain_of l.fn.tables l.fn.sents.items) (domain_of l.tables l.sents.items);
  between : All (IsBetween (length l.fn.tables)) l.sents.items;
  all : (u w : ℕ) → u < l.from → w < length l.fn.tables → (neighbour (domain_of l.tables l.sents.items) u w).queue ≡ [];
}
