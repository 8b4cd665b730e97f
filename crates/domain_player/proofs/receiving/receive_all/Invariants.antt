use Rattle.std.specs.Prelude.{drop}
use Rattle.domain_player.specs.Play.{IsPlayed, domain_of}
use Rattle.domain_player.proofs.receiving.receive_all.Given as goal

abbrev pub invariant-loop-sent : goal.invariant-loop-sent
invariant-loop-sent l = IsPlayed (domain_of l.fn.tables l.sents) (domain_of l.tables (drop l.sent-index l.sents)) l.sent-index
