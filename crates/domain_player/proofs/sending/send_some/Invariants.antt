use Rattle.std.specs.Prelude.{◌≡◌, ◌++◌, map, take}
use Rattle.domain_player.specs.Play.{sent_by}
use Rattle.domain_player.proofs.sending.send_some.Given as goal

abbrev pub invariant-loop-message : goal.invariant-loop-message
invariant-loop-message l = l.sents.items ≡ l.fn.sents.items ++ map (sent_by l.from l.to) (take l.message-index l.message-items)
