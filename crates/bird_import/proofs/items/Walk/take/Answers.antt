use Rattle.bird_import.proofs.Following.{one_more}
use Rattle.bird_import.proofs.items.Walk.take.Goals as goal

pub returns : goal.returns
returns c = λ words at behind is so_far.
    one_more words c.args.self.now.next at c.args.self.now.found.items _ c.args.item behind is so_far c.in_ok-push.ensures.items
