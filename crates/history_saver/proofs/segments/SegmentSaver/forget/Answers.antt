use Rattle.history_saver.proofs.Turns.{still_has}
use Rattle.history_saver.proofs.segments.SegmentSaver.forget.Goals as goal

pub returns-clause-saved : goal.returns-clause-saved
returns-clause-saved g c =
    still_has c.args.router.now c.args.right.now c.forget.new.right c.forget.ensures.forgot.begins c.args.self.now c.requires.saved
