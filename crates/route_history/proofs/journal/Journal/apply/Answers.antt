use Rattle.std.proofs.Common.{refl, sym, subst, ◌<◌, List, length, arith}
use Rattle.route_history.specs.declared.entry.Entry.{Entry}
use Rattle.route_history.specs.Recorded.{IsRecorded}
use Rattle.route_history.proofs.Recording.{recorded_more}
use Rattle.route_history.proofs.journal.Journal.apply.Goals as goal

pub invariant_of-self-2 : goal.invariant_of-self-2
invariant_of-self-2 c =
    let room : length c.self.inside.entries < c.self.inside.limit = omega arith in
    subst (λ (es : List Entry). IsRecorded c.enter.new.tables c.self.inside.limit es) (sym c.in-Ok.ensures.entered)
    (recorded_more c.self.inside.tables c.enter.new.tables c.self.inside.limit c.self.inside.entries c.args.event c.in-Ok.reply
    c.in-Ok.reply c.self.invariant c.in-Ok.ensures.done refl room c.enter.ensures.opening)

pub returns-clause-legal : goal.returns-clause-legal
returns-clause-legal c =
    let room : length c.self.inside.entries < c.self.inside.limit = omega arith in
    let recorded = subst (λ (es : List Entry). IsRecorded c.enter.new.tables c.self.inside.limit es) (sym c.in-Ok.ensures.entered)
    (recorded_more c.self.inside.tables c.enter.new.tables c.self.inside.limit c.self.inside.entries c.args.event c.in-Ok.reply
    c.in-Ok.reply c.self.invariant c.in-Ok.ensures.done refl room c.enter.ensures.opening) in
    (recorded.legal, recorded.room)
