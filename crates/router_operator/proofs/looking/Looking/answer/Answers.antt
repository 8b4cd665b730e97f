-- The entries are told of each history that the journal may have the end of.
use Rattle.router_operator.proofs.Showing.{told_entries}
use Rattle.router_operator.proofs.looking.Looking.answer.Goals as goal

pub returns-in-Entries-clause-ok : goal.returns-in-Entries-clause-ok
returns-in-Entries-clause-ok c =
    rw c.in-Entries.is
    (told_entries c.args.journal.now c.in-Entries.from c.args.self.now.number c.args.self.now.text.items c.answer_kept.new.out.items
    c.answer_kept.result c.answer_kept.ensures.ok)

pub returns-in-Routes-clause-ok : goal.returns-in-Routes-clause-ok
returns-in-Routes-clause-ok c = rw c.in-Routes.is c.answer_routes.ensures.ok
