-- The names have what they get, and all filters still fit.
use Rattle.std.proofs.Common.{IfOk, subst}
use Rattle.operator_cmds.specs.Replies.{Answers}
use Rattle.operator_cmds.specs.Script.{AnswersSource, gives, lacks}
use Rattle.domain_cmds.specs.State.{FiltersView, filter_named}
use Rattle.domain_cmds.proofs.Filling.{still_fit}
use Rattle.domain_cmds.proofs.filters.Filters.load.Goals as goal

pub invariant_of-self : goal.invariant_of-self
invariant_of-self c =
    still_fit (gives c.args.source) (lacks c.args.source) c.self.inside.size c.args.number c.args.name.now c.self.inside.named.entries
    c.name_source.new.filters.entries c.self.invariant c.name_source.result c.args.out.now.items c.name_source.new.out.items
    c.name_source.ensures.ok c.name_source.ensures.left

pub returns-clause-ok : goal.returns-clause-ok
returns-clause-ok c =
    subst
    (λ (f : FiltersView). IfOk c.name_source.result
    (Answers (λ answer. AnswersSource (gives c.args.source) (lacks c.args.source) f.size c.args.number c.args.name.now (filter_named f.named)
    answer (filter_named c.name_source.new.filters.entries)) c.args.out.now.items c.name_source.new.out.items))
    c.self.view_is c.name_source.ensures.ok
