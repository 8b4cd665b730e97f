-- Whatever becomes of a source, it stays known where the filters of names come from.
use Rattle.std.proofs.Common.{◌≡◌, arith, refl}
use Rattle.std.specs.Io.{StartsWith}
use Rattle.std.proofs.lemmas.Grind.{common_steps}
use Rattle.line_protocol.specs.declared.answers.LineReply.TheVariants as line_reply
use Rattle.operator_cmds.specs.Script.{AnswersSource, gives, lacks}
use Rattle.domain_cmds.specs.State.{filter_named}
use Rattle.domain_cmds.proofs.Carrying.{after_error, begins, loaded}
use Rattle.domain_cmds.proofs.Noting.{kept_forgotten, kept_loaded, kept_same, kept_turned}
use Rattle.domain_cmds.proofs.planning.Planning.load.Goals as goal

-- memory was refused, and nothing changed
pub invariant_of-self : goal.invariant_of-self
invariant_of-self c =
    let i = c.self.inside in
    kept_same i.filters.size i.since i.domain i.origins i.filters.named c.self.invariant c.load.new.self c.in_err-reply.ensures.left

-- the source was refused
pub invariant_of-self-then-ne : goal.invariant_of-self-then-ne
invariant_of-self-then-ne c =
    let i = c.self.inside in
    kept_turned i.filters.size i.since i.domain i.origins i.filters.named c.self.invariant c.args.source c.args.number c.args.name.now c.load.new.self
    c.in_ok-reply.reply c.args.out.now.items c.load.new.out.items c.load.ensures.size c.in_ok-reply.ensures.ok (λ same. grind (arith, common_steps))

pub returns-then-ne-clause-ok : goal.returns-then-ne-clause-ok
returns-then-ne-clause-ok c =
    let i = c.self.inside in
    loaded c.args.out.now.items c.load.new.out.items c.args.self.now i.domain i.begun _ i.since c.args.number (gives c.args.source)
    (lacks c.args.source) i.filters c.load.new.self c.load.new.self c.args.name.now c.in_ok-reply.reply c.self.view_is c.self.invariant.0 refl
    c.in_ok-reply.ensures.ok

-- it got its name, and memory was refused
pub invariant_of-self-in_err-note_origin : goal.invariant_of-self-in_err-note_origin
invariant_of-self-in_err-note_origin c =
    let i = c.self.inside in
    kept_forgotten i.filters.size i.since i.domain i.origins i.filters.named c.self.invariant c.args.source c.args.number c.args.name.now
    c.load.new.self c.note_origin.new.filters c.in_ok-reply.reply c.args.out.now.items c.load.new.out.items c.note_origin.new.origins c.load.ensures.size
    c.in_ok-reply.ensures.ok c.note_origin.ensures.size c.in_err-note_origin.ensures.err c.in_err-note_origin.ensures.others

pub returns-in_err-note_origin-clause-err : goal.returns-in_err-note_origin-clause-err
returns-in_err-note_origin-clause-err c =
    let i = c.self.inside in
    after_error c.from_residual-in_err-note_origin.result (StartsWith c.load.new.out.items c.args.out.now.items)
    (begins (λ answer. AnswersSource (gives c.args.source) (lacks c.args.source) i.filters.size c.args.number c.args.name.now
    (filter_named i.filters.named) answer (filter_named c.load.new.self.named)) c.args.out.now.items c.load.new.out.items c.in_ok-reply.reply
    c.in_ok-reply.ensures.ok)

-- it got its name, and is noted
pub invariant_of-self-2 : goal.invariant_of-self-2
invariant_of-self-2 c =
    let i = c.self.inside in
    let is : c.in_ok-reply.reply ≡ line_reply.Answered = grind (arith, common_steps) in
    kept_loaded i.filters.size i.since i.domain i.origins i.filters.named c.self.invariant c.args.source c.args.number c.args.name.now c.load.new.self
    c.note_origin.new.filters c.in_ok-reply.reply c.args.out.now.items c.load.new.out.items c.note_origin.new.origins c.load.ensures.size
    c.in_ok-reply.ensures.ok c.requires is c.in_ok-note_origin.ensures.ok.0 c.in_ok-note_origin.ensures.ok.1

pub returns-clause-ok : goal.returns-clause-ok
returns-clause-ok c =
    let i = c.self.inside in
    loaded c.args.out.now.items c.load.new.out.items c.args.self.now i.domain i.begun _ i.since c.args.number (gives c.args.source)
    (lacks c.args.source) i.filters c.load.new.self c.note_origin.new.filters c.args.name.now c.in_ok-reply.reply c.self.view_is c.self.invariant.0
    c.in_ok-note_origin.ensures.ok.0 c.in_ok-reply.ensures.ok
