-- Verified code is answered by its cost and its peak, and a refusal by its code and its place, and is told.
use Rattle.std.proofs.Common.{Some, refl, subst}
use Rattle.filter_source.specs.Failures.{OnDiagnosis}
use Rattle.filter_verifier.specs.VerifiedView.{VerifiedView}
use Rattle.operator_cmds.specs.Script.{GetsName, diagnoses, gives, lacks}
use Rattle.operator_cmds.specs.State.{filter_at}
use Rattle.operator_cmds.proofs.Sourced.{refused_source, taken, told_of, turned_away}
use Rattle.operator_cmds.proofs.filter.name_source.Goals as goal

pub returns-in_ok-give_name-in-Ok-clause-ok : goal.returns-in_ok-give_name-in-Ok-clause-ok
returns-in_ok-give_name-in-Ok-clause-ok c =
    let before = filter_at c.args.filters.now in
    let after = filter_at c.give_name.new.filters in
    taken (gives c.args.source) (lacks c.args.source) c.args.number c.args.name.now c.args.size before after c.in-Ok.filter
    c.args.out.now.items c.push_verified.new.text.items c.in-Ok.ensures.verified c.in_ok-push_verified-in-Ok.ensures.ok
    (subst (λ (v : VerifiedView). GetsName c.args.name.now v before after) c.in_ok-new-in-Ok.ensures.ok c.in_ok-give_name-in-Ok.ensures.ok)

pub returns-in_ok-reply-in-Err-Refused-clause-ok : goal.returns-in_ok-reply-in-Err-Refused-clause-ok
returns-in_ok-reply-in-Err-Refused-clause-ok c =
    let diagnosis = c.in-Err-Refused.refused in
    turned_away (gives c.args.source) (lacks c.args.source) c.args.number c.args.name.now c.args.size (filter_at c.args.filters.now)
    diagnosis.refusal c.code.result.now c.place_in_line.result c.in_ok-reply-in-Err-Refused.reply c.args.out.now.items c.refuse.new.out.items
    (refused_source c.args.source c.args.size diagnosis
    (subst (OnDiagnosis (diagnoses c.args.source c.args.size)) c.in-Err-Refused.field-0-is c.in-Err-Refused.ensures.refused))
    (rw c.in-Err-Refused.field-0-is at c.code.ensures) (rw c.in-Err-Refused.field-0-is at c.place_in_line.ensures)
    c.in_ok-reply-in-Err-Refused.ensures.ok

pub returns-in_ok-reply-in-Err-Refused-clause-diagnosis : goal.returns-in_ok-reply-in-Err-Refused-clause-diagnosis
returns-in_ok-reply-in-Err-Refused-clause-diagnosis c =
    let diagnosis = c.in-Err-Refused.refused in
    rw c.in-Err-Refused.field-0-is
    (told_of (diagnoses c.args.source c.args.size) c.args.number c.args.diagnosis.now (Some diagnosis) diagnosis
    c.code.result.now c.place_in_line.result c.in_ok-reply-in-Err-Refused.reply c.args.out.now.items c.refuse.new.out.items
    (subst (OnDiagnosis (diagnoses c.args.source c.args.size)) c.in-Err-Refused.field-0-is c.in-Err-Refused.ensures.refused)
    (rw c.in-Err-Refused.field-0-is at c.code.ensures) (rw c.in-Err-Refused.field-0-is at c.place_in_line.ensures) refl
    c.in_ok-reply-in-Err-Refused.ensures.ok)
