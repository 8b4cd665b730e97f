use Rattle.std.proofs.Common.{map, sym, subst}
use Rattle.filter_code.specs.declared.instruction.Instr.TheVariants as instr
use Rattle.filter_syntax.specs.Syntax.{view_members, view_range, view_set_pattern}
use Rattle.filter_compiler.specs.Written.{Emits, member_part}
use Rattle.filter_compiler.proofs.Cases.{asks_patterns, asks_ranges, same_places}
use Rattle.filter_compiler.proofs.Notes.{as_noted, then_notes}
use Rattle.filter_compiler.proofs.expressions.emit_member.Goals as goal

pub returns-in-Patterns-clause-code : goal.returns-in-Patterns-clause-code
returns-in-Patterns-clause-code c =
    let set = map view_set_pattern c.in-Patterns.field-0.items in
    subst (λ m. Emits c.args.out.now c.put_member.new.out c.args.sets c.after_patterns.result (member_part c.args.op (view_members m)))
    (sym c.in-Patterns.is)
    (asks_patterns c.args.op set c.need_set.ensures.code (λ k. c.need_set.ensures.within (c.put_member.ensures.places.went_on k))
    c.put_member.ensures.code (λ n counted. c.after_patterns.ensures n set counted))

pub returns-in-Ranges-clause-code : goal.returns-in-Ranges-clause-code
returns-in-Ranges-clause-code c =
    let set = map view_range c.in-Ranges.field-0.items in
    subst (λ m. Emits c.args.out.now c.put_member-in-Ranges.new.out c.args.sets c.after_ints.result (member_part c.args.op (view_members m)))
    (sym c.in-Ranges.is)
    (asks_ranges c.args.op set c.need_set-in-Ranges.ensures.code (λ k. c.need_set-in-Ranges.ensures.within (c.put_member-in-Ranges.ensures.places.went_on k))
    c.put_member-in-Ranges.ensures.code (λ n counted. c.after_ints.ensures n set counted))

pub returns-in-Patterns-clause-places : goal.returns-in-Patterns-clause-places
returns-in-Patterns-clause-places c =
    as_noted (same_places c.args.op c.args.set.now.at _ _) (then_notes c.need_set.ensures.places c.put_member.ensures.places)

pub returns-in-Ranges-clause-places : goal.returns-in-Ranges-clause-places
returns-in-Ranges-clause-places c =
    as_noted (same_places c.args.op c.args.set.now.at _ _) (then_notes c.need_set-in-Ranges.ensures.places c.put_member-in-Ranges.ensures.places)
