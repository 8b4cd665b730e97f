use Rattle.std.proofs.Common.{sym, subst}
use Rattle.filter_syntax.specs.declared.tree.op.Membership.{Membership}
use Rattle.filter_compiler.specs.InstructionPlaces.{all_at}
use Rattle.filter_compiler.specs.Translation.{member_code}
use Rattle.filter_compiler.specs.Written.{Notes, Puts}
use Rattle.filter_compiler.proofs.expressions.put_member.Goals as goal

pub returns-in-In-clause-code : goal.returns-in-In-clause-code
returns-in-In-clause-code c =
    subst (λ (op : Membership). Puts c.args.out.now c.put.new.self (member_code op c.args.question)) (sym c.in-In.is) c.put.ensures.code

pub returns-in-NotIn-clause-code : goal.returns-in-NotIn-clause-code
returns-in-NotIn-clause-code c =
    subst (λ (op : Membership). Puts c.args.out.now c.put_opposite.new.out (member_code op c.args.question)) (sym c.in-NotIn.is)
    c.put_opposite.ensures.code

pub returns-in-In-clause-places : goal.returns-in-In-clause-places
returns-in-In-clause-places c =
    subst (λ (op : Membership). Notes c.args.out.now c.put.new.self (all_at c.args.at (member_code op c.args.question))) (sym c.in-In.is)
    c.put.ensures.places

pub returns-in-NotIn-clause-places : goal.returns-in-NotIn-clause-places
returns-in-NotIn-clause-places c =
    subst (λ (op : Membership). Notes c.args.out.now c.put_opposite.new.out (all_at c.args.at (member_code op c.args.question)))
    (sym c.in-NotIn.is) c.put_opposite.ensures.places
