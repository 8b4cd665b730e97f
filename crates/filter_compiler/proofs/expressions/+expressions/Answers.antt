use Rattle.std.proofs.Common.{ℕ, ◌+◌, [], ◌∷◌, refl, sym, subst}
use Rattle.std.proofs.lemmas.List.{append-nil}
use Rattle.filter_code.specs.declared.instruction.Instr.{Instr}
use Rattle.filter_code.specs.declared.instruction.Instr.TheVariants as instr
use Rattle.filter_syntax.specs.Syntax.{ExprView, view}
use Rattle.filter_syntax.specs.SyntaxText.{view_filter}
use Rattle.filter_types.proofs.Views.{view_binary, view_chain, view_grouped}
use Rattle.filter_compiler.specs.InstructionPlaces.{expression_places}
use Rattle.filter_compiler.specs.Translation.{expression_code, operator_code}
use Rattle.filter_compiler.specs.Written.{Emits, Puts, code_alone, expression_part, right_part}
use Rattle.filter_compiler.proofs.InstructionPlaces.{binary_at, chain_at, grouped_at, member_at, not_at}
use Rattle.filter_compiler.proofs.InstructionPlaces.{one_right, part_at, places_of_both, suffixed_at}
use Rattle.filter_compiler.proofs.Jumps.{over}
use Rattle.filter_compiler.proofs.Notes.{as_noted, next_notes, patch_notes, then_notes, times_notes}
use Rattle.filter_compiler.proofs.Puts.{as_part, code_then, puts_then, then, then_code, with_code}
use Rattle.filter_compiler.proofs.Trees.{chain_next, right_next, suffix_next, takes_both}
use Rattle.filter_compiler.proofs.Views.{view_member, view_not, view_part}
use Rattle.filter_compiler.proofs.expressions.+expressions.Goals as goal

pub emit-returns-in-AttributePart-clause-code : goal.emit-returns-in-AttributePart-clause-code
emit-returns-in-AttributePart-clause-code t c =
    let d = (view_filter c.args.typed.now).decls in
    let out = c.emit_one-in-AttributePart.new.out in
    let after = c.emit_one-in-AttributePart.result in
    subst (λ (x : ExprView). Emits c.args.out.now out c.args.sets after (expression_part d x))
    (sym (view_part c.args.expr.now c.in-AttributePart.at c.in-AttributePart.attribute c.in-AttributePart.suffix c.in-AttributePart.is))
    (code_then
    (subst (λ (i : Instr). Puts c.args.out.now c.put.new.self (i ∷ [])) c.attribute_instr-in-AttributePart.ensures.code c.put.ensures.code)
    (subst (λ (i : Instr). Emits c.put.new.self out c.args.sets after (code_alone (i ∷ []))) c.suffix_instr.ensures.code
    c.emit_one-in-AttributePart.ensures.code))

pub emit-returns-in-Not-clause-code : goal.emit-returns-in-Not-clause-code
emit-returns-in-Not-clause-code t c =
    let d = (view_filter c.args.typed.now).decls in
    let is = view_not c.args.expr.now c.in-Not.at c.in-Not.inner c.deref-in-Not.result.now c.in-Not.is c.deref-in-Not.ensures in
    subst (λ (x : ExprView). Emits c.args.out.now c.put-in-Not.new.self c.args.sets c.emit-next.result (expression_part d x)) (sym is)
    (then_code c.emit-next.ensures.code c.put-in-Not.ensures.code)

pub emit-returns-in-Binary-clause-code : goal.emit-returns-in-Binary-clause-code
emit-returns-in-Binary-clause-code t c =
    let d = (view_filter c.args.typed.now).decls in
    let y = c.deref-in-Binary.result.now in
    subst (λ (x : ExprView). Emits c.args.out.now c.emit_binary.new.out c.args.sets c.emit_binary.result (expression_part d x))
    (sym (view_binary c.args.expr.now c.in-Binary.parts y c.in-Binary.is c.deref-in-Binary.ensures))
    c.emit_binary.ensures.code

pub emit-returns-in-GroupedBinary-clause-code : goal.emit-returns-in-GroupedBinary-clause-code
emit-returns-in-GroupedBinary-clause-code t c =
    let d = (view_filter c.args.typed.now).decls in
    let y = c.deref-in-GroupedBinary.result.now in
    subst (λ (x : ExprView). Emits c.args.out.now c.emit_binary-in-GroupedBinary.new.out c.args.sets c.emit_binary-in-GroupedBinary.result (expression_part d x))
    (sym (view_grouped c.args.expr.now c.in-GroupedBinary.field-0 c.in-GroupedBinary.parts y c.in-GroupedBinary.is c.deref-in-GroupedBinary.ensures))
    c.emit_binary-in-GroupedBinary.ensures.code

pub emit_binary-returns-clause-code : goal.emit_binary-returns-clause-code
emit_binary-returns-clause-code t c =
    let d = (view_filter c.args.typed.now).decls in
    let y = c.args.parts.now in
    right_next d c.args.out.now c.emit-next.new.out c.emit_right.new.out c.args.sets c.emit-next.result c.emit_right.result (view y.0) y.2 (view y.3)
    c.emit-next.ensures.code c.emit_right.ensures.code

pub emit-returns-in-Chain-clause-code : goal.emit-returns-in-Chain-clause-code
emit-returns-in-Chain-clause-code t c =
    let d = (view_filter c.args.typed.now).decls in
    let is = view_chain c.args.expr.now c.in-Chain.first c.in-Chain.more c.deref-in-Chain.result.now c.deref-in-Chain-2.result.now c.in-Chain.is
    c.deref-in-Chain.ensures c.deref-in-Chain-2.ensures.value in
    subst (λ (x : ExprView). Emits c.args.out.now c.emit_chain.new.out c.args.sets c.emit_chain.result (expression_part d x)) (sym is)
    (c.emit_chain.ensures.code c.args.out.now c.args.sets (view c.deref-in-Chain.result.now) c.emit-next-in-Chain.ensures.code)

pub emit-returns-in-Member-clause-code : goal.emit-returns-in-Member-clause-code
emit-returns-in-Member-clause-code t c =
    let d = (view_filter c.args.typed.now).decls in
    let is = view_member c.args.expr.now c.in-Member.op c.in-Member.left c.in-Member.set c.deref-in-Member.result.now c.in-Member.is
    c.deref-in-Member.ensures in
    subst (λ (x : ExprView). Emits c.args.out.now c.emit_member.new.out c.args.sets c.emit_member.result (expression_part d x)) (sym is)
    (then c.emit-next-in-Member.ensures.code c.emit_member.ensures.code)

pub emit_and-returns-clause-code : goal.emit_and-returns-clause-code
emit_and-returns-clause-code t c =
    let jumped = over (λ (n : ℕ). instr.JumpIfNot (n + 1)) c.put.ensures.code c.emit-next.ensures.code c.distance-distance.ensures.value c.patch.ensures in
    then_code jumped (puts_then c.put-2.ensures.code c.put-3.ensures.code)

pub emit_or-returns-clause-code : goal.emit_or-returns-clause-code
emit_or-returns-clause-code t c =
    let jumped = over instr.Jump c.put-3.ensures.code c.emit-next.ensures.code c.distance-distance.ensures.value c.patch.ensures in
    code_then (puts_then c.put.ensures.code c.put-2.ensures.code) jumped

pub emit_right-returns-in_default-clause-code : goal.emit_right-returns-in_default-clause-code
emit_right-returns-in_default-clause-code t c =
    let d = (view_filter c.args.typed.now).decls in
    let right = expression_part d (view c.args.right.now) in
    as_part c.args.out.now c.emit_operator.new.out c.args.sets c.emit-next.result (with_code right (operator_code c.args.op)) (right_part d c.args.op (view c.args.right.now))
    (λ n. takes_both c.args.op (expression_code d n (view c.args.right.now)) c.in_default.not-And c.in_default.not-Or) refl
    (then_code c.emit-next.ensures.code c.emit_operator.ensures.code)

pub emit_chain-loop-at-preserved : goal.emit_chain-loop-at-preserved
emit_chain-loop-at-preserved t c = (
  λ before start first h.
      chain_next (view_filter c.args.typed.now).decls before c.loop-at.out c.emit_right-next.new.out start c.loop-at.next c.emit_right-next.result first
      c.args.more.now c.loop-at.at-index c.loop-at-item.result c.loop-at-test.true c.loop-at-item.is
      (c.loop-at.invariant.0 before start first h) c.emit_right-next.ensures.code,
  next_notes one_right c.args.more.now c.loop-at.at-index c.loop-at-item.result c.loop-at-test.true c.loop-at-item.is c.loop-at.invariant.1 c.emit_right-next.ensures.places,
)

pub emit_suffixed-loop-suffix-preserved : goal.emit_suffixed-loop-suffix-preserved
emit_suffixed-loop-suffix-preserved t c = (
  suffix_next (view_filter c.args.typed.now).decls c.args.out.now c.loop-suffix.out c.put.new.self c.args.sets c.emit-next.result c.emit-next.result (view c.args.operand.now)
      c.args.suffixes.now c.loop-suffix.suffix-index c.suffix-item.result c.loop-suffix-test.true c.suffix-item.is c.loop-suffix.invariant.0
      (rw c.suffix_instr.ensures.code at c.put.ensures.code),
  times_notes (expression_places c.args.operand.now) c.loop-suffix.suffix-index c.at-at.result c.loop-suffix.invariant.1 c.put.ensures.places,
)

pub emit_suffixed-loop-suffix-init : goal.emit_suffixed-loop-suffix-init
emit_suffixed-loop-suffix-init t c =
    (c.emit-next.ensures.code, as_noted (sym (append-nil (expression_places c.args.operand.now))) c.emit-next.ensures.places)

pub emit-returns-in-AttributePart-clause-places : goal.emit-returns-in-AttributePart-clause-places
emit-returns-in-AttributePart-clause-places t c =
    as_noted
    (sym (part_at c.args.expr.now c.in-AttributePart.at c.in-AttributePart.attribute c.in-AttributePart.suffix c.in-AttributePart.is))
    (then_notes c.put.ensures.places c.emit_one-in-AttributePart.ensures.places)

pub emit-returns-in-Not-clause-places : goal.emit-returns-in-Not-clause-places
emit-returns-in-Not-clause-places t c =
    as_noted
    (sym (not_at c.args.expr.now c.in-Not.at c.in-Not.inner c.deref-in-Not.result.now c.in-Not.is c.deref-in-Not.ensures))
    (then_notes c.emit-next.ensures.places c.put-in-Not.ensures.places)

pub emit-returns-in-Binary-clause-places : goal.emit-returns-in-Binary-clause-places
emit-returns-in-Binary-clause-places t c =
    as_noted
    (sym (binary_at c.args.expr.now c.in-Binary.parts c.deref-in-Binary.result.now c.in-Binary.is c.deref-in-Binary.ensures))
    c.emit_binary.ensures.places

pub emit-returns-in-GroupedBinary-clause-places : goal.emit-returns-in-GroupedBinary-clause-places
emit-returns-in-GroupedBinary-clause-places t c =
    as_noted
    (sym (grouped_at c.args.expr.now c.in-GroupedBinary.field-0 c.in-GroupedBinary.parts c.deref-in-GroupedBinary.result.now c.in-GroupedBinary.is
    c.deref-in-GroupedBinary.ensures))
    c.emit_binary-in-GroupedBinary.ensures.places

pub emit_binary-returns-clause-places : goal.emit_binary-returns-clause-places
emit_binary-returns-clause-places t c = then_notes c.emit-next.ensures.places c.emit_right.ensures.places

pub emit-returns-in-Chain-clause-places : goal.emit-returns-in-Chain-clause-places
emit-returns-in-Chain-clause-places t c =
    as_noted
    (sym (chain_at c.args.expr.now c.in-Chain.first c.in-Chain.more c.deref-in-Chain.result.now c.deref-in-Chain-2.result.now c.in-Chain.is
    c.deref-in-Chain.ensures c.deref-in-Chain-2.ensures.value))
    (then_notes c.emit-next-in-Chain.ensures.places c.emit_chain.ensures.places)

pub emit-returns-in-Member-clause-places : goal.emit-returns-in-Member-clause-places
emit-returns-in-Member-clause-places t c =
    as_noted
    (sym (member_at c.args.expr.now c.in-Member.op c.in-Member.left c.in-Member.set c.deref-in-Member.result.now c.in-Member.is
    c.deref-in-Member.ensures))
    (then_notes c.emit-next-in-Member.ensures.places c.emit_member.ensures.places)

pub emit-returns-in-Suffixed-clause-places : goal.emit-returns-in-Suffixed-clause-places
emit-returns-in-Suffixed-clause-places t c =
    as_noted
    (sym (suffixed_at c.args.expr.now c.in-Suffixed.inner c.in-Suffixed.suffixes c.deref-in-Suffixed.result.now
    c.deref-in-Suffixed-2.result.now c.in-Suffixed.is c.deref-in-Suffixed.ensures c.deref-in-Suffixed-2.ensures.value))
    c.emit_suffixed.ensures.places

pub emit_and-returns-clause-places : goal.emit_and-returns-clause-places
emit_and-returns-clause-places t c =
    then_notes (patch_notes _ _ (then_notes c.put.ensures.places c.emit-next.ensures.places) c.patch.ensures)
    (then_notes c.put-2.ensures.places c.put-3.ensures.places)

pub emit_or-returns-clause-places : goal.emit_or-returns-clause-places
emit_or-returns-clause-places t c =
    then_notes (then_notes c.put.ensures.places c.put-2.ensures.places)
    (patch_notes _ _ (then_notes c.put-3.ensures.places c.emit-next.ensures.places) c.patch.ensures)

pub emit_right-returns-in_default-clause-places : goal.emit_right-returns-in_default-clause-places
emit_right-returns-in_default-clause-places t c =
    as_noted
    (places_of_both c.args.at c.args.op (expression_places c.args.right.now) c.in_default.not-And c.in_default.not-Or)
    (then_notes c.emit-next.ensures.places c.emit_operator.ensures.places)
