use Rattle.std.proofs.Common.{◌≡◌, Some, inl, inr, refl, sym, ap, ◌∙◌, map}
use Rattle.std.proofs.lemmas.Result.{err_from_is_err_and}
use Rattle.filter_syntax.specs.Syntax.{view, view_more}
use Rattle.filter_syntax.specs.SyntaxCommands.{view_decl}
use Rattle.filter_syntax.specs.Syntax.{view_members}
use Rattle.filter_types.specs.Faults.{HasFault}
use Rattle.filter_types.specs.Kinds.{kind_in}
use Rattle.filter_types.specs.Refusals.{member_refusal, operator_refusal, suffix_refusal, wrong_kind}
use Rattle.filter_types.specs.Table.{in_set, negated, operator, suffixed_by}
use Rattle.filter_types.specs.Turns.{BinaryHasFault}
use Rattle.filter_types.specs.declared.fault.ExpectedKind.TheVariants as expected
use Rattle.filter_types.specs.Refusals.{view_operand}
use Rattle.filter_types.proofs.Blaming.{contains_at, operator_blames, operator_left, operator_taken, refuses_here, suffix_blames}
use Rattle.filter_types.proofs.Erring.{err_map, refused}
use Rattle.filter_types.proofs.Faulting.{attribute_part_fault, binary_fault, chain_fault, chain_operand, group_operand}
use Rattle.filter_types.proofs.Faulting.{grouped_fault, member_fault, member_operand, name_fault, not_fault}
use Rattle.filter_types.proofs.Faulting.{not_operand, operator_fault, suffixed_fault, suffixed_operand, with_kind}
use Rattle.filter_types.proofs.Turns.{chain_gives, chain_none, suffixes_give, suffixes_none}
use Rattle.filter_types.proofs.Views.{view_chain, view_suffixed}
use Rattle.filter_types.proofs.kinds.+kinds.Goals as goal

pub kind_of-returns-in_err-kind-in-Chain-clause-kind :
    goal.kind_of-returns-in_err-kind-in-Chain-clause-kind
kind_of-returns-in_err-kind-in-Chain-clause-kind t c =
    let p = err_from_is_err_and c.from_residual-in_err-kind-in-Chain.result c.from_residual-in_err-kind-in-Chain.ensures.1 in
    rw (p.1, p.2) (λ not_memory. chain_none (map view_decl c.args.variables.now) (view c.args.expr.now) (view c.deref-in-Chain.result.now)
    (view_more c.in-Chain.more.items)
    (view_chain c.args.expr.now c.in-Chain.first c.in-Chain.more c.deref-in-Chain.result.now c.in-Chain.more.items c.in-Chain.is
    c.deref-in-Chain.ensures refl)
    (c.in_err-kind-in-Chain.ensures.kind not_memory))

pub kind_of-returns-in_err-kind-in-Suffixed-clause-kind :
    goal.kind_of-returns-in_err-kind-in-Suffixed-clause-kind
kind_of-returns-in_err-kind-in-Suffixed-clause-kind t c =
    let p = err_from_is_err_and c.from_residual-in_err-kind-in-Suffixed.result c.from_residual-in_err-kind-in-Suffixed.ensures.1 in
    rw (p.1, p.2) (λ not_memory. suffixes_none (map view_decl c.args.variables.now) (view c.args.expr.now)
    (view c.deref-in-Suffixed.result.now)
    c.in-Suffixed.suffixes.items
    (view_suffixed c.args.expr.now c.in-Suffixed.inner c.in-Suffixed.suffixes c.deref-in-Suffixed.result.now c.in-Suffixed.suffixes.items
    c.in-Suffixed.is c.deref-in-Suffixed.ensures refl)
    (c.in_err-kind-in-Suffixed.ensures.kind not_memory))

pub kind_of-returns-in_ok-kind-in-Chain-clause-kind :
    goal.kind_of-returns-in_ok-kind-in-Chain-clause-kind
kind_of-returns-in_ok-kind-in-Chain-clause-kind t c =
    chain_gives (map view_decl c.args.variables.now) (view c.args.expr.now) (view c.deref-in-Chain.result.now)
    (view_more c.deref-in-Chain-2.result.now) c.in_ok-kind-in-Chain.kind c.kind_of_chain.result
    (view_chain c.args.expr.now c.in-Chain.first c.in-Chain.more c.deref-in-Chain.result.now c.deref-in-Chain-2.result.now c.in-Chain.is
    c.deref-in-Chain.ensures c.deref-in-Chain-2.ensures.value)
    c.in_ok-kind-in-Chain.ensures.kind c.kind_of_chain.ensures.kind

pub kind_of-returns-in_ok-kind-in-Suffixed-clause-kind :
    goal.kind_of-returns-in_ok-kind-in-Suffixed-clause-kind
kind_of-returns-in_ok-kind-in-Suffixed-clause-kind t c =
    suffixes_give (map view_decl c.args.variables.now) (view c.args.expr.now) (view c.deref-in-Suffixed.result.now)
    c.deref-in-Suffixed-3.result.now c.in_ok-kind-in-Suffixed.kind c.kind_with_suffixes.result
    (view_suffixed c.args.expr.now c.in-Suffixed.inner c.in-Suffixed.suffixes c.deref-in-Suffixed.result.now
    c.deref-in-Suffixed-3.result.now
    c.in-Suffixed.is c.deref-in-Suffixed.ensures c.deref-in-Suffixed-3.ensures.value)
    c.in_ok-kind-in-Suffixed.ensures.kind c.kind_with_suffixes.ensures.kind

-- ---- the faults

pub kind_of-returns-in-Name-clause-fault : goal.kind_of-returns-in-Name-clause-fault
kind_of-returns-in-Name-clause-fault t c =
    let vs = map view_decl c.args.variables.now in
    err_map c.resolve.result _ (HasFault vs c.args.expr.now)
    (λ why h. name_fault vs c.args.expr.now why c.in-Name.at c.in-Name.name c.as_slice.result.now c.in-Name.is c.as_slice.ensures h)
    c.resolve.ensures.fault

pub kind_of-returns-in-Group-clause-fault : goal.kind_of-returns-in-Group-clause-fault
kind_of-returns-in-Group-clause-fault t c =
    let vs = map view_decl c.args.variables.now in
    err_map c.kind_of.result _ (HasFault vs c.args.expr.now)
    (λ why h. group_operand vs c.args.expr.now why c.in-Group.field-0 c.in-Group.inner c.deref.result.now c.in-Group.is c.deref.ensures h)
    c.kind_of.ensures.fault

pub kind_of-returns-in_err-kind-in-Not-clause-fault : goal.kind_of-returns-in_err-kind-in-Not-clause-fault
kind_of-returns-in_err-kind-in-Not-clause-fault t c =
    let p = err_from_is_err_and c.from_residual.result c.from_residual.ensures.1 in
    rw (p.1, p.2) (not_operand (map view_decl c.args.variables.now) c.args.expr.now _ c.in-Not.field-0 c.in-Not.inner c.deref-in-Not.result.now
    c.in-Not.is c.deref-in-Not.ensures c.in_err-kind-in-Not.ensures.fault)

pub kind_of-returns-in_err-kind-in-Chain-clause-fault : goal.kind_of-returns-in_err-kind-in-Chain-clause-fault
kind_of-returns-in_err-kind-in-Chain-clause-fault t c =
    let p = err_from_is_err_and c.from_residual-in_err-kind-in-Chain.result c.from_residual-in_err-kind-in-Chain.ensures.1 in
    rw (p.1, p.2) (chain_operand (map view_decl c.args.variables.now) c.args.expr.now _ c.in-Chain.first c.in-Chain.more c.deref-in-Chain.result.now
    c.in-Chain.is c.deref-in-Chain.ensures c.in_err-kind-in-Chain.ensures.fault)

pub kind_of-returns-in_err-kind-in-Member-clause-fault : goal.kind_of-returns-in_err-kind-in-Member-clause-fault
kind_of-returns-in_err-kind-in-Member-clause-fault t c =
    let p = err_from_is_err_and c.from_residual-in_err-kind-in-Member.result c.from_residual-in_err-kind-in-Member.ensures.1 in
    rw (p.1, p.2) (member_operand (map view_decl c.args.variables.now) c.args.expr.now _ c.in-Member.field-0 c.in-Member.left c.in-Member.set c.deref-in-Member.result.now
    c.in-Member.is c.deref-in-Member.ensures c.in_err-kind-in-Member.ensures.fault)

pub kind_of-returns-in_err-kind-in-Suffixed-clause-fault : goal.kind_of-returns-in_err-kind-in-Suffixed-clause-fault
kind_of-returns-in_err-kind-in-Suffixed-clause-fault t c =
    let p = err_from_is_err_and c.from_residual-in_err-kind-in-Suffixed.result c.from_residual-in_err-kind-in-Suffixed.ensures.1 in
    rw (p.1, p.2) (suffixed_operand (map view_decl c.args.variables.now) c.args.expr.now _ c.in-Suffixed.inner c.in-Suffixed.suffixes c.deref-in-Suffixed.result.now
    c.in-Suffixed.is c.deref-in-Suffixed.ensures c.in_err-kind-in-Suffixed.ensures.fault)

pub kind_of-returns-in-AttributePart-clause-fault : goal.kind_of-returns-in-AttributePart-clause-fault
kind_of-returns-in-AttributePart-clause-fault t c =
    let vs = map view_decl c.args.variables.now in
    let x = c.args.expr.now in
    let s = c.in-AttributePart.suffix in
    let k = c.attribute_kind-in-AttributePart.result in
    refused c.suffixed_by.result (suffixed_by s k) (suffix_refusal s (with_kind x k)) (HasFault vs x) (suffix_blames s (with_kind x k)).0
    c.suffixed_by.ensures.kind c.suffixed_by.ensures.refusal
    (λ none. attribute_part_fault vs x _ c.in-AttributePart.field-0 c.in-AttributePart.attribute s k c.in-AttributePart.is c.attribute_kind-in-AttributePart.ensures none refl)

pub kind_of-returns-in-Binary-clause-fault : goal.kind_of-returns-in-Binary-clause-fault
kind_of-returns-in-Binary-clause-fault t c =
    let vs = map view_decl c.args.variables.now in
    err_map c.kind_of_binary.result _ (HasFault vs c.args.expr.now)
    (λ why h. binary_fault vs c.args.expr.now why c.in-Binary.parts c.deref-in-Binary.result.now c.in-Binary.is c.deref-in-Binary.ensures h)
    c.kind_of_binary.ensures.fault

pub kind_of-returns-in-GroupedBinary-clause-fault : goal.kind_of-returns-in-GroupedBinary-clause-fault
kind_of-returns-in-GroupedBinary-clause-fault t c =
    let vs = map view_decl c.args.variables.now in
    err_map c.kind_of_binary-in-GroupedBinary.result _ (HasFault vs c.args.expr.now)
    (λ why h. grouped_fault vs c.args.expr.now why c.in-GroupedBinary.field-0 c.in-GroupedBinary.parts c.deref-in-GroupedBinary.result.now
    c.in-GroupedBinary.is c.deref-in-GroupedBinary.ensures h)
    c.kind_of_binary-in-GroupedBinary.ensures.fault

pub kind_of_binary-returns-in_err-left_kind-clause-fault : goal.kind_of_binary-returns-in_err-left_kind-clause-fault
kind_of_binary-returns-in_err-left_kind-clause-fault t c =
    let p = err_from_is_err_and c.from_residual.result c.from_residual.ensures.1 in
    rw (p.1, p.2) (inl c.in_err-left_kind.ensures.fault)

pub kind_of_binary-returns-in_err-right_kind-clause-fault : goal.kind_of_binary-returns-in_err-right_kind-clause-fault
kind_of_binary-returns-in_err-right_kind-clause-fault t c =
    let p = err_from_is_err_and c.from_residual-in_err-right_kind.result c.from_residual-in_err-right_kind.ensures.1 in
    rw (p.1, p.2) (inr (inl c.in_err-right_kind.ensures.fault))

pub kind_of_binary-returns-clause-fault : goal.kind_of_binary-returns-clause-fault
kind_of_binary-returns-clause-fault t c =
    let vs = map view_decl c.args.variables.now in
    let y = c.args.parts.now in
    let a = c.in_ok-left_kind.left_kind in
    let b = c.in_ok-right_kind.right_kind in
    refused c.operator.result (operator y.2 a b) (operator_refusal y.2 (with_kind y.0 a) (with_kind y.3 b)) (BinaryHasFault vs y)
    (operator_blames y.2 (with_kind y.0 a) (with_kind y.3 b)).0 c.operator.ensures.kind c.operator.ensures.refusal
    (λ none. operator_fault vs _ y a b c.in_ok-left_kind.ensures.kind c.in_ok-right_kind.ensures.kind none refl)

pub kind_of-returns-in_ok-kind-in-Not-clause-fault : goal.kind_of-returns-in_ok-kind-in-Not-clause-fault
kind_of-returns-in_ok-kind-in-Not-clause-fault t c =
    let vs = map view_decl c.args.variables.now in
    let x = c.args.expr.now in
    let y = c.deref-in-Not-2.result.now in
    let k = c.in_ok-kind-in-Not.kind in
    let found : kind_in vs (view y) ≡ Some k =
    ap (λ z. kind_in vs (view z)) (c.deref-in-Not-2.ensures ∙ sym c.deref-in-Not.ensures) ∙ c.in_ok-kind-in-Not.ensures.kind in
    refused c.negated.result (negated k) (wrong_kind (with_kind y k) expected.Bool) (HasFault vs x) (λ e. cc) c.negated.ensures.kind
    c.negated.ensures.refusal
    (λ none. not_fault vs x _ c.in-Not.field-0 c.in-Not.inner y k c.in-Not.is c.deref-in-Not-2.ensures found none refl)

pub kind_of-returns-in_ok-kind-in-Member-clause-fault : goal.kind_of-returns-in_ok-kind-in-Member-clause-fault
kind_of-returns-in_ok-kind-in-Member-clause-fault t c =
    let vs = map view_decl c.args.variables.now in
    let x = c.args.expr.now in
    let y = c.deref-in-Member-2.result.now in
    let k = c.in_ok-kind-in-Member.kind in
    let set = view_members c.in-Member.set.members in
    let found : kind_in vs (view y) ≡ Some k =
    ap (λ z. kind_in vs (view z)) (c.deref-in-Member-2.ensures ∙ sym c.deref-in-Member.ensures) ∙ c.in_ok-kind-in-Member.ensures.kind in
    refused c.in_set.result (in_set set k) (member_refusal set (with_kind y k)) (HasFault vs x) (λ e. cc) c.in_set.ensures.kind
    c.in_set.ensures.refusal
    (λ none. member_fault vs x _ c.in-Member.field-0 c.in-Member.left c.in-Member.set y k c.in-Member.is c.deref-in-Member-2.ensures found none refl)

pub kind_of-returns-in_ok-kind-in-Chain-clause-fault : goal.kind_of-returns-in_ok-kind-in-Chain-clause-fault
kind_of-returns-in_ok-kind-in-Chain-clause-fault t c =
    let vs = map view_decl c.args.variables.now in
    let x = c.args.expr.now in
    let y = c.deref-in-Chain-3.result.now in
    let k = c.in_ok-kind-in-Chain.kind in
    let found : kind_in vs (view y) ≡ Some k =
    ap (λ z. kind_in vs (view z)) (c.deref-in-Chain-3.ensures ∙ sym c.deref-in-Chain.ensures) ∙ c.in_ok-kind-in-Chain.ensures.kind in
    err_map c.kind_of_chain.result _ (HasFault vs x)
    (λ why h. chain_fault vs x why c.in-Chain.first c.in-Chain.more y c.deref-in-Chain-2.result.now k c.in-Chain.is c.deref-in-Chain-3.ensures
    c.deref-in-Chain-2.ensures.value found h)
    c.kind_of_chain.ensures.fault

pub kind_of-returns-in_ok-kind-in-Suffixed-clause-fault : goal.kind_of-returns-in_ok-kind-in-Suffixed-clause-fault
kind_of-returns-in_ok-kind-in-Suffixed-clause-fault t c =
    let vs = map view_decl c.args.variables.now in
    let x = c.args.expr.now in
    let y = c.deref-in-Suffixed-2.result.now in
    let k = c.in_ok-kind-in-Suffixed.kind in
    let found : kind_in vs (view y) ≡ Some k =
    ap (λ z. kind_in vs (view z)) (c.deref-in-Suffixed-2.ensures ∙ sym c.deref-in-Suffixed.ensures) ∙ c.in_ok-kind-in-Suffixed.ensures.kind in
    err_map c.kind_with_suffixes.result _ (HasFault vs x)
    (λ why h. suffixed_fault vs x why c.in-Suffixed.inner c.in-Suffixed.suffixes y c.deref-in-Suffixed-3.result.now k c.in-Suffixed.is
    c.deref-in-Suffixed-2.ensures c.deref-in-Suffixed-3.ensures.value found h)
    c.kind_with_suffixes.ensures.fault

pub kind_of_chain-returns-in_err-right_kind-clause-fault : goal.kind_of_chain-returns-in_err-right_kind-clause-fault
kind_of_chain-returns-in_err-right_kind-clause-fault t c =
    let p = err_from_is_err_and c.from_residual.result c.from_residual.ensures.1 in
    rw (p.1, p.2) (inl (
      c.loop-op-item.result,
      contains_at c.args.more.now c.loop-op.op-index c.loop-op-item.result c.loop-op-test.true c.loop-op-item.is,
      c.in_err-right_kind.ensures.fault,
    ))

pub kind_of_chain-returns-in_err-kind-clause-fault : goal.kind_of_chain-returns-in_err-kind-clause-fault
kind_of_chain-returns-in_err-kind-clause-fault t c =
    let p = err_from_is_err_and c.from_residual-in_err-kind.result c.from_residual-in_err-kind.ensures.1 in
    rw (p.1, p.2) (inr (refuses_here (map view_decl c.args.variables.now) (view_operand c.args.first) c.args.more.now c.loop-op.op-index
    c.loop-op-item.result c.loop-op.kind c.in_ok-right_kind.right_kind c.in_err-kind.field-0.0 c.loop-op-test.true c.loop-op-item.is
    c.loop-op.invariant.before c.in_ok-right_kind.ensures.kind c.in_err-kind.ensures.kind c.in_err-kind.ensures.refusal))

pub kind_of_chain-loop-op-preserved : goal.kind_of_chain-loop-op-preserved
kind_of_chain-loop-op-preserved t c =
    let vs = map view_decl c.args.variables.now in
    let more = c.args.more.now in
    let i = c.loop-op.op-index in
    let x = c.loop-op-item.result in
    record {
      after = operator_left vs c.loop-op.kind c.in_ok-right_kind.right_kind c.in_ok-kind.kind more i x c.loop-op-test.true c.loop-op-item.is
          c.in_ok-right_kind.ensures.kind c.in_ok-kind.ensures.kind ∙ c.loop-op.invariant.after;
      before = operator_taken vs c.args.first.kind c.loop-op.kind c.in_ok-right_kind.right_kind c.in_ok-kind.kind more i x
          c.loop-op-test.true c.loop-op-item.is c.loop-op.invariant.before c.in_ok-right_kind.ensures.kind c.in_ok-kind.ensures.kind;
    }
