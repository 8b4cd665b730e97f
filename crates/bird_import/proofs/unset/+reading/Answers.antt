use Rattle.std.proofs.Common.{◌∙◌, is_some, refl, sym, ap}
use Rattle.filter_syntax.specs.Syntax.{view, view_more}
use Rattle.bird_import.specs.Unassigned.{reads, reads_among}
use Rattle.bird_import.proofs.Unassigned.{none_left, one_left, or_here, or_next, reads_chain, reads_suffixed, view_chain, view_suffixed}
use Rattle.bird_import.proofs.unset.+reading.Goals as goal

pub read_among-returns-in-Some : goal.read_among-returns-in-Some
read_among-returns-in-Some t c =
    let v = c.args.variable.now in
    let xs = c.args.operands.now in
    let i = c.loop-operand.operand-index in
    let x = c.operand-item.result in
    or_here (reads v (view x.2)) _ _
    (one_left (λ p. (p.0, p.1, view p.2)) (reads_among v) xs i x _ c.loop-operand-test.true c.operand-item.is c.loop-operand.invariant)
    (sym (ap is_some c.in-Some.is) ∙ c.read_by.ensures)

pub read_among-loop-operand-preserved : goal.read_among-loop-operand-preserved
read_among-loop-operand-preserved t c =
    let v = c.args.variable.now in
    let xs = c.args.operands.now in
    let i = c.loop-operand.operand-index in
    let x = c.operand-item.result in
    or_next (reads v (view x.2)) _ _
    (one_left (λ p. (p.0, p.1, view p.2)) (reads_among v) xs i x _ c.loop-operand-test.true c.operand-item.is c.loop-operand.invariant)
    (sym (ap is_some c.in_default.is) ∙ c.read_by.ensures)

pub read_among-returns : goal.read_among-returns
read_among-returns t c =
    let v = c.args.variable.now in
    sym (none_left (λ p. (p.0, p.1, view p.2)) (reads_among v) c.args.operands.now c.loop-operand.operand-index _ c.loop-operand-test.false
    c.loop-operand.invariant)

pub read_by-returns-in-Suffixed : goal.read_by-returns-in-Suffixed
read_by-returns-in-Suffixed t c =
    let v = c.args.variable.now in
    let inner = c.deref-in-Suffixed.result.now in
    c.read_by-in-Suffixed.ensures
    ∙ sym (ap (reads v) (view_suffixed c.args.expr.now c.in-Suffixed.inner c.in-Suffixed.field-1 inner c.in-Suffixed.is c.deref-in-Suffixed.ensures)
    ∙ reads_suffixed v (view inner) c.in-Suffixed.field-1.items)

pub read_by-returns-in-Some : goal.read_by-returns-in-Some
read_by-returns-in-Some t c =
    let v = c.args.variable.now in
    let left = c.deref-in-Chain.result.now in
    let others = c.in-Chain.others.items in
    or_here (reads v (view left)) (reads_among v (view_more others)) _
    (ap (reads v) (view_chain c.args.expr.now c.in-Chain.left c.in-Chain.others left others c.in-Chain.is c.deref-in-Chain.ensures refl)
    ∙ reads_chain v (view left) (view_more others))
    (sym (ap is_some c.in-Some.is) ∙ c.read_by-in-Chain.ensures)

pub read_by-returns-in-None : goal.read_by-returns-in-None
read_by-returns-in-None t c =
    let v = c.args.variable.now in
    let left = c.deref-in-Chain.result.now in
    let others = c.in-Chain.others.items in
    c.read_among.ensures ∙ ap (λ xs. reads_among v (view_more xs)) c.as_slice-in-None.ensures.value
    ∙ sym (or_next (reads v (view left)) (reads_among v (view_more others)) _
    (ap (reads v) (view_chain c.args.expr.now c.in-Chain.left c.in-Chain.others left others c.in-Chain.is c.deref-in-Chain.ensures refl)
    ∙ reads_chain v (view left) (view_more others))
    (sym (ap is_some c.in-None.is) ∙ c.read_by-in-Chain.ensures))
