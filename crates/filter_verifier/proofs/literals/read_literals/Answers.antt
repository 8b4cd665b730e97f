-- What is read next carries what fits, too.
use Rattle.std.proofs.Common.{◌≡◌, ℕ, ◌<◌, List, length, slice_index_or, subst, sym, ◌∙◌, arith}
use Rattle.std.proofs.lemmas.Option.{slice_get-get_or, get_or_from_slice_get}
use borrow.Author.Count.{below_more}
use Rattle.filter_code.specs.declared.instruction.Instr.{Instr}
use Rattle.filter_verifier.specs.Safe.{HasLiteral}
use Rattle.filter_verifier.proofs.literals.read_literals.Goals as goal

-- an item of a list does not depend on what is answered past the end
same_item : (xs : List Instr) (k : ℕ) (x other : Instr) → k < length xs → slice_index_or xs k other ≡ slice_index_or xs k x
same_item xs k x other h = get_or_from_slice_get xs k (slice_index_or xs k x) other (slice_get-get_or xs k x h)

pub loop-instr-preserved : goal.loop-instr-preserved
loop-instr-preserved c =
    let inside : c.loop-instr.instr-index < length c.args.instrs.now = omega arith in
    below_more (λ k. (other : Instr) → HasLiteral (slice_index_or c.args.instrs.now k other))
    c.loop-instr.instr-index c.loop-instr.invariant
    λ other. subst HasLiteral (c.instr-item.is
    ∙ sym (same_item c.args.instrs.now c.loop-instr.instr-index c.instr-item.result other inside))
    c.read_literal.ensures

pub returns : goal.returns
returns c = λ k other h. c.loop-instr.invariant k (omega arith) other
