use Rattle.std.proofs.Common.{◌≡◌, ◌++◌, length, take, drop, refl, sym, ap, ◌∙◌, arith}
use Rattle.std.proofs.lemmas.Option.{slice_get_read}
use Rattle.filter_verifier.specs.AbstractFrameView.{AbstractFrameView}
use Rattle.filter_verifier.proofs.OutStates.{passes_known}
use Rattle.filter_verifier.proofs.out_state.out_state_of_known.Goals as goal

pub returns-clause-is : goal.returns-clause-is
returns-clause-is c =
    let instrs = c.instrs-instrs.result.now in
    let is = slice_get_read instrs (length instrs) c.args.at c.index-instrs-at.result refl (rw c.instrs-instrs.ensures.value c.requires)
    c.index-instrs-at.is in
    let again = slice_get_read instrs (length instrs) c.args.at c.index-instrs-at-2.result refl (rw c.instrs-instrs.ensures.value c.requires)
    c.index-instrs-at-2.is in
    let same : c.index-instrs-at-2.result ≡ c.index-instrs-at.result = cc in
    let below = rw (c.instrs-instrs.ensures.value, c.of.ensures.value) at (sym c.are_below.ensures ∙ c.if-not-are_below.false) in
    let inside = rw same at below in
    let wide : c.args.locals.len ≡ length c.transfer.new.locals = omega (arith, c.deref_mut.ensures.len, c.transfer.auto.locals) in
    let after = c.transfer.new.locals in
    let more = drop (length after) c.args.locals.items in
    let laid = c.of_parts.ensures ∙ ap (λ s. let f : AbstractFrameView = record { stack = s; locals = take c.args.locals.len (after ++ more) } in f) c.in_ok-places.ensures.value in
    passes_known c.args.code.now c.args.size c.args.at c.args.locals.len c.args.locals.items c.deref_mut.result.now after more
    c.args.stack.now c.transfer.new.stack c.index-instrs-at.result c.of_parts.result
    c.deref_mut.ensures.value wide (rw c.instrs-instrs.ensures.value at is) inside
    (c.in_default.ensures (length c.args.code.now.instrs) c.args.at) laid
