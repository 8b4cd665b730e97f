use Rattle.std.proofs.Common.{length, sym, ◌∙◌, ap, refl}
use Rattle.std.proofs.lemmas.List.{length-set}
use Rattle.std.proofs.lemmas.Option.{slice_get_read}
use Rattle.filter_verifier.specs.Sweep.{in_state_view, out_state_view}
use Rattle.filter_verifier.proofs.OutStates.{passed_inside}
use Rattle.filter_verifier.proofs.sweep.visit.Goals as goal

pub propagate-requires : goal.propagate-requires
propagate-requires c =
    let is = slice_get_read c.instrs.result.now (length c.instrs.result.now) c.args.at c.index-instrs-at.result refl
    (rw c.instrs.ensures.value c.requires.inside) c.index-instrs-at.is in
    let passed = sym c.in_ok-out_state.ensures.is ∙ ap out_state_view c.in-Passed.is in
    rw (length-set c.args.in_states.now.items c.args.at c.replace-in_state.new.dest, c.requires.wide, c.of.ensures.value)
    (passed_inside c.args.code.now c.args.size c.args.at (in_state_view c.replace-in_state.result)
    c.index-instrs-at.result c.in-Passed.next (rw c.instrs.ensures.value at is) passed)
