use Rattle.std.proofs.Common.{◌<◌, ℕ, List, ◌++◌, ◌∙◌, length, refl, ap, arith}
use Rattle.std.proofs.lemmas.Option.{slice_get_read}
use Rattle.filter_verifier.proofs.Sweeps.{state_is}
use Rattle.filter_verifier.specs.InStateView.{InStateView}
use Rattle.filter_reports.specs.Listing.{instruction_line, known_before, origin_in, state_text}
use Rattle.filter_reports.proofs.Listings.{listed_more, none_listed}
use Rattle.filter_reports.proofs.listing.list_visited.Goals as goal

pub loop-at-init : goal.loop-at-init
loop-at-init c = none_listed c.args.code.now.instrs (known_before c.args.code.now c.args.size)
    (origin_in c.args.origins.now.source c.args.origins.now.places.now) c.new-out.result.items c.new-out.ensures.items

pub loop-at-preserved : goal.loop-at-preserved
loop-at-preserved c =
    let origin : ℕ → List ℕ = origin_in c.args.origins.now.source c.args.origins.now.places.now in
    let inside : c.loop-at.at < length c.args.in_states.now = c.loop-at-test.true in
    let below : c.loop-at.at < length c.instrs-instrs.result.now =
    rw c.instrs-instrs.ensures.value (omega (arith, inside, c.requires.within)) in
    let is = slice_get_read c.instrs-instrs.result.now (length c.instrs-instrs.result.now) c.loop-at.at c.index-instrs-at.result refl
    below c.index-instrs-at.is in
    let here = state_is c.args.in_states.now c.loop-at.at c.index-in_states-at.result inside c.index-in_states-at.is
    ∙ c.requires.known c.loop-at.at inside in
    listed_more c.args.code.now.instrs (known_before c.args.code.now c.args.size) origin c.loop-at.at c.index-instrs-at.result
    c.loop-at.out.items c.push_instruction.new.out.items (rw c.instrs-instrs.ensures.value at is) c.loop-at.invariant
    (c.in_ok-push_instruction.ensures ∙ ap (λ (t : List ℕ). t ++ instruction_line c.loop-at.at c.index-instrs-at.result (origin c.loop-at.at))
    (c.in_ok-push_state.ensures ∙ ap (λ (s : InStateView). c.loop-at.out.items ++ state_text s) here))
