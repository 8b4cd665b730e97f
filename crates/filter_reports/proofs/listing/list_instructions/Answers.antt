use Rattle.std.proofs.Common.{ℕ, List, ◌++◌, ◌∙◌, length, refl, ap, sym}
use Rattle.std.proofs.lemmas.List.{append-nil}
use Rattle.std.proofs.lemmas.Option.{slice_get_read}
use Rattle.filter_reports.specs.Listing.{instruction_line, nothing_known, origin_in}
use Rattle.filter_reports.proofs.Listings.{listed_more, none_listed}
use Rattle.filter_reports.proofs.listing.list_instructions.Goals as goal

pub loop-at-init : goal.loop-at-init
loop-at-init c = none_listed c.args.code.now.instrs nothing_known (origin_in c.args.origins.now.source c.args.origins.now.places.now) c.new-out.result.items c.new-out.ensures.items

pub loop-at-preserved : goal.loop-at-preserved
loop-at-preserved c =
    let origin : ℕ → List ℕ = origin_in c.args.origins.now.source c.args.origins.now.places.now in
    let is = slice_get_read c.instrs-instr-items.result.now (length c.instrs-instr-items.result.now) c.loop-at.at c.instr-item.result refl
    c.loop-at-test.true c.instr-item.is in
    listed_more c.args.code.now.instrs nothing_known origin c.loop-at.at c.instr-item.result c.loop-at.out.items
    c.push_instruction.new.out.items (rw c.instrs-instr-items.ensures.value at is) c.loop-at.invariant
    (c.in_ok-push_instruction.ensures ∙ ap (λ (t : List ℕ). t ++ instruction_line c.loop-at.at c.instr-item.result (origin c.loop-at.at)) (sym (append-nil c.loop-at.out.items)))
