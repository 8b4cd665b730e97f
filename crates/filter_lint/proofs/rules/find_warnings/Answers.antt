use Rattle.std.proofs.Common.{ℕ, ◌∙◌, ap, length, refl, sym, subst}
use Rattle.filter_code.specs.CodeView.{CodeView}
use Rattle.filter_diff.specs.Parts.{IsEnough}
use Rattle.filter_diff.specs.Reaching.{NeverFaults}
use Rattle.filter_lint.specs.Watching.{is_watched, watched_places}
use Rattle.filter_lint.proofs.Tried.{said_is_so, same_reach}
use Rattle.filter_lint.proofs.Watched.{length-watched}
use Rattle.filter_lint.proofs.rules.find_warnings.Goals as goal

-- the search is asked of each instruction
pub reach-requires-clause-watched : goal.reach-requires-clause-watched
reach-requires-clause-watched c =
    ap length c.as_slice.ensures.value ∙ (ap length c.in_ok-watched.ensures
    ∙ (length-watched (is_watched c.args.source.now) (length c.args.source.now.program.instrs)
    ∙ ap (λ (p : CodeView). length p.instrs) (sym c.code.ensures)))

pub returns-clause-found : goal.returns-clause-found
returns-clause-found c =
    let source = c.args.source.now in record {
      reach = c.in_ok-reached.reached;
      is_reach = same_reach c.code.result.now source.program c.size.result source.size c.as_slice.result.now (watched_places source)
          c.in_ok-reached.reached c.code.ensures c.size.ensures (c.as_slice.ensures.value ∙ c.in_ok-watched.ensures) c.in_ok-reached.ensures.found;
      order = c.in_ok-order.order;
      asked = c.in_ok-order.ensures.asked;
      is_order = c.in_ok-order.ensures.found;
      found_is = c.in_ok-found.ensures;
      complete_is = refl;
      ordered_is = c.is_decided_order.ensures;
    }

pub returns-clause-sound : goal.returns-clause-sound
returns-clause-sound c =
    let source = c.args.source.now in
    said_is_so source c.as_slice.result.now c.in_ok-reached.reached c.in_ok-order.order
    (same_reach c.code.result.now source.program c.size.result source.size c.as_slice.result.now c.as_slice.result.now
    c.in_ok-reached.reached c.code.ensures c.size.ensures refl c.in_ok-reached.ensures.found)
    c.in_ok-order.ensures.found
    c.in_ok-found.found.items c.in_ok-found.ensures

pub returns-clause-decided : goal.returns-clause-decided
returns-clause-decided c enough never =
    let source = c.args.source.now in
    c.in_ok-reached.ensures.decided (subst (λ (n : ℕ). IsEnough n c.args.limit) (sym c.size.ensures) enough)
    (subst (λ (p : CodeView). NeverFaults p c.size.result) (sym c.code.ensures)
    (subst (λ (n : ℕ). NeverFaults source.program n) (sym c.size.ensures) never))
