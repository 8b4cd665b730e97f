use Rattle.std.proofs.Common.{◌≡◌, ◌==◌, ◌&&◌, false, None, Some, sym, ◌∙◌, ap, arith}
use Rattle.std.proofs.lemmas.Bool.{and_left, and_right, ne_eqb}
use Rattle.bird_import.specs.Indices.{kind_at}
use Rattle.bird_import.specs.Items.{depth_past, outside_from}
use Rattle.bird_import.specs.Scopes.{ends_block}
use Rattle.bird_import.proofs.Outside.{outside_ends, outside_further}
use Rattle.bird_import.proofs.scopes.first_end.Goals as goal
use Rattle.bird_import.proofs.scopes.first_end.Goals.{else-depth-eq0-via-then-depth-eq0+else-ends_block, else-depth-eq0-via-else-depth-eq0}

pub returns-in_err-depth-clause-is : goal.returns-in_err-depth-clause-is
unfolding outside_from
returns-in_err-depth-clause-is c =
    let words = c.args.words.now in
    let not : (c.loop-at.depth == 0 && ends_block (kind_at words c.loop-at.at)) ≡ false = elim c.else-depth-eq0.branch [
      | else-depth-eq0-via-then-depth-eq0+else-ends_block w ↦ and_right (c.loop-at.depth == 0) (ends_block (kind_at words c.loop-at.at))
          (sym (ap ends_block c.kind_at-kind.ensures) ∙ sym w.ends_block.ensures ∙ w.if-ends_block.false)
      | else-depth-eq0-via-else-depth-eq0 w ↦ and_left (c.loop-at.depth == 0) (ends_block (kind_at words c.loop-at.at))
          (ne_eqb c.loop-at.depth 0 w.if-depth-eq0.false)
    ] in
    let past : None ≡ depth_past c.loop-at.depth (kind_at words c.loop-at.at) =
    sym c.in_err-depth.was ∙ c.depth_past.ensures.is ∙ ap (depth_past c.loop-at.depth) c.kind_at-kind.ensures in
    c.from_residual.ensures ∙ outside_ends ends_block c.loop-at.depth c.loop-at.at words (omega arith) not past ∙ c.loop-at.invariant.rest

pub loop-at-preserved : goal.loop-at-preserved
loop-at-preserved c =
    let words = c.args.words.now in
    let not : (c.loop-at.depth == 0 && ends_block (kind_at words c.loop-at.at)) ≡ false = elim c.else-depth-eq0.branch [
      | else-depth-eq0-via-then-depth-eq0+else-ends_block w ↦ and_right (c.loop-at.depth == 0) (ends_block (kind_at words c.loop-at.at))
          (sym (ap ends_block c.kind_at-kind.ensures) ∙ sym w.ends_block.ensures ∙ w.if-ends_block.false)
      | else-depth-eq0-via-else-depth-eq0 w ↦ and_left (c.loop-at.depth == 0) (ends_block (kind_at words c.loop-at.at))
          (ne_eqb c.loop-at.depth 0 w.if-depth-eq0.false)
    ] in
    let past : Some c.in_ok-depth.depth ≡ depth_past c.loop-at.depth (kind_at words c.loop-at.at) =
    sym c.in_ok-depth.was ∙ c.depth_past.ensures.is ∙ ap (depth_past c.loop-at.depth) c.kind_at-kind.ensures in
    record {
      rest = outside_further ends_block c.loop-at.depth c.loop-at.at c.in_ok-depth.depth words (omega arith) not past ∙ c.loop-at.invariant.rest;
      bounded = omega (arith, c.in_ok-depth.ensures.bound);
    }
