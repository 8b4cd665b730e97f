-- One node more.
use Rattle.std.proofs.Common.{◌++◌, [], List, ℕ, refl, subst, sym, ap, ◌∙◌, append-nil}
use Rattle.operator_cmds.specs.Looks.{texts_below}
use Rattle.operator_cmds.proofs.Growing.{one_text_more}
use Rattle.sha2.specs.Hashers.{Holds256}
use Rattle.domain_files.specs.PlanTexts.{node_lines, size_line}
use Rattle.domain_files.proofs.digest.domain_digest.Goals as goal

pub loop-u-init : goal.loop-u-init
unfolding texts_below
loop-u-init c =
    subst (λ (bytes : List ℕ). Holds256 c.update.new.self bytes)
    (c.as_slice.ensures.value ∙ c.in_ok-push_size.ensures ∙ ap (λ (bytes : List ℕ). bytes ++ size_line c.size.result) c.new-first.ensures.items
    ∙ ap size_line c.size.ensures.value ∙ sym (append-nil (size_line c.args.plan.now.size)))
    (c.update.ensures [] c.new-hasher.ensures)

pub loop-u-preserved : goal.loop-u-preserved
loop-u-preserved c =
    let size = size_line c.args.plan.now.size in
    let lines = node_lines c.args.plan.now in
    let so_far = size ++ texts_below c.loop-u.u lines in
    subst (λ (bytes : List ℕ). Holds256 c.digest_node.new.hasher bytes)
    (one_text_more lines c.loop-u.u size so_far (so_far ++ lines c.loop-u.u) refl refl)
    (c.in_ok-digest_node.ensures so_far c.loop-u.invariant)
