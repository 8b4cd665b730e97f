use Rattle.std.proofs.Common.{◌≡◌, ◌↔◌, ◌+◌, ◌<◌, List, length, AllPairs, Contains, refl, sym, ◌∙◌, ap, subst, append-nil, arith}
use Rattle.bird_import.specs.Indices.{kind_at}
use Rattle.bird_import.specs.Items.{IsDefinitionIn, blocks_before, blocks_behind, definitions_before, definitions_in}
use Rattle.bird_import.specs.declared.items.Definition.{Definition}
use Rattle.bird_import.proofs.Listed.{are_in_order, are_listed}
use Rattle.bird_import.proofs.Walked.{blocks_further, one_defined}
use Rattle.bird_import.proofs.items.find_definitions.Goals as goal
use Rattle.bird_import.proofs.items.find_definitions.Goals.{in-Some+in_ok-push, in_default}

pub loop-at-init : goal.loop-at-init
unfolding blocks_before definitions_before
loop-at-init c = record { found = c.new-found.ensures.items; depth = refl; bounded = omega arith }

pub loop-at-preserved : goal.loop-at-preserved
loop-at-preserved c =
    let words = c.args.words.now in
    let at = c.loop-at.at in
    let found : c.match-definition_at.found.items ≡ definitions_before words (at + 1) = elim c.match-definition_at.branch [
      | in-Some+in_ok-push w ↦ ap (λ v. v.items) w.found-is ∙ w.in_ok-push.ensures.items
          ∙ one_defined words at c.loop-at.depth c.loop-at.found.items _ w.in-Some.ensures c.loop-at.invariant.depth c.loop-at.invariant.found
      | in_default w ↦ ap (λ v. v.items) w.found-is ∙ sym (append-nil c.loop-at.found.items)
          ∙ one_defined words at c.loop-at.depth c.loop-at.found.items _ w.in_default.ensures c.loop-at.invariant.depth c.loop-at.invariant.found
    ] in
    let depth : c.blocks_behind-depth.result ≡ blocks_before words (at + 1) =
    c.blocks_behind-depth.ensures.is ∙ ap (blocks_behind c.loop-at.depth) c.kind_at.ensures
    ∙ ap (λ n. blocks_behind n (kind_at words at)) c.loop-at.invariant.depth ∙ sym (blocks_further words at) in
    record { found = found; depth = depth; bounded = omega (arith, c.blocks_behind-depth.ensures.bound) }

pub returns-clause-each : goal.returns-clause-each
returns-clause-each c = λ definition.
    let words = c.args.words.now in
    let end : c.loop-at.at ≡ length words = omega arith in
    let all : c.loop-at.found.items ≡ definitions_in words = c.loop-at.invariant.found ∙ ap (definitions_before words) end in
    subst (λ (list : List Definition). Contains list definition ↔ IsDefinitionIn words definition) (sym all) (are_listed words definition)

pub returns-clause-order : goal.returns-clause-order
returns-clause-order c =
    let words = c.args.words.now in
    let end : c.loop-at.at ≡ length words = omega arith in
    let all : c.loop-at.found.items ≡ definitions_in words = c.loop-at.invariant.found ∙ ap (definitions_before words) end in
    subst (λ (list : List Definition). AllPairs (λ one other. one.name < other.name) list) (sym all) (are_in_order words)
