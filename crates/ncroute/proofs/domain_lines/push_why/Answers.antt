-- What is added in steps is one text.
use Rattle.std.proofs.Common.{◌++◌, ℕ, List, ap, append_assoc, decimal, ◌∙◌}
use Rattle.std.proofs.lemmas.Result.{on_ok_weaker}
use Rattle.std.specs.Prelude.{codes}
use Rattle.ncroute.proofs.ThreeTexts.{joined}
use Rattle.ncroute.proofs.domain_lines.push_why.Goals as goal

pub returns-in_ok-extend_from_slice-in-NoNeighbour : goal.returns-in_ok-extend_from_slice-in-NoNeighbour
returns-in_ok-extend_from_slice-in-NoNeighbour c =
    let before = codes "the file of the domain has no link to node " in
    rw c.in-NoNeighbour.is (on_ok_weaker c.push_decimal.result
    (λ is. is
    ∙ ap (λ (n : ℕ). c.extend_from_slice-in-NoNeighbour.new.self.items ++ decimal n) c.from.ensures
    ∙ ap (λ (bytes : List ℕ). bytes ++ decimal c.in-NoNeighbour.node) c.in_ok-extend_from_slice-in-NoNeighbour.ensures.items
    ∙ append_assoc c.args.out.now.items before (decimal c.in-NoNeighbour.node))
    c.push_decimal.ensures.ok)

pub returns-in_ok-push_decimal-in-NoStreams : goal.returns-in_ok-push_decimal-in-NoStreams
returns-in_ok-push_decimal-in-NoStreams c =
    let said : List ℕ = c.extend_from_slice-in-NoStreams.new.self.items in
    rw c.in-NoStreams.is (joined c.extend_from_slice-in-NoStreams-2.result c.extend_from_slice-in-NoStreams-2.new.self.items
    c.push_decimal-in-NoStreams.new.out.items said c.args.out.now.items (codes "the file of the domain has a link to node ")
    (decimal c.in-NoStreams.node) (codes ", and no --link says where its streams are") c.extend_from_slice-in-NoStreams-2.ensures.items
    (c.in_ok-push_decimal-in-NoStreams.ensures.ok ∙ ap (λ (n : ℕ). said ++ decimal n) c.from-in-NoStreams.ensures)
    c.in_ok-extend_from_slice-in-NoStreams.ensures.items)
