use Rattle.std.proofs.Common.{◌≡◌, ℕ, ◌+◌, Some, [], ◌∷◌, ◌++◌, length, slice_get, sym}
use Rattle.std.proofs.Common.{ap, ◌∙◌, refl, subst, arith, append_assoc, append-nil}
use Rattle.std.proofs.lemmas.List.{length-append}
use Rattle.std.proofs.lemmas.Option.{slice_get_read}
use Rattle.prefix_patterns.specs.Index.{IsChain}
use Rattle.prefix_patterns.specs.Trees.{IsLeafOf}
use Rattle.prefix_patterns.proofs.Chains.{over, read_link, step_at}
use Rattle.prefix_patterns.proofs.index.fill_leaf.Goals as goal

pub bounds-patterns-index : goal.bounds-patterns-index
bounds-patterns-index c =
    let (done, rest, chain, items, count, is) = c.loop-at.invariant in
    let s = step_at c.args.patterns.now c.args.chains.now.next.items c.loop-at.at c.from-index.result rest c.loop-at-test.true
    c.from-index.ensures chain in
    s.inside

pub index-at-requires-in-loop-at : goal.index-at-requires-in-loop-at
index-at-requires-in-loop-at c =
    let (done, rest, chain, items, count, is) = c.loop-at.invariant in
    let s = step_at c.args.patterns.now c.args.chains.now.next.items c.loop-at.at c.from-index.result rest c.loop-at-test.true
    c.from-index.ensures chain in
    omega (arith, s.within, c.args.chains.now.next.ok.0)

pub loop-at-smaller : goal.loop-at-smaller
loop-at-smaller c =
    let (done, rest, chain, items, count, is) = c.loop-at.invariant in
    let s = step_at c.args.patterns.now c.args.chains.now.next.items c.loop-at.at c.from-index.result rest c.loop-at-test.true
    c.from-index.ensures chain in
    let here = read_link c.args.chains.now.next.items c.from-index.result c.index-at-in-loop-at.result.now
    c.index-at-in-loop-at.ensures s.within in
    omega (arith, here, s.back, c.from-index.ensures)

pub loop-at-preserved : goal.loop-at-preserved
loop-at-preserved c =
    let (done, rest, chain, items, count, is) = c.loop-at.invariant in
    let patterns = c.args.patterns.now in
    let next = c.args.chains.now.next.items in
    let index = c.from-index.result in
    let s = step_at patterns next c.loop-at.at index rest c.loop-at-test.true c.from-index.ensures chain in
    let p = c.index-patterns-index.result in
    let found : slice_get patterns index ≡ Some p = slice_get_read patterns (length patterns) index p refl s.inside
    c.index-patterns-index.is in
    let there : slice_get patterns index ≡ Some s.first = s.there in
    let same : s.first ≡ p = cc in
    let here = read_link next index c.index-at-in-loop-at.result.now c.index-at-in-loop-at.ensures s.within in (
      done ++ p ∷ [],
      s.rest,
      subst (λ (place : ℕ). IsChain patterns next place s.rest) (sym here) s.goes_on,
      append_assoc done (p ∷ []) s.rest
          ∙ ap (λ q. done ++ q ∷ s.rest) (sym same)
          ∙ ap (λ xs. done ++ xs) (sym s.is)
          ∙ items,
      length-append done (p ∷ []) ∙ ap (λ n. n + 1) count,
      c.put.ensures done count is,
    )

pub returns : goal.returns
returns c = λ yes.
    let (done, rest, chain, items, count, is) = c.loop-at.invariant in
    let none = over c.args.patterns.now c.args.chains.now.next.items c.loop-at.at rest (omega arith) chain in
    subst (IsLeafOf c.loop-at.leaf) (sym (append-nil done) ∙ ap (λ xs. done ++ xs) (sym none) ∙ items) is
