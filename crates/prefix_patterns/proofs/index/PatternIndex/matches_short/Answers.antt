use Rattle.std.proofs.Common.{◌≡◌, Bool, Some, None, Option, List, [], sym, ap, refl, subst}
use Rattle.prefix_patterns.specs.Index.{IsIndexOf, ShortStandsFor}
use Rattle.prefix_patterns.specs.Matching.{PrefixPattern, matches_any}
use Rattle.prefix_patterns.specs.Trees.{Reached, in_bucket}
use Rattle.prefix_patterns.specs.declared.index.PatternIndex.{PatternIndex}
use Rattle.prefix_patterns.specs.declared.leaf.Leaf.{Leaf}
use Rattle.prefix_patterns.specs.declared.tree.Node.{Node}
use Rattle.prefix_patterns.specs.declared.tree.Subtree.{Subtree}
use Rattle.prefix_patterns.proofs.Reached.{at_root}
use Rattle.prefix_patterns.proofs.index.PatternIndex.matches_short.Goals as goal

short_reached : (index : PatternIndex) (nodes : List Node) (leaves : List Leaf) (prefix : List Bool) (patterns : List PrefixPattern)
    (short : Subtree) → nodes ≡ index.nodes.items → leaves ≡ index.leaves.items → index.short ≡ Some short → IsIndexOf index patterns →
    Reached nodes leaves prefix (in_bucket 256 patterns) 0 short
short_reached index nodes leaves prefix patterns short e f is h =
    let part = in_bucket 256 patterns in
    let stands = subst (λ (s : Option Subtree). ShortStandsFor index.nodes.items index.leaves.items s part) is h.short in
    rw (e, f) (at_root index.nodes.items index.leaves.items prefix part short (stands 33 refl))

no_short : (index : PatternIndex) (patterns : List PrefixPattern) → index.short ≡ None → IsIndexOf index patterns →
    in_bucket 256 patterns ≡ []
no_short index patterns is h =
    subst (λ (s : Option Subtree). ShortStandsFor index.nodes.items index.leaves.items s (in_bucket 256 patterns)) is h.short

pub walk-requires-clause-reached : goal.walk-requires-clause-reached
walk-requires-clause-reached c =
    let (patterns, h) = c.requires in (
      in_bucket 256 patterns,
      short_reached c.args.self.now c.deref.result.now c.deref-in-Some.result.now c.args.prefix.now patterns c.in-Some.short
          c.deref.ensures.value c.deref-in-Some.ensures.value c.in-Some.is h,
    )

pub returns-in-Some : goal.returns-in-Some
returns-in-Some c = λ patterns h.
    c.walk.ensures (in_bucket 256 patterns)
    (short_reached c.args.self.now c.deref.result.now c.deref-in-Some.result.now c.args.prefix.now patterns c.in-Some.short
    c.deref.ensures.value c.deref-in-Some.ensures.value c.in-Some.is h)

pub returns-in-None : goal.returns-in-None
returns-in-None c = λ patterns h. ap (matches_any c.args.prefix.now) (sym (no_short c.args.self.now patterns c.in-None.is h))
