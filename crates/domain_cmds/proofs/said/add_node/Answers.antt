-- The effect of which distances come to these, or one more.
use Rattle.std.proofs.Common.{◌≡◌, ◌<◌, ◌≤◌, List, [], ◌∷◌, ◌++◌, length, get_or, slice_set, true, sym, ap, ◌∙◌, arith}
use Rattle.std.proofs.lemmas.List.{get_or_default}
use Rattle.std.proofs.lemmas.Result.{on_ok_weaker}
use Rattle.std.specs.Cmp.Lexicographic.{bytes_decides}
use Rattle.std.specs.Str.{bytes_eq}
use Rattle.domain_reports.specs.declared.filter.Effect.{Effect}
use Rattle.domain_cmds.proofs.Joining.{begins, joins, none_further}
use Rattle.domain_cmds.proofs.said.add_node.Goals as goal

pub returns-then-comes_to : goal.returns-then-comes_to
returns-then-comes_to c =
    let effects = c.args.effects.now.items in
    let k = c.loop-k.k in
    let these = c.args.distances.items in
    let one = c.index_mut.result.now in
    let short : k < length effects = omega (arith, c.loop-k-test.true, c.len-k-end.ensures, c.args.effects.now.ok.0) in
    let read : one ≡ get_or effects k one = c.index_mut.ensures.value ∙ ap (λ (l : List Effect). get_or l k one) c.loop-k.invariant.same in
    let seen : c.index.result.now ≡ get_or effects k one =
    c.index.ensures ∙ ap (λ (l : List Effect). get_or l k c.index.result.now) c.loop-k.invariant.same
    ∙ get_or_default effects k c.index.result.now one short in
    let test : bytes_eq one.distances.items these ≡ true =
    ap (λ (e : Effect). bytes_eq e.distances.items these) (read ∙ sym seen)
    ∙ ap (bytes_eq c.index.result.now.distances.items) (sym c.as_slice.ensures.value) ∙ sym c.comes_to.ensures ∙ c.if-comes_to.true in
    on_ok_weaker c.join.result
    (λ more. joins effects k one c.join.new.effect these c.args.v (slice_set c.loop-k.effects.items k c.join.new.effect) short read
    ((bytes_decides one.distances.items these).0 test) c.loop-k.invariant.none more
    (ap (λ (l : List Effect). slice_set l k c.join.new.effect) c.loop-k.invariant.same))
    c.join.ensures

pub loop-k-preserved : goal.loop-k-preserved
loop-k-preserved c =
    let effects = c.args.effects.now.items in
    let k = c.loop-k.k in
    let these = c.args.distances.items in
    let one = c.index.result.now in
    let short : k < length effects = omega (arith, c.loop-k-test.true, c.len-k-end.ensures, c.args.effects.now.ok.0) in
    record {
      none = none_further effects k one these short (c.index.ensures ∙ ap (λ (l : List Effect). get_or l k one) c.loop-k.invariant.same)
          (ap (bytes_eq one.distances.items) (sym c.as_slice.ensures.value) ∙ sym c.comes_to.ensures ∙ c.if-comes_to.false) c.loop-k.invariant.none;
      same = c.loop-k.invariant.same;
    }

pub returns : goal.returns
returns c =
    let effects = c.args.effects.now.items in
    let all : length effects ≤ c.loop-k.k = omega (arith, c.loop-k-test.false, c.len-k-end.ensures, c.args.effects.now.ok.0) in
    begins effects c.loop-k.k c.in_ok-effect.effect c.args.distances.items c.args.v c.push.new.self.items all c.loop-k.invariant.none
    c.in_ok-effect.ensures
    (c.in_ok-push.ensures.items ∙ ap (λ (l : List Effect). l ++ c.in_ok-effect.effect ∷ []) c.loop-k.invariant.same)
