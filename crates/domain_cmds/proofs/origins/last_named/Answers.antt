-- One filter more.
use Rattle.std.proofs.Common.{◌≡◌, true, false, sym, ap, ◌∙◌}
use Rattle.std.specs.Str.{bytes_eq}
use Rattle.domain_cmds.specs.Origins.{OriginView}
use Rattle.domain_cmds.proofs.Naming.{one_named}
use Rattle.domain_cmds.proofs.origins.last_named.Goals as goal
use Rattle.domain_cmds.proofs.origins.last_named.Goals.{then-eq, else-eq}

pub loop-place-preserved : goal.loop-place-preserved
loop-place-preserved c =
    let all = c.args.all.now in
    let place = c.loop-place.place in
    let found = c.loop-place.found in
    let one = c.index-all-place.result in
    let name = c.args.name.now in
    let same : c.eq.result ≡ bytes_eq one.name name =
    c.eq.ensures ∙ ap (λ text. bytes_eq text name) (c.as_slice.ensures.value ∙ ap (λ (o : OriginView). o.name) c.origin.view_is) in
    elim c.if-eq.branch [
      | then-eq w ↦ w.found-is ∙ one_named all place one name found true c.loop-place-test.true c.index-all-place.is (sym same ∙ w.if-eq.true)
          c.loop-place.invariant
      | else-eq w ↦ w.found-is ∙ one_named all place one name found false c.loop-place-test.true c.index-all-place.is (sym same ∙ w.if-eq.false)
          c.loop-place.invariant
    ]
