use Rattle.std.proofs.Common.{◌∙◌, sym, ap, subst, List, [], ◌∷◌, ◌++◌, take}
use Rattle.std.proofs.lemmas.List.{take_more}
use Rattle.router_options.specs.declared.parts.FilterUse.{FilterUse}
use Rattle.router_daemon.specs.Uses.{SetsEach}
use Rattle.router_daemon.proofs.Entering.{sets_more}
use Rattle.router_daemon.proofs.filtering.set_each.Goals as goal

pub loop-used-preserved : goal.loop-used-preserved
loop-used-preserved g c =
    let r = c.args.router.now in
    let names = c.args.filters.now.entries in
    let uses = c.args.uses.now in
    let before : List FilterUse = take c.loop-used.used-index uses in
    let more = take_more uses c.loop-used.used-index c.used-item.result c.loop-used-test.true
    ∙ ap (λ (u : FilterUse). before ++ u ∷ []) (sym c.used-item.is) in
    record {
      legal = c.set_one.ensures.legal;
      shares = c.set_one.ensures.shares ∙ c.loop-used.invariant.shares;
      set = subst (λ (l : List FilterUse). SetsEach r c.args.direction names l c.args.pass.now c.set_one.new.pass) (sym more)
          (sets_more r c.args.direction names before c.used-item.result c.args.pass.now c.loop-used.pass c.set_one.new.pass
          c.loop-used.invariant.set c.in_ok-set_one.ensures.set);
    }
