use Rattle.std.proofs.Common.{subst, sym, arith}
use Rattle.bird_import.specs.Scopes.{IsUse, LiesOutside, end_of_block}
use Rattle.bird_import.proofs.Below.{one_more}
use Rattle.bird_import.proofs.scopes.use_outside.Goals as goal

pub loop-at-preserved : goal.loop-at-preserved
loop-at-preserved c =
    let words = c.args.words.now in
    let name = c.args.name.now in
    let declared = c.args.declared in
    let not : IsUse name words c.loop-at.at → LiesOutside declared (end_of_block words declared) c.loop-at.at → ⊥ = λ used outside.
    let there = c.if-is_outside.ensures.1 (used, subst (λ end. LiesOutside declared end c.loop-at.at) (sym c.end_behind-end.ensures) outside) in
    grind (arith, there) in
    one_more (λ k. IsUse name words k → LiesOutside declared (end_of_block words declared) k → ⊥) c.loop-at.at
    (λ k below. c.loop-at.invariant k below) not
