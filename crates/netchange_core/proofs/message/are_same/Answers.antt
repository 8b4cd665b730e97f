use Rattle.std.proofs.Common.{◌≤◌, length, arith, ext_get_or, refl}
use Rattle.netchange_core.specs.declared.message.Message.{Message}
use Rattle.netchange_core.proofs.message.are_same.Goals as goal

pub returns : goal.returns
returns c =
    let zero : Message = record { dest = 0; dist = 0 } in
    let short : length c.args.one.now ≤ c.loop-i.i = omega arith in (
      (λ _. ext_get_or zero c.args.one.now c.args.two.now (omega arith)
          (λ k h. c.loop-i.invariant k zero (omega arith))),
      λ _. refl,
    )
