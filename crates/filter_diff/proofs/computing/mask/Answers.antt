use Rattle.std.proofs.Common.{◌≡◌, ◌∷◌, length, sym, subst, arith}
use Rattle.filter_code.specs.declared.instruction.Instr.TheVariants as instr
use Rattle.filter_diff.specs.Symbols.{Puts, kept_address, value_at}
use Rattle.filter_diff.specs.declared.symbol.SymbolicValue.{SymbolicValue}
use Rattle.filter_diff.proofs.Addresses.{masks_less, masks_more}
use Rattle.filter_diff.proofs.computing.mask.Goals as goal

pub returns-then-kept-bits : goal.returns-then-kept-bits
returns-then-kept-bits c route of program =
    let long : length route.net ≡ c.args.class.now.len = of.long in
    subst (λ (s : SymbolicValue). Puts program (instr.Mask c.args.bits) route (λ rest. value_at route s ∷ rest) (kept_address c.in-OwnIp.kept route)) (sym c.in-OwnIp.is)
    (masks_more program route c.in-OwnIp.kept c.args.bits (omega arith) of.fits (omega arith) (omega arith))

pub returns-else-kept-bits : goal.returns-else-kept-bits
returns-else-kept-bits c route of program =
    let long : length route.net ≡ c.args.class.now.len = of.long in
    subst (λ (s : SymbolicValue). Puts program (instr.Mask c.args.bits) route (λ rest. value_at route s ∷ rest) (value_at route c.kept.result)) (sym c.in-OwnIp.is)
    (masks_less program route c.in-OwnIp.kept c.args.bits _ (omega arith) of.fits (omega arith) (c.kept.ensures route of))
