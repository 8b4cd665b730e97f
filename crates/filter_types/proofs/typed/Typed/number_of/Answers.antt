use Rattle.std.proofs.Common.{◌≡◌, length, map, ap, sym, arith}
use Rattle.std.proofs.lemmas.List.{length-map}
use Rattle.filter_syntax.specs.SyntaxCommands.{view_decl}
use Rattle.filter_types.proofs.typed.Typed.number_of.Goals as goal

pub overflow_cast-result : goal.overflow_cast-result
overflow_cast-result c =
    let few = c.self.invariant.declared.few in
    let count : length c.decls.result.now ≡ length (map view_decl c.decls.result.now) = sym (length-map c.decls.result.now view_decl) in
    omega (arith, c.number_of.ensures.limit, ap length c.decls.ensures.view)
