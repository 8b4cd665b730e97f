use Rattle.std.proofs.Common.{◌≡◌, ℕ, ◌<◌, false, get_or}
use Rattle.std.specs.Str.{bytes_eq}
use Rattle.filter_syntax.specs.declared.tree.decl.Decl.{Decl}
use Rattle.filter_types.proofs.variables.number_of.Given as goal

-- none of the variables before has the name
abbrev pub invariant-loop-number : goal.invariant-loop-number
invariant-loop-number l = (k : ℕ) (d : Decl) → k < l.number → bytes_eq (get_or l.variables k d).name.items l.name ≡ false
