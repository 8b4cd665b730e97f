use Rattle.std.specs.Prelude.{◌≡◌, ◌<◌, ℕ, IfSome, None, Some, false, map, slice_get, true}
use Rattle.filter_syntax.specs.SyntaxCommands.{commands_of, view_command}
use Rattle.filter_syntax.specs.declared.tree.decl.Decl.{Decl}
use Rattle.bird_import.specs.Unassigned.{reads_first_in}
use Rattle.bird_import.proofs.unset.first_unset.Given as goal

-- where none was found, each variable so far is assigned before it is read; what was found may be read before that
abbrev pub invariant-loop-variable : goal.invariant-loop-variable
invariant-loop-variable l = record {
  none : l.found ≡ None → (k : ℕ) (decl : Decl) → k < l.variable → slice_get l.variables k ≡ Some decl
      → reads_first_in decl.name.items (commands_of (map view_command l.body)) ≡ false;
  some : IfSome l.found (λ unset. (decl : Decl) × (slice_get l.variables unset.variable ≡ Some decl)
      × (reads_first_in decl.name.items (commands_of (map view_command l.body)) ≡ true));
}
