-- Variables that a filter may read before it assigns them: they are void in BIRD 2.0.12 then, and 0 here.
use Rattle.std.specs.Prelude.{◌≡◌, ◌&&◌, ◌||◌, not, ℕ, Bool, true, false, List, [], ◌∷◌, Some, slice_get}
use Rattle.std.specs.Str.{bytes_eq}
use Rattle.filter_syntax.specs.Syntax.{ExprView, name, group, negation, binary, member, suffixed}
use Rattle.filter_syntax.specs.declared.tree.op.Op.{Op}
use Rattle.filter_syntax.specs.SyntaxCommands.{CommandView, CommandsView, PartsView, DeclView, TargetView, to_name, has_ranges}
use Rattle.filter_syntax.specs.SyntaxCommands.{empty, block, if_then, if_else, case, assign, accept, reject, no_commands, command_then}
use Rattle.filter_syntax.specs.SyntaxCommands.{no_parts, part_then}
use Rattle.filter_syntax.specs.SyntaxText.{FilterView}

-- an expression reads a variable
abbrev pub reads : List ℕ → ExprView → Bool
reads variable (name text) = bytes_eq text variable
reads variable (group inner) = reads variable inner
reads variable (negation inner) = reads variable inner
reads variable (binary op left right) = reads variable left || reads variable right
reads variable (member op left set) = reads variable left
reads variable (suffixed inner suffix) = reads variable inner
reads variable other = false

-- one of the further operands of a chain does
abbrev pub reads_among : List ℕ → List (ℕ × Op × ExprView) → Bool
reads_among variable [] = false
reads_among variable (operand ∷ operands) = reads variable operand.2 || reads_among variable operands

-- a variable is what an assignment sets
abbrev pub is_set_by : List ℕ → TargetView → Bool
is_set_by variable (to_name text) = bytes_eq text variable
is_set_by variable other = false

-- one of the parts of a `case` is that of `else`
abbrev pub has_else : PartsView → Bool
has_else no_parts = false
has_else (part_then label _ more) = not (has_ranges label) || has_else more

-- On each way through a command that goes on behind it, a variable is assigned. No way goes on behind `accept` and `reject`.
abbrev mutual
  pub assigns : List ℕ → CommandView → Bool
  assigns variable empty = false
  assigns variable (block body) = assigns_in variable body
  assigns variable (if_then test chosen) = false
  assigns variable (if_else test chosen other) = assigns variable chosen && assigns variable other
  assigns variable (case argument parts) = has_else parts && assigns_in_parts variable parts
  assigns variable (assign target value) = is_set_by variable target
  assigns variable (accept has_text) = true
  assigns variable (reject has_text) = true

  -- so it is through commands one after another
  pub assigns_in : List ℕ → CommandsView → Bool
  assigns_in variable no_commands = false
  assigns_in variable (command_then first more) = assigns variable first || assigns_in variable more

  -- and through each part of a `case`
  pub assigns_in_parts : List ℕ → PartsView → Bool
  assigns_in_parts variable no_parts = true
  assigns_in_parts variable (part_then label commands more) = assigns_in variable commands && assigns_in_parts variable more

-- On some way through a command a variable is read, and not assigned before.
abbrev mutual
  pub reads_first : List ℕ → CommandView → Bool
  reads_first variable empty = false
  reads_first variable (block body) = reads_first_in variable body
  reads_first variable (if_then test chosen) = reads variable test || reads_first variable chosen
  reads_first variable (if_else test chosen other) = reads variable test || (reads_first variable chosen || reads_first variable other)
  reads_first variable (case argument parts) = reads variable argument || reads_first_in_parts variable parts
  reads_first variable (assign target value) = reads variable value
  reads_first variable (accept has_text) = false
  reads_first variable (reject has_text) = false

  -- so it is through commands one after another
  pub reads_first_in : List ℕ → CommandsView → Bool
  reads_first_in variable no_commands = false
  reads_first_in variable (command_then first more) =
      reads_first variable first || (not (assigns variable first) && reads_first_in variable more)

  -- and through a part of a `case`
  pub reads_first_in_parts : List ℕ → PartsView → Bool
  reads_first_in_parts variable no_parts = false
  reads_first_in_parts variable (part_then label commands more) =
      reads_first_in variable commands || reads_first_in_parts variable more

-- a filter may read its variable of this number before it assigns it: of one name
abbrev pub MayReadUnset : FilterView → ℕ → DeclView → Type 0
MayReadUnset filter variable decl = (slice_get filter.decls variable ≡ Some decl) × (reads_first_in decl.name filter.body ≡ true)

-- a filter assigns each of its variables before it reads it
abbrev pub AreAssigned : FilterView → Type 0
AreAssigned filter =
    (variable : ℕ) (decl : DeclView) → slice_get filter.decls variable ≡ Some decl → reads_first_in decl.name filter.body ≡ false
