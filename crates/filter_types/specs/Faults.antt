-- The faults of a filter's names and kinds, each with its place. They are those of the parts of its tree. A part has a fault of its own
-- where the parts in it have kinds that it does not take, or where its name, its label or its declaration is not fit. (Which faults there
-- are, as the codes, is this project's own choice.)
use Rattle.std.specs.Prelude.{◌≡◌, ◌≢◌, ◌⊎◌, ◌+◌, ℕ, Some, None, List, [], ◌∷◌, ◌++◌, map, flat_map, take, slice_get, Contains, Vec}
use Rattle.std.specs.declared.alloc.Global.{Global}
use Rattle.filter_syntax.specs.Placed.{Kept, joined}
use Rattle.filter_syntax.specs.Placed.{command_kept, decl_kept}
use Rattle.filter_syntax.specs.Places.{expr_place}
use Rattle.filter_syntax.specs.Places.{body_of, decls_of}
use Rattle.filter_syntax.specs.Syntax.{ExprView, chain_of, suffixes_of, view, view_members, view_more}
use Rattle.filter_syntax.specs.SyntaxCommands.{DeclView, view_decl, view_label, view_target}
use Rattle.filter_syntax.specs.declared.tree.command.Command.{Command}
use Rattle.filter_syntax.specs.declared.tree.command.Command.TheOpen.{Command-F}
use Rattle.filter_syntax.specs.declared.tree.command.Command.TheViews.{roll-Command}
use Rattle.filter_syntax.specs.declared.tree.command.Label.{Label}
use Rattle.filter_syntax.specs.declared.tree.command.Target.{Target}
use Rattle.filter_syntax.specs.declared.tree.command.Target.TheVariants as target
use Rattle.filter_syntax.specs.declared.tree.decl.Decl.{Decl}
use Rattle.filter_syntax.specs.declared.tree.decl.Kind.{Kind}
use Rattle.filter_syntax.specs.declared.tree.expr.Expr.{Expr}
use Rattle.filter_syntax.specs.declared.tree.expr.Expr.TheOpen.{Expr-F}
use Rattle.filter_syntax.specs.declared.tree.expr.Expr.TheViews.{roll-Expr}
use Rattle.filter_syntax.specs.declared.tree.filter.Filter.{Filter}
use Rattle.filter_syntax.specs.declared.tree.op.Op.{Op}
use Rattle.filter_syntax.specs.declared.tree.op.Suffix.{Suffix}
use Rattle.filter_types.specs.Codes.{expected_of}
use Rattle.filter_syntax.specs.Surroundings.{variable_limit}
use Rattle.filter_types.specs.Kinds.{kind_in, kind_named, target_kind}
use Rattle.filter_types.specs.Labels.{AreAllApart, label_ranges}
use Rattle.filter_types.specs.Refusals.{OperandView, label_place, member_refusal, operator_refusal, suffix_refusal, wrong_kind}
use Rattle.filter_types.specs.Table.{argument_kind, condition_kind, in_set, negated, operator, suffixed_by}
use Rattle.filter_types.specs.declared.fault.ExpectedKind.TheVariants as expected
use Rattle.filter_types.specs.declared.fault.TypeFault.{TypeFault}
use Rattle.filter_types.specs.declared.fault.TypeFault.TheVariants as fault

-- an operand of this tree, which begins at a place, has a kind that is refused, and this is what is said of it
pub record IsUnfit (variables : List DeclView) (operand : ExprView) (at : ℕ) (IsRefused : Kind → Type 0) (said : OperandView → TypeFault)
    (why : TypeFault) : Type 0 where
  pub kind : Kind
  pub found : kind_in variables operand ≡ Some kind
  pub refused : IsRefused kind
  pub is_said : why ≡ said (record { at = at; kind = kind })

-- an operator of a chain does not take what stands before it, which begins where the chain does, and the operand at its right
pub record IsRefusedOperator (variables : List DeclView) (first : Expr) (more : List (ℕ × Op × Expr)) (why : TypeFault) : Type 0 where
  pub index : ℕ
  pub next : ℕ × Op × Expr
  pub is : slice_get more index ≡ Some next
  pub right : Kind
  pub found : kind_in variables (view next.2) ≡ Some right
  pub left : IsUnfit variables (chain_of (view first) (view_more (take index more))) (expr_place first) (λ k. operator next.1 k right ≡ None)
      (λ left. operator_refusal next.1 left (record { at = expr_place next.2; kind = right })) why

-- a suffix does not take the operand with the suffixes before it, which begins where the operand does
pub record IsRefusedSuffix (variables : List DeclView) (inner : Expr) (suffixes : List Suffix) (why : TypeFault) : Type 0 where
  pub index : ℕ
  pub suffix : Suffix
  pub is : slice_get suffixes index ≡ Some suffix
  pub left : IsUnfit variables (suffixes_of (view inner) (take index suffixes)) (expr_place inner) (λ k. suffixed_by suffix k ≡ None)
      (suffix_refusal suffix) why

-- the operands of an expression
abbrev pub operands : Expr-F Expr → List Expr
operands (Expr-F.Group at inner) = inner.value ∷ []
operands (Expr-F.GroupedBinary at parts) = parts.value.0 ∷ parts.value.3 ∷ []
operands (Expr-F.Not at inner) = inner.value ∷ []
operands (Expr-F.Binary parts) = parts.value.0 ∷ parts.value.3 ∷ []
operands (Expr-F.Chain first more) = first.value ∷ map (λ x. x.2) more.items
operands (Expr-F.Member op left set) = left.value ∷ []
operands (Expr-F.Suffixed inner suffixes) = inner.value ∷ []
operands _ = []

-- an expression has this fault of its own
abbrev pub HasOwnFault : List DeclView → Expr-F Expr → TypeFault → Type 0
HasOwnFault variables (Expr-F.Name at text) why = (kind_named variables text ≡ None) × (why ≡ fault.UnknownName at)
HasOwnFault variables (Expr-F.AttributePart at a s) why =
    IsUnfit variables (ExprView.attribute a) at (λ k. suffixed_by s k ≡ None) (suffix_refusal s) why
HasOwnFault variables (Expr-F.GroupedBinary at parts) why =
    IsRefusedOperator variables parts.value.0 ((parts.value.1, parts.value.2, parts.value.3) ∷ []) why
HasOwnFault variables (Expr-F.Not at inner) why =
    IsUnfit variables (view inner.value) (expr_place inner.value) (λ k. negated k ≡ None) (λ left. wrong_kind left expected.Bool) why
HasOwnFault variables (Expr-F.Binary parts) why =
    IsRefusedOperator variables parts.value.0 ((parts.value.1, parts.value.2, parts.value.3) ∷ []) why
HasOwnFault variables (Expr-F.Chain first more) why = IsRefusedOperator variables first.value more.items why
HasOwnFault variables (Expr-F.Member op left set) why =
    IsUnfit variables (view left.value) (expr_place left.value) (λ k. in_set (view_members set.members) k ≡ None)
    (member_refusal (view_members set.members)) why
HasOwnFault variables (Expr-F.Suffixed inner suffixes) why = IsRefusedSuffix variables inner.value suffixes.items why
HasOwnFault variables _ why = ⊥

-- an expression has this fault, of its own or of one of its operands
pub data HasFault (variables : List DeclView) : Expr → TypeFault → Type 0 where
  own : {x : Expr} {why : TypeFault} (form : Expr-F Expr) → x ≡ roll-Expr form → HasOwnFault variables form why → HasFault variables x why
  of_operand : {x : Expr} {why : TypeFault} (form : Expr-F Expr) (operand : Expr) → x ≡ roll-Expr form → Contains (operands form) operand
      → HasFault variables operand why → HasFault variables x why

-- ---- commands

-- what is assigned at this place is no variable, or `net`
abbrev pub IsTargetFault : List DeclView → ℕ → Target → TypeFault → Type 0
IsTargetFault variables at (target.Name text) why = (kind_named variables text ≡ None) × (why ≡ fault.UnknownName at)
IsTargetFault variables at target.Net why = why ≡ fault.NetAssigned at
IsTargetFault variables at target.RipMetric why = ⊥

-- an expression has another kind than its place in a command takes
abbrev pub IsOtherKind : List DeclView → Kind → Expr → TypeFault → Type 0
IsOtherKind variables wanted x why =
    IsUnfit variables (view x) (expr_place x) (λ k. k ≢ wanted) (λ operand. wrong_kind operand (expected_of wanted)) why

-- the right side of an assignment has another kind than what it sets
abbrev pub IsOtherThanTarget : List DeclView → Target → Expr → TypeFault → Type 0
IsOtherThanTarget variables target value why =
    (wanted : Kind) × (target_kind variables (view_target target) ≡ Some wanted) × IsOtherKind variables wanted value why

-- the label of a part of a `case` shares a number with an earlier one; the labels before it share none
pub record SharesLabel (parts : List (Label × Vec Command Global)) (why : TypeFault) : Type 0 where
  pub index : ℕ
  pub part : Label × Vec Command Global
  pub is : slice_get parts index ≡ Some part
  pub before : AreAllApart (map (λ p. label_ranges (view_label p.0)) (take index parts))
  pub shared : ¬ AreAllApart (map (λ p. label_ranges (view_label p.0)) (take (index + 1) parts))
  pub is_said : why ≡ fault.SharedLabel (label_place part.0)

-- the expressions of a command, and the commands in it
abbrev pub expressions : Command-F Command → List Expr
expressions (Command-F.If at test chosen other) = test ∷ []
expressions (Command-F.Case at argument parts) = argument ∷ []
expressions (Command-F.Assign at target value) = value ∷ []
expressions _ = []

abbrev pub commands_in : Command-F Command → List Command
commands_in (Command-F.Block at body) = body.items
commands_in (Command-F.If at test chosen None) = chosen.value ∷ []
commands_in (Command-F.If at test chosen (Some other)) = chosen.value ∷ other.value ∷ []
commands_in (Command-F.Case at argument parts) = flat_map (λ p. p.1.items) parts.items
commands_in _ = []

-- a command has this fault of its own
abbrev pub CommandHasOwnFault : List DeclView → Command-F Command → TypeFault → Type 0
CommandHasOwnFault variables (Command-F.If at test chosen other) why = IsOtherKind variables condition_kind test why
CommandHasOwnFault variables (Command-F.Case at argument parts) why =
    IsOtherKind variables argument_kind argument why ⊎ SharesLabel parts.items why
CommandHasOwnFault variables (Command-F.Assign at target value) why =
    IsTargetFault variables at target why ⊎ IsOtherThanTarget variables target value why
CommandHasOwnFault variables _ why = ⊥

-- a command has this fault, of its own, of one of its expressions or of a command in it
pub data CommandHasFault (variables : List DeclView) : Command → TypeFault → Type 0 where
  own : {x : Command} {why : TypeFault} (form : Command-F Command) → x ≡ roll-Command form → CommandHasOwnFault variables form why
      → CommandHasFault variables x why
  of_expression : {x : Command} {why : TypeFault} (form : Command-F Command) (operand : Expr) → x ≡ roll-Command form
      → Contains (expressions form) operand → HasFault variables operand why → CommandHasFault variables x why
  of_command : {x : Command} {why : TypeFault} (form : Command-F Command) (inner : Command) → x ≡ roll-Command form → Contains (commands_in form) inner
      → CommandHasFault variables inner why → CommandHasFault variables x why

-- ---- filters

-- a variable has the name of an earlier one
pub record IsDeclaredTwice (variables : List Decl) (why : TypeFault) : Type 0 where
  pub index : ℕ
  pub variable : Decl
  pub is : slice_get variables index ≡ Some variable
  pub earlier : Contains (map (λ d. d.name.items) (take index variables)) variable.name.items
  pub is_said : why ≡ fault.DeclaredTwice variable.at

-- a variable is one more than a filter may have
abbrev pub IsOneTooMany : List Decl → TypeFault → Type 0
IsOneTooMany variables why = (variable : Decl) × (slice_get variables variable_limit ≡ Some variable) × (why ≡ fault.TooManyVariables variable.at)

-- a filter has this fault, of a declaration or of a command
pub data IsFaultOf (filter : Filter) (why : TypeFault) : Type 0 where
  declared_twice : IsDeclaredTwice (decls_of filter) why → IsFaultOf filter why
  one_too_many : IsOneTooMany (decls_of filter) why → IsFaultOf filter why
  of_command : (command : Command) → Contains (body_of filter) command → CommandHasFault (map view_decl (decls_of filter)) command why
      → IsFaultOf filter why

-- the places that the tree of a filter keeps
abbrev pub filter_kept : Filter → Kept
filter_kept filter = joined (map decl_kept (decls_of filter)) ++ joined (map command_kept (body_of filter))

abbrev pub KeepsPlace : Filter → ℕ → Type 0
KeepsPlace filter at = Contains (filter_kept filter) (Some at)
