-- Where in the text each instruction of a translation comes from: the place of the part that it translates. A place is the number
-- of bytes of the text before it. (This project's own choice.)
use Rattle.std.specs.Prelude.{ℕ, Bool, true, false, List, [], ◌∷◌, ◌++◌, Some, None, Vec, flat_map, length, map, replicate}
use Rattle.std.specs.declared.alloc.Global.{Global}
use Rattle.filter_code.specs.declared.instruction.Instr.{Instr}
use Rattle.filter_code.specs.declared.instruction.Instr.TheVariants as instr
use Rattle.filter_syntax.specs.Places.{range_place}
use Rattle.filter_syntax.specs.Places.{body_of, decls_of, end_place}
use Rattle.filter_syntax.specs.SyntaxCommands.{view_target}
use Rattle.filter_syntax.specs.declared.tree.command.Command.{Command}
use Rattle.filter_syntax.specs.declared.tree.command.Command.TheFolds.{fold-Command}
use Rattle.filter_syntax.specs.declared.tree.command.Command.TheOpen.{Command-F}
use Rattle.filter_syntax.specs.declared.tree.command.Label.{Label}
use Rattle.filter_syntax.specs.declared.tree.command.Label.TheVariants as label
use Rattle.filter_syntax.specs.declared.tree.command.Target.{Target}
use Rattle.filter_syntax.specs.declared.tree.set.SetRange.{SetRange}
use Rattle.filter_syntax.specs.declared.tree.decl.Decl.{Decl}
use Rattle.filter_syntax.specs.declared.tree.expr.Expr.{Expr}
use Rattle.filter_syntax.specs.declared.tree.expr.Expr.TheFolds.{fold-Expr}
use Rattle.filter_syntax.specs.declared.tree.expr.Expr.TheOpen.{Expr-F}
use Rattle.filter_syntax.specs.declared.tree.filter.Filter.{Filter}
use Rattle.filter_syntax.specs.declared.tree.op.Op.{Op}
use Rattle.filter_syntax.specs.declared.tree.op.Op.TheVariants as o
use Rattle.filter_syntax.specs.declared.tree.op.Suffix.{Suffix}
use Rattle.filter_compiler.specs.Translation.{member_code, operator_code, target_code}

-- the same place for each of these instructions
abbrev pub all_at : ℕ → List Instr → List ℕ
all_at at code = replicate (length code) at

-- an operator at this place, where the places of its right operand are known: the instructions of `&&` and `||` before and after
-- the operand, and those that take both operands, are at the operator
abbrev pub right_places : ℕ → Op → List ℕ → List ℕ
right_places at o.And right = at ∷ (right ++ at ∷ at ∷ [])
right_places at o.Or right = at ∷ at ∷ at ∷ right
right_places at op right = right ++ all_at at (operator_code op)

-- an expression: the place that it begins at, and the places of its instructions
pub record Origins : Type 0 where
  pub start : ℕ
  pub places : List ℕ

-- the operators of a chain, each with its right operand
abbrev pub rights_places : List (ℕ × Op × Origins) → List ℕ
rights_places = flat_map (λ x. right_places x.0 x.1 x.2.places)

-- a suffix has the place of its operand
abbrev pub suffixes_places : ℕ → List Suffix → List ℕ
suffixes_places start suffixes = replicate (length suffixes) start

-- what is one instruction
abbrev pub alone : ℕ → Origins
alone at = record { start = at; places = at ∷ [] }

-- an expression, where the expressions in it are known: `!` stands after its operand, and the question for a set is at its `[`
abbrev pub origins_step : Expr-F Origins → Origins
origins_step (Expr-F.Number at n) = alone at
origins_step (Expr-F.Address at a) = alone at
origins_step (Expr-F.Prefix at bits) = alone at
origins_step (Expr-F.Truth at b) = alone at
origins_step (Expr-F.Name at text) = alone at
origins_step (Expr-F.Attribute at a) = alone at
origins_step (Expr-F.Defined at a) = alone at
origins_step (Expr-F.AttributePart at a s) = record { start = at; places = at ∷ at ∷ [] }
origins_step (Expr-F.Group at inner) = record { start = at; places = inner.value.places }
origins_step (Expr-F.GroupedBinary at parts) = record {
  start = at;
  places = parts.value.0.places ++ right_places parts.value.1 parts.value.2 parts.value.3.places;
}
origins_step (Expr-F.Not at inner) = record { start = at; places = inner.value.places ++ at ∷ [] }
origins_step (Expr-F.Binary parts) = record {
  start = parts.value.0.start;
  places = parts.value.0.places ++ right_places parts.value.1 parts.value.2 parts.value.3.places;
}
origins_step (Expr-F.Chain first more) =
    record { start = first.value.start; places = first.value.places ++ rights_places more.items }
origins_step (Expr-F.Member op left set) =
    record { start = left.value.start; places = left.value.places ++ all_at set.at (member_code op (instr.Member 0)) }
origins_step (Expr-F.Suffixed inner suffixes) = record {
  start = inner.value.start;
  places = inner.value.places ++ suffixes_places inner.value.start suffixes.items;
}

-- an expression
abbrev pub origins : Expr → Origins
origins = fold-Expr Origins origins_step

abbrev pub expression_places : Expr → List ℕ
expression_places tree = (origins tree).places

-- what sets a variable or the metric is at the name that is assigned
abbrev pub target_places : ℕ → Target → List ℕ
target_places at target = all_at at (target_code [] (view_target target))

-- the place of a label: that of its first range
abbrev pub label_place : ℕ → List SetRange → ℕ
label_place at [] = at
label_place at (range ∷ more) = range_place range

-- a part of a `case` whose label has this place: the argument's instructions are where they are, and the question for its set and both
-- jumps are at the label
abbrev pub part_places : List ℕ → ℕ → List ℕ → List ℕ → List ℕ
part_places argument at commands rest = (argument ++ at ∷ at ∷ commands) ++ at ∷ rest

-- the parts of a `case`, where the places of their commands are known, and those of the `else` part
abbrev pub parts_places : ℕ → List ℕ → List ℕ → List (Label × List ℕ) → List ℕ
parts_places at argument other [] = other
parts_places at argument other ((label.Ranges ranges, commands) ∷ more) =
    part_places argument (label_place at ranges.items) commands (parts_places at argument other more)
parts_places at argument other ((label.Else place, commands) ∷ more) = parts_places at argument commands more

-- whether a part has a label of ranges
abbrev pub some_labelled : List (Label × List ℕ) → Bool
some_labelled [] = false
some_labelled ((label.Ranges ranges, commands) ∷ more) = true
some_labelled ((label.Else place, commands) ∷ more) = some_labelled more

-- the part that a `case` without a labelled part begins with is at the `case`
abbrev pub opening_places : Bool → ℕ → List ℕ → List ℕ → List ℕ
opening_places true at argument rest = rest
opening_places false at argument rest = part_places argument at [] rest

-- a `case` at this place
abbrev pub case_places : ℕ → List ℕ → List (Label × List ℕ) → List ℕ
case_places at argument parts = opening_places (some_labelled parts) at argument (parts_places at argument [] parts)

-- the places of a part's commands, where those of each command are known
abbrev pub part_step : Label × Vec (List ℕ) Global → Label × List ℕ
part_step part = (part.0, flat_map (λ places. places) part.1.items)

-- a command, where the commands in it are known: the jumps of `if` and `else` are at the `if`
abbrev pub command_places_step : Command-F (List ℕ) → List ℕ
command_places_step (Command-F.Empty at) = []
command_places_step (Command-F.Block at body) = flat_map (λ places. places) body.items
command_places_step (Command-F.If at test chosen None) = expression_places test ++ at ∷ chosen.value
command_places_step (Command-F.If at test chosen (Some other)) =
    expression_places test ++ at ∷ (chosen.value ++ at ∷ other.value)
command_places_step (Command-F.Case at argument parts) = case_places at (expression_places argument) (map part_step parts.items)
command_places_step (Command-F.Assign at target value) = expression_places value ++ target_places at target
command_places_step (Command-F.Accept at has_text) = at ∷ []
command_places_step (Command-F.Reject at has_text) = at ∷ []

-- a command
abbrev pub command_places : Command → List ℕ
command_places = fold-Command (List ℕ) command_places_step

-- a part of a `case`: its label, and the places of its commands
abbrev pub part_of : Label × Vec Command Global → Label × List ℕ
part_of part = (part.0, flat_map command_places part.1.items)

-- a declaration is two instructions, which are at the name
abbrev pub decl_places : Decl → List ℕ
decl_places d = d.at ∷ d.at ∷ []

-- the places of a filter's instructions: its declarations, its commands, and the REJECT at its end
abbrev pub places_of : Filter → List ℕ
places_of filter = flat_map decl_places (decls_of filter)
    ++ (flat_map command_places (body_of filter) ++ end_place filter ∷ [])
