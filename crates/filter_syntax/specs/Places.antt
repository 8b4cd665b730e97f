-- The places of the parts of an expression: each is a number of bytes, those of the text before the part (this project's own choice).
use Rattle.std.specs.Prelude.{ℕ, ◌-◌, List, Option, Some, None, length, slice_get}
use Rattle.filter_syntax.specs.declared.tree.expr.Expr.{Expr}
use Rattle.filter_syntax.specs.declared.tree.expr.Expr.TheFolds.{fold-Expr}
use Rattle.filter_syntax.specs.declared.tree.expr.Expr.TheOpen.{Expr-F}
use Rattle.filter_syntax.specs.declared.tree.set.SetPattern.{SetPattern}
use Rattle.filter_syntax.specs.declared.tree.set.SetPattern.TheVariants as written
use Rattle.filter_syntax.specs.declared.tree.set.SetRange.{SetRange}
use Rattle.filter_syntax.specs.declared.tree.set.SetRange.TheVariants as range
use Rattle.filter_tokens.specs.declared.token.Token.{Token}
use Rattle.filter_syntax.specs.declared.tree.command.Command.{Command}
use Rattle.filter_syntax.specs.declared.tree.command.Command.TheFolds.{fold-Command}
use Rattle.filter_syntax.specs.declared.tree.command.Command.TheOpen.{Command-F}
use Rattle.filter_syntax.specs.declared.tree.decl.Decl.{Decl}
use Rattle.filter_syntax.specs.declared.tree.filter.Filter.{Filter}

-- the place of an expression, where those of the expressions in it are known
abbrev pub expr_place_step : Expr-F ℕ → ℕ
expr_place_step (Expr-F.Number at n) = at
expr_place_step (Expr-F.Address at a) = at
expr_place_step (Expr-F.Prefix at bits) = at
expr_place_step (Expr-F.Truth at b) = at
expr_place_step (Expr-F.Name at text) = at
expr_place_step (Expr-F.Attribute at a) = at
expr_place_step (Expr-F.Defined at a) = at
expr_place_step (Expr-F.AttributePart at a s) = at
expr_place_step (Expr-F.Group at inner) = at
expr_place_step (Expr-F.GroupedBinary at parts) = at
expr_place_step (Expr-F.Not at inner) = at
expr_place_step (Expr-F.Binary parts) = parts.value.0
expr_place_step (Expr-F.Chain first more) = first.value
expr_place_step (Expr-F.Member op left set) = left.value
expr_place_step (Expr-F.Suffixed inner suffixes) = inner.value

-- the place of an expression: a chain, an operand with a set and one with suffixes begin where their first part does
abbrev pub expr_place : Expr → ℕ
expr_place = fold-Expr ℕ expr_place_step

-- the place of a pattern in a set
abbrev pub pattern_place : SetPattern → ℕ
pattern_place (written.Exact at bits) = at
pattern_place (written.OrLonger at bits) = at
pattern_place (written.OrShorter at bits) = at
pattern_place (written.Between at pattern) = at

-- the place of a range in a set or a label
abbrev pub range_place : SetRange → ℕ
range_place (range.One at n) = at
range_place (range.FromTo at r) = at

-- the place of a command, where those of the commands in it are known
abbrev pub command_place_step : Command-F ℕ → ℕ
command_place_step (Command-F.Empty at) = at
command_place_step (Command-F.Block at body) = at
command_place_step (Command-F.If at test chosen other) = at
command_place_step (Command-F.Case at argument parts) = at
command_place_step (Command-F.Assign at target value) = at
command_place_step (Command-F.Accept at has_text) = at
command_place_step (Command-F.Reject at has_text) = at

-- the place of a command
abbrev pub command_place : Command → ℕ
command_place = fold-Command ℕ command_place_step

-- the declarations and the commands of a filter, with their places
abbrev pub decls_of : Filter → List Decl
decls_of filter = filter.decls.items

abbrev pub body_of : Filter → List Command
body_of filter = filter.body.items

-- the place of a token, and 0 where there is none
abbrev pub token_place : Option Token → ℕ
token_place None = 0
token_place (Some token) = token.from

-- the place of the last token of a filter, which is the `}` of its body
abbrev pub end_place : Filter → ℕ
end_place filter = token_place (slice_get filter.tokens.items (length filter.tokens.items - 1))
