-- Where the parts of an expression are in the text: each part that keeps a place keeps the place of its own token. (This project's
-- own choice.)
use Rattle.std.specs.Prelude.{◌≡◌, ℕ, Option, Some, None, List, [], ◌∷◌, ◌++◌, map, Bool, true, false, Vec}
use Rattle.filter_tokens.specs.declared.token.Token.{Token}
use Rattle.filter_syntax.specs.declared.tree.expr.Expr.{Expr}
use Rattle.filter_syntax.specs.declared.tree.expr.Expr.TheFolds.{fold-Expr}
use Rattle.filter_syntax.specs.declared.tree.expr.Expr.TheOpen.{Expr-F}
use Rattle.filter_syntax.specs.declared.tree.op.Op.{Op}
use Rattle.filter_syntax.specs.declared.tree.op.Suffix.{Suffix}
use Rattle.filter_syntax.specs.declared.tree.op.Suffix.TheVariants as suffix
use Rattle.filter_syntax.specs.declared.tree.set.Members.{Members}
use Rattle.filter_syntax.specs.declared.tree.set.Members.TheVariants as members
use Rattle.filter_syntax.specs.declared.tree.set.Set.{Set}
use Rattle.filter_syntax.specs.declared.tree.set.SetPattern.{SetPattern}
use Rattle.filter_syntax.specs.declared.tree.set.SetPattern.TheVariants as written
use Rattle.filter_syntax.specs.declared.tree.set.SetRange.{SetRange}
use Rattle.filter_syntax.specs.declared.tree.set.SetRange.TheVariants as range
use Rattle.std.specs.declared.alloc.Global.{Global}
use Rattle.filter_tokens.specs.Lexemes.{Lexeme, lexeme}
use Rattle.filter_tokens.specs.declared.symbol.Symbol.TheVariants as symbols
use Rattle.filter_syntax.specs.declared.tree.command.Command.{Command}
use Rattle.filter_syntax.specs.declared.tree.command.Command.TheFolds.{fold-Command}
use Rattle.filter_syntax.specs.declared.tree.command.Command.TheOpen.{Command-F}
use Rattle.filter_syntax.specs.declared.tree.command.Label.{Label}
use Rattle.filter_syntax.specs.declared.tree.command.Label.TheVariants as label
use Rattle.filter_syntax.specs.declared.tree.decl.Decl.{Decl}
use Rattle.filter_syntax.specs.declared.tree.filter.Filter.{Filter}

-- for each token of a part, in the order of the text, the place that the tree keeps for it, if it keeps one
abbrev pub Kept : Type 0
Kept = List (Option ℕ)

-- what parts keep one after another
abbrev pub joined : List Kept → Kept
joined [] = []
joined (first ∷ more) = first ++ joined more

-- a suffix keeps no place
abbrev pub suffix_kept : Suffix → Kept
suffix_kept suffix.Ip = None ∷ None ∷ []
suffix_kept suffix.Len = None ∷ None ∷ []
suffix_kept (suffix.Mask n) = None ∷ None ∷ None ∷ None ∷ None ∷ []

-- a pattern keeps the place of its prefix
abbrev pub set_pattern_kept : SetPattern → Kept
set_pattern_kept (written.Exact at bits) = Some at ∷ []
set_pattern_kept (written.OrLonger at bits) = Some at ∷ None ∷ []
set_pattern_kept (written.OrShorter at bits) = Some at ∷ None ∷ []
set_pattern_kept (written.Between at pattern) = Some at ∷ None ∷ None ∷ None ∷ None ∷ None ∷ []

-- a pattern after a comma
abbrev pub next_pattern_kept : SetPattern → Kept
next_pattern_kept pattern = None ∷ set_pattern_kept pattern

-- the patterns of a set
abbrev pub set_patterns_kept : List SetPattern → Kept
set_patterns_kept [] = []
set_patterns_kept (first ∷ more) = set_pattern_kept first ++ joined (map next_pattern_kept more)

-- a range keeps the place of its first int
abbrev pub range_kept : SetRange → Kept
range_kept (range.One at n) = Some at ∷ []
range_kept (range.FromTo at r) = Some at ∷ None ∷ None ∷ []

-- a range after a comma
abbrev pub next_range_kept : SetRange → Kept
next_range_kept one = None ∷ range_kept one

-- the ranges of a set or a label
abbrev pub ranges_kept : List SetRange → Kept
ranges_kept [] = []
ranges_kept (first ∷ more) = range_kept first ++ joined (map next_range_kept more)

-- the members of a set
abbrev pub members_kept : Members → Kept
members_kept (members.Patterns patterns) = set_patterns_kept patterns.items
members_kept (members.Ranges ranges) = ranges_kept ranges.items

-- a set keeps the place of its `[`
abbrev pub set_kept : Set → Kept
set_kept set = Some set.at ∷ (members_kept set.members ++ None ∷ [])

-- an operator keeps its place, and the operand at its right follows
abbrev pub operand_kept : ℕ × Op × Kept → Kept
operand_kept x = Some x.0 ∷ x.2

-- an expression, where the expressions in it are known: it keeps the place of its first token, unless its first part does
abbrev pub expr_kept_step : Expr-F Kept → Kept
expr_kept_step (Expr-F.Number at n) = Some at ∷ []
expr_kept_step (Expr-F.Address at a) = Some at ∷ []
expr_kept_step (Expr-F.Prefix at bits) = Some at ∷ []
expr_kept_step (Expr-F.Truth at b) = Some at ∷ []
expr_kept_step (Expr-F.Name at text) = Some at ∷ []
expr_kept_step (Expr-F.Attribute at a) = Some at ∷ []
expr_kept_step (Expr-F.Defined at a) = Some at ∷ None ∷ None ∷ None ∷ []
expr_kept_step (Expr-F.AttributePart at a s) = Some at ∷ suffix_kept s
expr_kept_step (Expr-F.Group at inner) = Some at ∷ (inner.value ++ None ∷ [])
expr_kept_step (Expr-F.GroupedBinary at parts) = Some at ∷ ((parts.value.0 ++ Some parts.value.1 ∷ parts.value.3) ++ None ∷ [])
expr_kept_step (Expr-F.Not at inner) = Some at ∷ inner.value
expr_kept_step (Expr-F.Binary parts) = parts.value.0 ++ Some parts.value.1 ∷ parts.value.3
expr_kept_step (Expr-F.Chain first more) = first.value ++ joined (map operand_kept more.items)
expr_kept_step (Expr-F.Member op left set) = left.value ++ None ∷ set_kept set
expr_kept_step (Expr-F.Suffixed inner suffixes) = inner.value ++ joined (map suffix_kept suffixes.items)

-- an expression
abbrev pub expr_kept : Expr → Kept
expr_kept = fold-Expr Kept expr_kept_step

-- the operators of a chain, each with what the operand at its right keeps
abbrev pub kept_more : List (ℕ × Op × Expr) → List (ℕ × Op × Kept)
kept_more xs = map (λ p. (p.0, p.1, expr_kept p.2)) xs

-- these are as many tokens as there are places, and each place that is kept is that of its token
abbrev pub AreAt : Kept → List Token → Type 0
AreAt [] [] = Unit {0}
AreAt [] (token ∷ tokens) = ⊥
AreAt (place ∷ places) [] = ⊥
AreAt (None ∷ places) (token ∷ tokens) = AreAt places tokens
AreAt (Some at ∷ places) (token ∷ tokens) = (at ≡ token.from) × AreAt places tokens

-- the text, if there is one, and the `;` that ends `accept` and `reject`
abbrev pub end_kept : Bool → Kept
end_kept true = None ∷ None ∷ []
end_kept false = None ∷ []

-- a label keeps the places of its ranges, or that of its `else`
abbrev pub label_kept : Label → Kept
label_kept (label.Ranges ranges) = ranges_kept ranges.items
label_kept (label.Else at) = Some at ∷ []

-- a part of a `case`, where its commands are known
abbrev pub part_kept_step : Label × Vec Kept Global → Kept
part_kept_step part = label_kept part.0 ++ None ∷ joined part.1.items

-- a command, where the commands in it are known: it keeps the place of its first token
abbrev pub command_kept_step : Command-F Kept → Kept
command_kept_step (Command-F.Empty at) = Some at ∷ []
command_kept_step (Command-F.Block at body) = Some at ∷ (joined body.items ++ None ∷ [])
command_kept_step (Command-F.If at test chosen None) = Some at ∷ (expr_kept test ++ None ∷ chosen.value)
command_kept_step (Command-F.If at test chosen (Some other)) = Some at ∷ (expr_kept test ++ None ∷ (chosen.value ++ None ∷ other.value))
command_kept_step (Command-F.Case at argument parts) =
    Some at ∷ (expr_kept argument ++ None ∷ (joined (map part_kept_step parts.items) ++ None ∷ []))
command_kept_step (Command-F.Assign at target value) = Some at ∷ None ∷ (expr_kept value ++ None ∷ [])
command_kept_step (Command-F.Accept at has_text) = Some at ∷ end_kept has_text
command_kept_step (Command-F.Reject at has_text) = Some at ∷ end_kept has_text

-- a command
abbrev pub command_kept : Command → Kept
command_kept = fold-Command Kept command_kept_step

-- a part of a `case`
abbrev pub part_kept : Label × Vec Command Global → Kept
part_kept part = label_kept part.0 ++ None ∷ joined (map command_kept part.1.items)

-- a declaration keeps the place of its name
abbrev pub decl_kept : Decl → Kept
decl_kept d = None ∷ Some d.at ∷ None ∷ []

-- the declarations and commands of a filter have the places of their own tokens: the declarations before the brace, and those
-- after it with the commands
pub record ArePlaced (text : List ℕ) (tokens : List Token) (decls : List Decl) (body : List Command) : Type 0 where
  pub head : List Decl
  pub inner : List Decl
  pub declared : decls ≡ head ++ inner
  pub front : List Token
  pub brace : Token
  pub back : List Token
  pub cut : tokens ≡ front ++ brace ∷ back
  pub is_brace : lexeme text brace ≡ Lexeme.symbol symbols.LeftBrace
  -- `filter`, the name and the declarations before the brace
  pub head_placed : AreAt (None ∷ None ∷ joined (map decl_kept head)) front
  -- the declarations after the brace, the commands and the `}`
  pub body_placed : AreAt (joined (map decl_kept inner) ++ (joined (map command_kept body) ++ None ∷ [])) back

-- each part of a filter's tree that keeps a place has that of its own token in the text
abbrev pub IsPlaced : List ℕ → Filter → Type 0
IsPlaced text filter = ArePlaced text filter.tokens.items filter.decls.items filter.body.items
